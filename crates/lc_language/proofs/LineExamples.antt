-- Worked lines, tokens and refusals, by evaluation of the definitions.
--   lines                a line of each kind
--   faults               lines of faults without and with numbers
--   tokens_of_call       how a call is cut into tokens
--   wide_number, bad_byte      a number that is too wide; a byte that begins no token, after a comment
--   not_a_field, short_hamming, large_field, long_repetition, too_large_entry      refusals of calls with their numbers
use Rattle.std.proofs.Common.{◌≡◌, refl}
use Rattle.std.specs.Prelude.{[], ◌∷◌, ◌++◌, map, codes, Some, None, true, false, List, Option, option_and_then}
use Rattle.std.specs.Fmt.{digits}
use Rattle.lc_algebra.specs.declared.FieldName.TheVariants.{Gf2, Gf4, Gf25}
use Rattle.lc_algebra.specs.Field.{shape, shape_of, size, is_symbol}
use Rattle.lc_algebra.specs.Span.{below}
use Rattle.lc_constructions.specs.Basic.{hamming_length}
use Rattle.lc_constructions.specs.Cyclic.{all_fields}
use Rattle.lc_language.specs.declared.ValueCall.{ValueCall}
use Rattle.lc_language.specs.declared.ValueCall.TheVariants.{Gf, HammingCode, RepetitionCode}
use Rattle.lc_language.specs.declared.QueryCall.{QueryCall}
use Rattle.lc_language.specs.declared.QueryCall.TheVariants.{LeastWord}
use Rattle.lc_language.specs.Calls.{bind, value_forms, bind_query, query_forms, refusals_of, refusal_of, query_refusals_of, query_refusal_of}
use Rattle.lc_grammar.specs.declared.TokenKind.TheVariants.{Name, Assign, Open, Close, Number, End}
use Rattle.lc_language.specs.Value.{Value, number, field, numbers, lists, truth, nothing, number_in, field_in, numbers_in, lists_in, code_in}
use Rattle.lc_formats.specs.Text.{bracketed, numbers_text, lists_text, line, spaced, with_values}
use Rattle.lc_language.specs.Print.{field_text, code_text, value_text, value_line, fault_line}
use Rattle.lc_grammar.specs.Token.{is_blank, is_letter, is_digit, is_name_byte, number_from, number_of, widest, cut_of, assign_at, sign_at, token_at, script_end, bad_token, too_wide, ended, token_first, is_number, comment_length, scan_within, scan}
use Rattle.lc_constructions.specs.Code.{is_length}
use Rattle.lc_constructions.specs.Refusal.{refusal_number, refusal_values, refuse_if}
use Rattle.lc_constructions.specs.Refusals.{columns_of, are_elements, have_elements, are_equally_long, too_large, bad_length, bad_argument, matrix_refusals, length_refusals, hamming_refusals}
use Rattle.lc_language.specs.Refusal.{Refusal, refuse, when, first_of, refusal_from, from_codes}

-- the refusal of a call with these arguments
unfoldable pub call_refusal : ValueCall → List Value → Option Refusal
call_refusal c arguments = option_and_then refusal_of (bind c arguments)

unfoldable pub query_refusal : QueryCall → List Value → Option Refusal
query_refusal c arguments = option_and_then query_refusal_of (bind_query c arguments)

pub lines : map value_line (number 12 ∷ field Gf4 ∷ numbers (1 ∷ 0 ∷ 3 ∷ []) ∷ numbers [] ∷ lists ((1 ∷ 0 ∷ []) ∷ (0 ∷ 1 ∷ []) ∷ []) ∷ truth true ∷ truth false ∷ nothing ∷ []) ≡ (codes "12" ++ 10 ∷ []) ∷ (codes "GF(4)" ++ 10 ∷ []) ∷ (codes "[1,0,3]" ++ 10 ∷ []) ∷ (codes "[]" ++ 10 ∷ []) ∷ (codes "[[1,0],[0,1]]" ++ 10 ∷ []) ∷ (codes "true" ++ 10 ∷ []) ∷ (codes "false" ++ 10 ∷ []) ∷ (codes "none" ++ 10 ∷ []) ∷ []
unfolding digits shape shape_of size bracketed numbers_text lists_text field_text code_text value_text line value_line
lines = refl

pub faults : fault_line 44 10 [] ++ fault_line 3 0 (1 ∷ []) ++ fault_line 8 0 (1 ∷ 2 ∷ []) ≡ codes "fault 44 at 10" ++ 10 ∷ [] ++ codes "fault 3 at 0 with 1" ++ 10 ∷ [] ++ codes "fault 8 at 0 with 1 2" ++ 10 ∷ []
unfolding digits line spaced with_values fault_line
faults = refl

pub tokens_of_call : scan (codes "x := GF(2);") ≡ record { tokens = record { kind = Name; start = 0; end = 1 } ∷ record { kind = Assign; start = 2; end = 4 } ∷ record { kind = Name; start = 5; end = 7 } ∷ record { kind = Open; start = 7; end = 8 } ∷ record { kind = Number; start = 8; end = 9 } ∷ record { kind = Close; start = 9; end = 10 } ∷ record { kind = End; start = 10; end = 11 } ∷ []; ending = script_end 11 }
unfolding is_blank is_letter is_digit is_name_byte number_from number_of widest cut_of assign_at sign_at token_at ended token_first is_number comment_length scan_within scan
tokens_of_call = refl

pub wide_number : (scan (codes "x := 18446744073709551616;")).ending ≡ too_wide 5
unfolding is_blank is_letter is_digit is_name_byte number_from number_of widest cut_of assign_at sign_at token_at ended token_first is_number comment_length scan_within scan
wide_number = refl

pub bad_byte : (scan (codes "# a comment $" ++ 10 ∷ 36 ∷ [])).ending ≡ bad_token 14
unfolding is_blank is_letter is_digit is_name_byte number_from number_of widest cut_of assign_at sign_at token_at ended token_first is_number comment_length scan_within scan
bad_byte = refl

pub not_a_field : call_refusal Gf (number 6 ∷ []) ≡ Some (refuse 1 [])
unfolding shape shape_of size is_symbol below refuse when first_of refusal_number refusal_values refuse_if refusal_from from_codes is_length too_large bad_length bad_argument are_elements have_elements are_equally_long columns_of matrix_refusals length_refusals hamming_refusals all_fields hamming_length refusals_of refusal_of query_refusals_of query_refusal_of bind value_forms bind_query query_forms call_refusal query_refusal number_in field_in numbers_in lists_in code_in
not_a_field = refl

pub short_hamming : call_refusal HammingCode (number 1 ∷ field Gf2 ∷ []) ≡ Some (refuse 3 (1 ∷ []))
unfolding shape shape_of size is_symbol below refuse when first_of refusal_number refusal_values refuse_if refusal_from from_codes is_length too_large bad_length bad_argument are_elements have_elements are_equally_long columns_of matrix_refusals length_refusals hamming_refusals all_fields hamming_length refusals_of refusal_of query_refusals_of query_refusal_of bind value_forms bind_query query_forms call_refusal query_refusal number_in field_in numbers_in lists_in code_in
short_hamming = refl

pub large_field : call_refusal HammingCode (number 2 ∷ field Gf25 ∷ []) ≡ Some (refuse 17 [])
unfolding shape shape_of size is_symbol below refuse when first_of refusal_number refusal_values refuse_if refusal_from from_codes is_length too_large bad_length bad_argument are_elements have_elements are_equally_long columns_of matrix_refusals length_refusals hamming_refusals all_fields hamming_length refusals_of refusal_of query_refusals_of query_refusal_of bind value_forms bind_query query_forms call_refusal query_refusal number_in field_in numbers_in lists_in code_in
large_field = refl

pub long_repetition : map (λ n. call_refusal RepetitionCode (number n ∷ field Gf2 ∷ [])) (0 ∷ 1 ∷ 255 ∷ 256 ∷ []) ≡ Some (refuse 2 []) ∷ None ∷ None ∷ Some (refuse 2 []) ∷ []
unfolding shape shape_of size is_symbol below refuse when first_of refusal_number refusal_values refuse_if refusal_from from_codes is_length too_large bad_length bad_argument are_elements have_elements are_equally_long columns_of matrix_refusals length_refusals hamming_refusals all_fields hamming_length refusals_of refusal_of query_refusals_of query_refusal_of bind value_forms bind_query query_forms call_refusal query_refusal number_in field_in numbers_in lists_in code_in
long_repetition = refl

pub too_large_entry : query_refusal LeastWord (lists ((1 ∷ 2 ∷ []) ∷ []) ∷ field Gf2 ∷ []) ≡ Some (refuse 3 (1 ∷ []))
unfolding shape shape_of size is_symbol below refuse when first_of refusal_number refusal_values refuse_if refusal_from from_codes is_length too_large bad_length bad_argument are_elements have_elements are_equally_long columns_of matrix_refusals length_refusals hamming_refusals all_fields hamming_length refusals_of refusal_of query_refusals_of query_refusal_of bind value_forms bind_query query_forms call_refusal query_refusal number_in field_in numbers_in lists_in code_in
too_large_entry = refl

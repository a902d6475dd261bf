-- Worked values, calls, refusals, lists, texts, slots, certificates and the summary's input, by evaluation of the definitions.
--   empty_lists, asked_lists, last_value       the empty list is of both kinds; a name has its last value
--   named, forms                               calls by their names; the two forms of BCHCode
--   reed_muller, reed_solomon, bch, goppa, alternant, positions, pairs, concatenated, decoded, algebraic, many_words      refusals
--   nearest_refused, uncounted                 a word of another length, or with a symbol that is none; too many words to count
--   listed_values, mixed_lists, made_lists     one element more, of lists of both kinds; elements that don't fit; the lists
--   misfits                                    the first argument that is of another kind
--   least                                      the lines of LeastWord, and distance none
use Rattle.std.proofs.Common.{◌≡◌, refl}
use Rattle.std.specs.Prelude.{ℕ, List, [], ◌∷◌, ◌++◌, map, Option, option_and_then, codes, replicate, Some, None, true, false}
use Rattle.std.specs.Fmt.{digits}
use Rattle.lc_algebra.specs.declared.FieldName.{FieldName}
use Rattle.lc_algebra.specs.declared.FieldName.TheVariants.{Gf2, Gf3, Gf4, Gf5, Gf8, Gf25}
use Rattle.lc_algebra.specs.Residue.{digits as residues, number as number_of_residues, plus, minus, times, top, up, times_x, product}
use Rattle.lc_algebra.specs.Field.{shape, shape_of, size, is_symbol, coefficients, add, mul}
use Rattle.lc_algebra.specs.Polynomial.{value_at}
use Rattle.lc_algebra.specs.Embedding.{is_subfield, first_from, first_that}
use Rattle.lc_algebra.specs.Span.{below}
use Rattle.lc_constructions.specs.Cyclic.{put_on, trimmed, all_fields, locator_field}
use Rattle.lc_enumeration.specs.InformationSet.{is_member}
use Rattle.lc_enumeration.specs.Distribution.{distribution_refusal}
use Rattle.lc_language.specs.declared.Call.TheVariants.{Value as Value_, Query}
use Rattle.lc_language.specs.declared.ValueCall.{ValueCall}
use Rattle.lc_language.specs.declared.ValueCall.TheVariants.{Gf, ReedMullerCode, BchCode, ReedSolomonCode, GoppaCode, AlternantCode, PuncturedCode, UuvCode, ConcatenatedCode, Decode}
use Rattle.lc_language.specs.declared.QueryCall.{QueryCall}
use Rattle.lc_language.specs.declared.QueryCall.TheVariants.{AlgebraicDecode, LeastWord, MinimumDistance, Certificate, ScanCertificate, WeightDistribution, AlternantCertificate, NearestWord}
use Rattle.lc_language.specs.Calls.{bind, value_forms, bind_query, query_forms, value_name, query_name, name_of, signatures, all_calls, value_calls, query_calls, call_named, signature_for, refusals_of, refusal_of, query_refusals_of, query_refusal_of}
use Rattle.lc_language.specs.declared.Kind.TheVariants.{Number, Field, Numbers, Lists}
use Rattle.lc_grammar.specs.Tree as tree
use Rattle.lc_grammar.specs.Tree.{offset_of}
use Rattle.lc_language.specs.Value.{Value, number, field, numbers, lists, code, number_in, field_in, numbers_in, lists_in, code_in, is_kind, Binding, value_named}
use Rattle.lc_formats.specs.Text.{same_bytes, bracketed, numbers_text, line}
use Rattle.lc_constructions.specs.Code.{is_length}
use Rattle.lc_constructions.specs.Coset.{too_many_cosets}
use Rattle.lc_constructions.specs.Refusal.{refusal_number, refusal_values, refuse_if}
use Rattle.lc_constructions.specs.Refusals.{columns_of, are_elements, have_elements, are_equally_long, is_rising, too_large, bad_length, bad_argument, not_subfield, first_index, repeated_point, root_at, fields_differ, lengths_differ, matrix_refusals, bch_refusals, is_size_of_symbol_field, reed_solomon_refusals, is_goppa_polynomial, goppa_refusals, form_refusals, alternant_refusals, reed_muller_refusals, deleted_refusals, uuv_refusals, degree_over, nested_refusals, concatenated_refusals}
use Rattle.lc_language.specs.Refusal.{Refusal, refuse, when, first_of, refusal_from, from_codes, word_refusals, coset_refusal, no_form, no_distribution}
use Rattle.lc_language.specs.Print.{least_line, least_none_line, distance_none_line}
use Rattle.lc_language.specs.Evaluation.{first_misfit, nothing_yet, all_numbers, all_lists, listed_with, list_value}

-- the refusal of a call with these arguments
unfoldable pub call_refusal : ValueCall → List Value → Option Refusal
call_refusal c arguments = option_and_then refusal_of (bind c arguments)

unfoldable pub query_refusal : QueryCall → List Value → Option Refusal
query_refusal c arguments = option_and_then query_refusal_of (bind_query c arguments)

pub empty_lists : map (λ kind. map (is_kind kind) (numbers [] ∷ lists [] ∷ numbers (1 ∷ []) ∷ lists ((1 ∷ []) ∷ []) ∷ [])) (Numbers ∷ Lists ∷ Number ∷ []) ≡ (true ∷ true ∷ true ∷ false ∷ []) ∷ (true ∷ true ∷ false ∷ true ∷ []) ∷ (false ∷ false ∷ false ∷ false ∷ []) ∷ []
unfolding is_kind number_in field_in numbers_in lists_in code_in
empty_lists = refl

pub asked_lists : (map lists_in (numbers [] ∷ lists [] ∷ numbers (1 ∷ []) ∷ []) ≡ Some [] ∷ Some [] ∷ None ∷ []) × (map numbers_in (numbers [] ∷ lists [] ∷ lists ([] ∷ []) ∷ []) ≡ Some [] ∷ Some [] ∷ None ∷ [])
unfolding lists_in numbers_in
asked_lists = (refl, refl)

abbrev pub bound_twice : List Binding
bound_twice = record { name = codes "x"; value = number 2 } ∷ record { name = codes "xy"; value = number 3 } ∷ record { name = codes "x"; value = number 1 } ∷ []

pub last_value : map (λ x. value_named x bound_twice) (codes "x" ∷ codes "xy" ∷ codes "X" ∷ []) ≡ Some (number 2) ∷ Some (number 3) ∷ None ∷ []
unfolding same_bytes value_named
last_value = refl

pub named : map (call_named all_calls) (codes "GF" ∷ codes "BCHCode" ∷ codes "UUVCode" ∷ codes "gf" ∷ []) ≡ Some (Value_ Gf) ∷ Some (Value_ BchCode) ∷ Some (Value_ UuvCode) ∷ None ∷ []
unfolding same_bytes value_name query_name name_of all_calls value_calls query_calls call_named
named = refl

pub forms : map (signature_for (Value_ BchCode)) (2 ∷ 3 ∷ 4 ∷ []) ≡ None ∷ Some (Number ∷ Number ∷ Field ∷ []) ∷ Some (Number ∷ Number ∷ Number ∷ Field ∷ []) ∷ []
unfolding value_forms signatures signature_for
forms = refl

pub reed_muller : map (call_refusal ReedMullerCode) ((number 1 ∷ number 7 ∷ []) ∷ (number 1 ∷ number 8 ∷ []) ∷ (number 0 ∷ number 0 ∷ []) ∷ (number 4 ∷ number 3 ∷ []) ∷ (number 9 ∷ number 8 ∷ []) ∷ []) ≡ None ∷ Some (refuse 2 []) ∷ None ∷ Some (refuse 3 (1 ∷ [])) ∷ Some (refuse 2 []) ∷ []
unfolding shape shape_of size is_symbol below refuse when first_of refusal_number refusal_values refuse_if refusal_from from_codes is_length too_large bad_length bad_argument are_elements have_elements are_equally_long columns_of lengths_differ matrix_refusals all_fields locator_field residues number_of_residues plus minus times top up times_x product coefficients add mul value_at put_on trimmed is_subfield first_from first_that first_index repeated_point root_at not_subfield fields_differ is_rising deleted_refusals uuv_refusals degree_over nested_refusals concatenated_refusals word_refusals too_many_cosets coset_refusal no_form bch_refusals is_size_of_symbol_field reed_solomon_refusals reed_muller_refusals is_goppa_polynomial goppa_refusals form_refusals alternant_refusals refusals_of refusal_of query_refusals_of query_refusal_of bind value_forms bind_query query_forms call_refusal query_refusal number_in field_in numbers_in lists_in code_in
reed_muller = refl

pub reed_solomon : map (call_refusal ReedSolomonCode) ((number 4 ∷ number 3 ∷ []) ∷ (number 14 ∷ number 3 ∷ []) ∷ (number 4 ∷ number 0 ∷ []) ∷ (number 4 ∷ number 5 ∷ []) ∷ (number 1 ∷ number 1 ∷ []) ∷ (number 24 ∷ number 1 ∷ []) ∷ []) ≡ None ∷ Some (refuse 7 []) ∷ Some (refuse 6 []) ∷ Some (refuse 6 []) ∷ None ∷ Some (refuse 7 []) ∷ []
unfolding shape shape_of size is_symbol below refuse when first_of refusal_number refusal_values refuse_if refusal_from from_codes is_length too_large bad_length bad_argument are_elements have_elements are_equally_long columns_of lengths_differ matrix_refusals all_fields locator_field residues number_of_residues plus minus times top up times_x product coefficients add mul value_at put_on trimmed is_subfield first_from first_that first_index repeated_point root_at not_subfield fields_differ is_rising deleted_refusals uuv_refusals degree_over nested_refusals concatenated_refusals word_refusals too_many_cosets coset_refusal no_form bch_refusals is_size_of_symbol_field reed_solomon_refusals reed_muller_refusals is_goppa_polynomial goppa_refusals form_refusals alternant_refusals refusals_of refusal_of query_refusals_of query_refusal_of bind value_forms bind_query query_forms call_refusal query_refusal number_in field_in numbers_in lists_in code_in
reed_solomon = refl

pub bch : map (call_refusal BchCode) ((number 15 ∷ number 5 ∷ field Gf2 ∷ []) ∷ (number 4 ∷ number 3 ∷ field Gf2 ∷ []) ∷ (number 15 ∷ number 16 ∷ field Gf2 ∷ []) ∷ (number 15 ∷ number 1 ∷ field Gf2 ∷ []) ∷ (number 15 ∷ number 0 ∷ number 2 ∷ field Gf2 ∷ []) ∷ (number 0 ∷ number 2 ∷ field Gf25 ∷ []) ∷ (number 256 ∷ number 2 ∷ field Gf2 ∷ []) ∷ []) ≡ None ∷ Some (refuse 5 []) ∷ Some (refuse 6 []) ∷ Some (refuse 6 []) ∷ None ∷ Some (refuse 17 []) ∷ Some (refuse 2 []) ∷ []
unfolding shape shape_of size is_symbol below refuse when first_of refusal_number refusal_values refuse_if refusal_from from_codes is_length too_large bad_length bad_argument are_elements have_elements are_equally_long columns_of lengths_differ matrix_refusals all_fields locator_field residues number_of_residues plus minus times top up times_x product coefficients add mul value_at put_on trimmed is_subfield first_from first_that first_index repeated_point root_at not_subfield fields_differ is_rising deleted_refusals uuv_refusals degree_over nested_refusals concatenated_refusals word_refusals too_many_cosets coset_refusal no_form bch_refusals is_size_of_symbol_field reed_solomon_refusals reed_muller_refusals is_goppa_polynomial goppa_refusals form_refusals alternant_refusals refusals_of refusal_of query_refusals_of query_refusal_of bind value_forms bind_query query_forms call_refusal query_refusal number_in field_in numbers_in lists_in code_in
bch = refl

pub goppa : map (call_refusal GoppaCode) ((numbers (1 ∷ 1 ∷ 1 ∷ []) ∷ numbers (0 ∷ 1 ∷ 2 ∷ []) ∷ field Gf8 ∷ field Gf2 ∷ []) ∷ (numbers (1 ∷ 1 ∷ 1 ∷ []) ∷ numbers (0 ∷ 1 ∷ 1 ∷ []) ∷ field Gf8 ∷ field Gf2 ∷ []) ∷ (numbers (0 ∷ 1 ∷ []) ∷ numbers (1 ∷ 0 ∷ []) ∷ field Gf8 ∷ field Gf2 ∷ []) ∷ (numbers (1 ∷ 0 ∷ 0 ∷ []) ∷ numbers (1 ∷ []) ∷ field Gf8 ∷ field Gf2 ∷ []) ∷ (numbers (1 ∷ 1 ∷ []) ∷ numbers (8 ∷ []) ∷ field Gf8 ∷ field Gf2 ∷ []) ∷ (numbers (1 ∷ 1 ∷ []) ∷ numbers (0 ∷ []) ∷ field Gf8 ∷ field Gf3 ∷ []) ∷ (numbers (1 ∷ 1 ∷ []) ∷ numbers [] ∷ field Gf8 ∷ field Gf2 ∷ []) ∷ []) ≡ None ∷ Some (refuse 8 (1 ∷ 2 ∷ [])) ∷ Some (refuse 9 (1 ∷ [])) ∷ Some (refuse 3 (1 ∷ [])) ∷ Some (refuse 3 (2 ∷ [])) ∷ Some (refuse 10 []) ∷ Some (refuse 2 []) ∷ []
unfolding shape shape_of size is_symbol below refuse when first_of refusal_number refusal_values refuse_if refusal_from from_codes is_length too_large bad_length bad_argument are_elements have_elements are_equally_long columns_of lengths_differ matrix_refusals all_fields locator_field residues number_of_residues plus minus times top up times_x product coefficients add mul value_at put_on trimmed is_subfield first_from first_that first_index repeated_point root_at not_subfield fields_differ is_rising deleted_refusals uuv_refusals degree_over nested_refusals concatenated_refusals word_refusals too_many_cosets coset_refusal no_form bch_refusals is_size_of_symbol_field reed_solomon_refusals reed_muller_refusals is_goppa_polynomial goppa_refusals form_refusals alternant_refusals refusals_of refusal_of query_refusals_of query_refusal_of bind value_forms bind_query query_forms call_refusal query_refusal number_in field_in numbers_in lists_in code_in
goppa = refl

pub alternant : map (call_refusal AlternantCode) ((number 2 ∷ numbers (0 ∷ 1 ∷ 2 ∷ []) ∷ numbers (1 ∷ 1 ∷ 1 ∷ []) ∷ field Gf5 ∷ field Gf5 ∷ []) ∷ (number 2 ∷ numbers (0 ∷ 1 ∷ 2 ∷ []) ∷ numbers (1 ∷ 1 ∷ []) ∷ field Gf5 ∷ field Gf5 ∷ []) ∷ (number 0 ∷ numbers (0 ∷ 1 ∷ []) ∷ numbers (1 ∷ 1 ∷ []) ∷ field Gf5 ∷ field Gf5 ∷ []) ∷ (number 3 ∷ numbers (0 ∷ 1 ∷ []) ∷ numbers (1 ∷ 1 ∷ []) ∷ field Gf5 ∷ field Gf5 ∷ []) ∷ (number 1 ∷ numbers (0 ∷ 1 ∷ []) ∷ numbers (1 ∷ 0 ∷ []) ∷ field Gf5 ∷ field Gf5 ∷ []) ∷ (number 1 ∷ numbers (3 ∷ 0 ∷ 1 ∷ 0 ∷ []) ∷ numbers (1 ∷ 1 ∷ 1 ∷ 1 ∷ []) ∷ field Gf5 ∷ field Gf5 ∷ []) ∷ []) ≡ None ∷ Some (refuse 12 []) ∷ Some (refuse 3 (1 ∷ [])) ∷ Some (refuse 3 (1 ∷ [])) ∷ Some (refuse 3 (3 ∷ [])) ∷ Some (refuse 8 (1 ∷ 3 ∷ [])) ∷ []
unfolding shape shape_of size is_symbol below refuse when first_of refusal_number refusal_values refuse_if refusal_from from_codes is_length too_large bad_length bad_argument are_elements have_elements are_equally_long columns_of lengths_differ matrix_refusals all_fields locator_field residues number_of_residues plus minus times top up times_x product coefficients add mul value_at put_on trimmed is_subfield first_from first_that first_index repeated_point root_at not_subfield fields_differ is_rising deleted_refusals uuv_refusals degree_over nested_refusals concatenated_refusals word_refusals too_many_cosets coset_refusal no_form bch_refusals is_size_of_symbol_field reed_solomon_refusals reed_muller_refusals is_goppa_polynomial goppa_refusals form_refusals alternant_refusals refusals_of refusal_of query_refusals_of query_refusal_of bind value_forms bind_query query_forms call_refusal query_refusal number_in field_in numbers_in lists_in code_in
alternant = refl

abbrev pub code_of : FieldName → ℕ → List (List ℕ) → Value
code_of f n rows = code (record { field = f; columns = n; rows = rows }) None

abbrev pub repetition : ℕ → Value
repetition n = code_of Gf2 n (replicate n 1 ∷ [])

pub positions : map (call_refusal PuncturedCode) ((repetition 3 ∷ numbers (0 ∷ 2 ∷ []) ∷ []) ∷ (repetition 3 ∷ numbers [] ∷ []) ∷ (repetition 3 ∷ numbers (2 ∷ 0 ∷ []) ∷ []) ∷ (repetition 3 ∷ numbers (1 ∷ 1 ∷ []) ∷ []) ∷ (repetition 3 ∷ numbers (3 ∷ []) ∷ []) ∷ (repetition 2 ∷ numbers (0 ∷ 1 ∷ []) ∷ []) ∷ []) ≡ None ∷ None ∷ Some (refuse 13 []) ∷ Some (refuse 13 []) ∷ Some (refuse 13 []) ∷ Some (refuse 13 []) ∷ []
unfolding shape shape_of size is_symbol below refuse when first_of refusal_number refusal_values refuse_if refusal_from from_codes is_length too_large bad_length bad_argument are_elements have_elements are_equally_long columns_of lengths_differ matrix_refusals all_fields locator_field residues number_of_residues plus minus times top up times_x product coefficients add mul value_at put_on trimmed is_subfield first_from first_that first_index repeated_point root_at not_subfield fields_differ is_rising deleted_refusals uuv_refusals degree_over nested_refusals concatenated_refusals word_refusals too_many_cosets coset_refusal no_form bch_refusals is_size_of_symbol_field reed_solomon_refusals reed_muller_refusals is_goppa_polynomial goppa_refusals form_refusals alternant_refusals refusals_of refusal_of query_refusals_of query_refusal_of bind value_forms bind_query query_forms call_refusal query_refusal number_in field_in numbers_in lists_in code_in
positions = refl

pub pairs : map (call_refusal UuvCode) ((repetition 2 ∷ repetition 2 ∷ []) ∷ (repetition 2 ∷ repetition 3 ∷ []) ∷ (code_of Gf2 128 [] ∷ code_of Gf2 128 [] ∷ []) ∷ (code_of Gf3 2 [] ∷ repetition 3 ∷ []) ∷ []) ≡ None ∷ Some (refuse 12 []) ∷ Some (refuse 2 []) ∷ Some (refuse 11 []) ∷ []
unfolding shape shape_of size is_symbol below refuse when first_of refusal_number refusal_values refuse_if refusal_from from_codes is_length too_large bad_length bad_argument are_elements have_elements are_equally_long columns_of lengths_differ matrix_refusals all_fields locator_field residues number_of_residues plus minus times top up times_x product coefficients add mul value_at put_on trimmed is_subfield first_from first_that first_index repeated_point root_at not_subfield fields_differ is_rising deleted_refusals uuv_refusals degree_over nested_refusals concatenated_refusals word_refusals too_many_cosets coset_refusal no_form bch_refusals is_size_of_symbol_field reed_solomon_refusals reed_muller_refusals is_goppa_polynomial goppa_refusals form_refusals alternant_refusals refusals_of refusal_of query_refusals_of query_refusal_of bind value_forms bind_query query_forms call_refusal query_refusal number_in field_in numbers_in lists_in code_in
pairs = refl

pub concatenated : map (call_refusal ConcatenatedCode) ((code_of Gf4 3 [] ∷ repetition 3 ∷ []) ∷ (code_of Gf4 3 [] ∷ code_of Gf2 3 ((1 ∷ 0 ∷ 1 ∷ []) ∷ (0 ∷ 1 ∷ 1 ∷ []) ∷ []) ∷ []) ∷ (code_of Gf3 3 [] ∷ repetition 3 ∷ []) ∷ (code_of Gf4 86 [] ∷ code_of Gf2 3 ((1 ∷ 0 ∷ 1 ∷ []) ∷ (0 ∷ 1 ∷ 1 ∷ []) ∷ []) ∷ []) ∷ []) ≡ Some (refuse 14 (1 ∷ 2 ∷ [])) ∷ None ∷ Some (refuse 11 []) ∷ Some (refuse 2 []) ∷ []
unfolding shape shape_of size is_symbol below refuse when first_of refusal_number refusal_values refuse_if refusal_from from_codes is_length too_large bad_length bad_argument are_elements have_elements are_equally_long columns_of lengths_differ matrix_refusals all_fields locator_field residues number_of_residues plus minus times top up times_x product coefficients add mul value_at put_on trimmed is_subfield first_from first_that first_index repeated_point root_at not_subfield fields_differ is_rising deleted_refusals uuv_refusals degree_over nested_refusals concatenated_refusals word_refusals too_many_cosets coset_refusal no_form bch_refusals is_size_of_symbol_field reed_solomon_refusals reed_muller_refusals is_goppa_polynomial goppa_refusals form_refusals alternant_refusals refusals_of refusal_of query_refusals_of query_refusal_of bind value_forms bind_query query_forms call_refusal query_refusal number_in field_in numbers_in lists_in code_in
concatenated = refl

pub decoded : map (call_refusal Decode) ((repetition 2 ∷ numbers (1 ∷ 0 ∷ []) ∷ []) ∷ (repetition 2 ∷ numbers (1 ∷ []) ∷ []) ∷ (repetition 2 ∷ numbers (1 ∷ 2 ∷ []) ∷ []) ∷ (code_of Gf2 21 [] ∷ numbers (replicate 21 0) ∷ []) ∷ (code_of Gf2 20 [] ∷ numbers (replicate 20 0) ∷ []) ∷ []) ≡ None ∷ Some (refuse 12 []) ∷ Some (refuse 3 (2 ∷ [])) ∷ Some (refuse 15 (21 ∷ [])) ∷ None ∷ []
unfolding shape shape_of size is_symbol below refuse when first_of refusal_number refusal_values refuse_if refusal_from from_codes is_length too_large bad_length bad_argument are_elements have_elements are_equally_long columns_of lengths_differ matrix_refusals all_fields locator_field residues number_of_residues plus minus times top up times_x product coefficients add mul value_at put_on trimmed is_subfield first_from first_that first_index repeated_point root_at not_subfield fields_differ is_rising deleted_refusals uuv_refusals degree_over nested_refusals concatenated_refusals word_refusals too_many_cosets coset_refusal no_form bch_refusals is_size_of_symbol_field reed_solomon_refusals reed_muller_refusals is_goppa_polynomial goppa_refusals form_refusals alternant_refusals refusals_of refusal_of query_refusals_of query_refusal_of bind value_forms bind_query query_forms call_refusal query_refusal number_in field_in numbers_in lists_in code_in
decoded = refl

pub algebraic : map (query_refusal AlgebraicDecode) ((repetition 2 ∷ numbers (0 ∷ []) ∷ []) ∷ []) ≡ Some (refuse 18 []) ∷ []
unfolding shape shape_of size is_symbol below refuse when first_of refusal_number refusal_values refuse_if refusal_from from_codes is_length too_large bad_length bad_argument are_elements have_elements are_equally_long columns_of lengths_differ matrix_refusals all_fields locator_field residues number_of_residues plus minus times top up times_x product coefficients add mul value_at put_on trimmed is_subfield first_from first_that first_index repeated_point root_at not_subfield fields_differ is_rising deleted_refusals uuv_refusals degree_over nested_refusals concatenated_refusals word_refusals too_many_cosets coset_refusal no_form bch_refusals is_size_of_symbol_field reed_solomon_refusals reed_muller_refusals is_goppa_polynomial goppa_refusals form_refusals alternant_refusals refusals_of refusal_of query_refusals_of query_refusal_of bind value_forms bind_query query_forms call_refusal query_refusal number_in field_in numbers_in lists_in code_in
algebraic = refl

pub many_words : map (λ n. query_refusal LeastWord (lists (replicate n (1 ∷ [])) ∷ field Gf2 ∷ [])) (0 ∷ 16 ∷ 17 ∷ []) ≡ Some (refuse 2 []) ∷ None ∷ Some (refuse 16 []) ∷ []
unfolding shape shape_of size is_symbol below refuse when first_of refusal_number refusal_values refuse_if refusal_from from_codes is_length too_large bad_length bad_argument are_elements have_elements are_equally_long columns_of lengths_differ matrix_refusals all_fields locator_field residues number_of_residues plus minus times top up times_x product coefficients add mul value_at put_on trimmed is_subfield first_from first_that first_index repeated_point root_at not_subfield fields_differ is_rising deleted_refusals uuv_refusals degree_over nested_refusals concatenated_refusals word_refusals too_many_cosets coset_refusal no_form bch_refusals is_size_of_symbol_field reed_solomon_refusals reed_muller_refusals is_goppa_polynomial goppa_refusals form_refusals alternant_refusals refusals_of refusal_of query_refusals_of query_refusal_of bind value_forms bind_query query_forms call_refusal query_refusal number_in field_in numbers_in lists_in code_in
many_words = refl

pub nearest_refused : map (query_refusal NearestWord) ((repetition 2 ∷ numbers (1 ∷ 0 ∷ []) ∷ []) ∷ (repetition 2 ∷ numbers (1 ∷ []) ∷ []) ∷ (repetition 2 ∷ numbers (1 ∷ 2 ∷ []) ∷ []) ∷ []) ≡ None ∷ Some (refuse 12 []) ∷ Some (refuse 3 (2 ∷ [])) ∷ []
unfolding shape shape_of size is_symbol below refuse when first_of refusal_number refusal_values refuse_if refusal_from from_codes is_length too_large bad_length bad_argument are_elements have_elements are_equally_long columns_of lengths_differ matrix_refusals all_fields locator_field residues number_of_residues plus minus times top up times_x product coefficients add mul value_at put_on trimmed is_subfield first_from first_that first_index repeated_point root_at not_subfield fields_differ is_rising deleted_refusals uuv_refusals degree_over nested_refusals concatenated_refusals word_refusals too_many_cosets coset_refusal no_form bch_refusals is_size_of_symbol_field reed_solomon_refusals reed_muller_refusals is_goppa_polynomial goppa_refusals form_refusals alternant_refusals refusals_of refusal_of query_refusals_of query_refusal_of bind value_forms bind_query query_forms call_refusal query_refusal number_in field_in numbers_in lists_in code_in
nearest_refused = refl

pub uncounted : map (query_refusal WeightDistribution) ((code_of Gf2 50 (replicate 25 []) ∷ []) ∷ (code_of Gf2 49 (replicate 24 []) ∷ []) ∷ (code_of Gf2 64 (replicate 40 []) ∷ []) ∷ (code_of Gf2 63 (replicate 40 []) ∷ []) ∷ []) ≡ Some (refuse 47 (25 ∷ 25 ∷ [])) ∷ None ∷ Some (refuse 47 (40 ∷ 24 ∷ [])) ∷ None ∷ []
unfolding shape shape_of size is_symbol below refuse when first_of refusal_number refusal_values refuse_if refusal_from from_codes is_length too_large bad_length bad_argument are_elements have_elements are_equally_long columns_of lengths_differ matrix_refusals all_fields locator_field residues number_of_residues plus minus times top up times_x product coefficients add mul value_at put_on trimmed is_subfield first_from first_that first_index repeated_point root_at not_subfield fields_differ is_rising deleted_refusals uuv_refusals degree_over nested_refusals concatenated_refusals word_refusals too_many_cosets coset_refusal no_form bch_refusals is_size_of_symbol_field reed_solomon_refusals reed_muller_refusals is_goppa_polynomial goppa_refusals form_refusals alternant_refusals refusals_of refusal_of query_refusals_of query_refusal_of bind value_forms bind_query query_forms call_refusal query_refusal number_in field_in numbers_in lists_in code_in no_distribution distribution_refusal
uncounted = refl

-- elements with their offsets
abbrev pub at : List ℕ → tree.Exprs
at [] = tree.none
at (offset ∷ offsets) = tree.more (tree.number offset 0) (at offsets)

pub listed_values : map (listed_with nothing_yet) (number 1 ∷ numbers (1 ∷ []) ∷ numbers [] ∷ lists [] ∷ []) ++ listed_with (all_numbers (1 ∷ [])) (number 2) ∷ map (listed_with (all_lists ((1 ∷ []) ∷ []))) (numbers (2 ∷ []) ∷ numbers [] ∷ lists [] ∷ []) ≡ Some (all_numbers (1 ∷ [])) ∷ Some (all_lists ((1 ∷ []) ∷ [])) ∷ Some (all_lists ([] ∷ [])) ∷ Some (all_lists ([] ∷ [])) ∷ Some (all_numbers (1 ∷ 2 ∷ [])) ∷ Some (all_lists ((1 ∷ []) ∷ (2 ∷ []) ∷ [])) ∷ Some (all_lists ((1 ∷ []) ∷ [] ∷ [])) ∷ Some (all_lists ((1 ∷ []) ∷ [] ∷ [])) ∷ []
unfolding listed_with
listed_values = refl

pub mixed_lists : map (listed_with nothing_yet) (field Gf2 ∷ lists ((1 ∷ []) ∷ []) ∷ []) ++ map (listed_with (all_numbers (1 ∷ []))) (numbers [] ∷ lists [] ∷ field Gf2 ∷ []) ++ map (listed_with (all_lists ([] ∷ []))) (number 1 ∷ lists ((1 ∷ []) ∷ []) ∷ field Gf2 ∷ []) ≡ replicate 8 None
unfolding listed_with
mixed_lists = refl

pub made_lists : map list_value (nothing_yet ∷ all_numbers (1 ∷ []) ∷ all_lists ([] ∷ []) ∷ []) ≡ numbers [] ∷ numbers (1 ∷ []) ∷ lists ([] ∷ []) ∷ []
unfolding list_value
made_lists = refl

pub misfits : map (first_misfit (Number ∷ Field ∷ []) (at (4 ∷ 6 ∷ []))) ((number 1 ∷ field Gf2 ∷ []) ∷ (field Gf2 ∷ number 1 ∷ []) ∷ (number 1 ∷ numbers [] ∷ []) ∷ []) ≡ None ∷ Some 4 ∷ Some 6 ∷ []
unfolding offset_of is_kind first_misfit number_in field_in numbers_in lists_in code_in
misfits = refl

pub least : least_line 2 (0 ∷ 1 ∷ 1 ∷ []) ++ least_none_line ++ distance_none_line ≡ codes "least 2 word [0,1,1]" ++ 10 ∷ codes "least none" ++ 10 ∷ codes "distance none" ++ 10 ∷ []
unfolding digits bracketed numbers_text line least_line least_none_line distance_none_line
least = refl

-- Faults of small scripts, evaluated against the definition.
--   unclosed        a call that isn't closed: 41 at the script's length
--   wide            a number of 2^64: 43 at its first digit
--   sign            a byte that begins no token: 40
--   deep            33 opening brackets: 42 at the last of them
--   empty_statement, empty_parentheses   41 at the first byte
use Rattle.std.proofs.Common.{◌≡◌, ℕ, List, [], replicate, refl}
use Rattle.std.specs.Prelude.{codes}
use Rattle.lc_grammar.specs.Token.{is_blank, is_letter, is_digit, is_name_byte, number_from, number_of, widest, cut_of, assign_at, sign_at, token_at, ended, token_first, is_number, comment_length, scan_within, scan, text_of}
use Rattle.lc_grammar.specs.Grammar.{deepest, IsFault}
use Rattle.lc_grammar.proofs.Course.{start, fault, course}
use Rattle.lc_grammar.proofs.FirstFault.{fault_of_course}

-- the fault of a text, where its course comes to it
fault_at : (bytes : List ℕ) (n offset : ℕ) → course bytes deepest (start []) (scan bytes).tokens (scan bytes).ending ≡ fault n offset → IsFault bytes (record { number = n; offset = offset })
fault_at bytes n offset h = fault_of_course bytes (scan bytes).tokens (scan bytes).ending (record { number = n; offset = offset }) h

pub unclosed : IsFault (codes "MinimumDistance(HammingCode(3,GF(2))") (record { number = 41; offset = 36 })
unfolding scan scan_within course is_blank is_letter is_digit is_name_byte number_from number_of widest cut_of assign_at sign_at token_at ended token_first is_number comment_length text_of
unclosed = fault_at (codes "MinimumDistance(HammingCode(3,GF(2))") 41 36 refl

pub wide : IsFault (codes "x := 18446744073709551616;") (record { number = 43; offset = 5 })
unfolding scan scan_within course is_blank is_letter is_digit is_name_byte number_from number_of widest cut_of assign_at sign_at token_at ended token_first is_number comment_length text_of
wide = fault_at (codes "x := 18446744073709551616;") 43 5 refl

pub sign : IsFault (codes "$") (record { number = 40; offset = 0 })
unfolding scan scan_within course is_blank is_letter is_digit is_name_byte number_from number_of widest cut_of assign_at sign_at token_at ended token_first is_number comment_length text_of
sign = fault_at (codes "$") 40 0 refl

pub deep : IsFault (replicate 33 91) (record { number = 42; offset = 32 })
unfolding scan scan_within course is_blank is_letter is_digit is_name_byte number_from number_of widest cut_of assign_at sign_at token_at ended token_first is_number comment_length text_of
deep = fault_at (replicate 33 91) 42 32 refl

pub empty_statement : IsFault (codes ";") (record { number = 41; offset = 0 })
unfolding scan scan_within course is_blank is_letter is_digit is_name_byte number_from number_of widest cut_of assign_at sign_at token_at ended token_first is_number comment_length text_of
empty_statement = fault_at (codes ";") 41 0 refl

pub empty_parentheses : IsFault (codes "()") (record { number = 41; offset = 0 })
unfolding scan scan_within course is_blank is_letter is_digit is_name_byte number_from number_of widest cut_of assign_at sign_at token_at ended token_first is_number comment_length text_of
empty_parentheses = fault_at (codes "()") 41 0 refl

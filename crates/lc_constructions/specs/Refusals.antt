-- For each constructor and combinator of codes the list of its refusals, in the order in which they are looked for. An entry is
-- the refusal if it applies, else None, and the call is refused with the first one (first_refusal of specs/Refusal.antt). Golay
-- codes, extended Golay codes and dual codes are never refused.
--   columns_of rows               the length of a matrix is that of its first row; without rows it is 0
--   are_elements f entries        each entry is below the size of the field
--   have_elements f rows          so is each entry of each row
--   are_equally_long rows         each row has the length of the first one
--   is_rising numbers             each number is below the next one
--   first_index points j          the first index of the point with index j
--   degree_over q Q               the number s from 1 to 8 with q^s = Q
--   is_size_of_symbol_field q     some field has q elements, and at most 16
--   is_goppa_polynomial K g       coefficients of K, and a degree from 1 to 255
-- Plain families:
--   matrix_refusals f rows        codes by a generator matrix or a parity-check matrix
--   length_refusals f n           repetition codes, the whole space, null codes
--   hamming_refusals f r          Hamming codes with r checks
--   reed_muller_refusals r m      Reed-Muller codes of order r in m variables
-- Cyclic codes and codes by an alternant form:
--   cyclic_refusals f x n divides      codes by a generator polynomial or a check polynomial x; `divides` says whether x divides
--                                      x^n - 1, and is looked at last
--   DividesPowerLess f x n divides     it does say so. That x divides is a fact on polynomials and not a test on lists
--   bch_refusals f n d            BCH codes with design distance d
--   reed_solomon_refusals n d     Reed-Solomon codes
--   goppa_refusals f K g points   Goppa codes with the polynomial g
--   form_refusals f K bad_r points multipliers      codes by an alternant form; bad_r says whether its number of checks is refused
--   alternant_refusals f K r points multipliers     alternant codes: r is 1 to the number of points
-- Combinators:
--   extended_refusals C, deleted_refusals C coordinates (punctured and shortened codes), even_weight_refusals C,
--   direct_sum_refusals C D, uuv_refusals C D, direct_product_refusals C D, intersection_refusals C D, concatenated_refusals C D
use Rattle.std.specs.Prelude.{ℕ, ◌+◌, ◌*◌, ◌^◌, ◌↔◌, Bool, true, not, nat_le, nat_lt, ◌==◌, ◌&&◌, ◌||◌, IsTrue, List, [], ◌∷◌, length, slice_index, find, Option, Some, None, is_some, option_map}
use Rattle.std.specs.List.{list_any, list_all}
use Rattle.lc_algebra.specs.declared.FieldName.{FieldName}
use Rattle.lc_algebra.specs.Field.{size, is_symbol}
use Rattle.lc_algebra.specs.Polynomial.{value_at, trimmed, Divides, x_power_minus_one}
use Rattle.lc_algebra.specs.Embedding.{is_subfield, first_that}
use Rattle.lc_algebra.specs.Span.{below}
use Rattle.lc_algebra.specs.Matrix.{Matrix}
use Rattle.lc_constructions.specs.declared.refusal.CodeRefusal.{CodeRefusal}
use Rattle.lc_constructions.specs.declared.refusal.CodeRefusal.TheVariants.{BadLength, BadArgument, NotADivisor, NoRoot, BadDelta, NoFieldOfLength, RepeatedPoint, RootAt, NotASubfield, FieldsDiffer, LengthsDiffer, BadPositions, InnerDimension, FieldTooLarge}
use Rattle.lc_constructions.specs.Code.{is_length}
use Rattle.lc_constructions.specs.Basic.{hamming_length}
use Rattle.lc_constructions.specs.Cyclic.{all_fields, locator_field}
use Rattle.lc_constructions.specs.Refusal.{refuse_if}

unfoldable pub columns_of : List (List ℕ) → ℕ
columns_of [] = 0
columns_of (row ∷ rows) = length row

unfoldable pub are_elements : FieldName → List ℕ → Bool
are_elements f entries = list_all (λ a. nat_lt a (size f)) entries

unfoldable pub have_elements : FieldName → List (List ℕ) → Bool
have_elements f rows = list_all (are_elements f) rows

unfoldable pub are_equally_long : List (List ℕ) → Bool
are_equally_long rows = list_all (λ row. length row == columns_of rows) rows

unfoldable pub is_rising : List ℕ → Bool
is_rising [] = true
is_rising (a ∷ []) = true
is_rising (a ∷ b ∷ rest) = nat_lt a b && is_rising (b ∷ rest)

-- ---- refusals that several lists have

unfoldable pub too_large : FieldName → Option CodeRefusal
too_large f = refuse_if (not (is_symbol f)) FieldTooLarge

unfoldable pub bad_length : ℕ → Option CodeRefusal
bad_length n = refuse_if (not (is_length n)) BadLength

unfoldable pub bad_argument : Bool → ℕ → Option CodeRefusal
bad_argument test n = refuse_if test (BadArgument n)

unfoldable pub not_subfield : FieldName → FieldName → Option CodeRefusal
not_subfield f K = refuse_if (not (is_subfield f K)) NotASubfield

unfoldable pub first_index : List ℕ → ℕ → ℕ
first_index points j = first_that (λ i. slice_index points i == slice_index points j) (length points)

-- the least index of a point that an earlier index has too, and the first of these
unfoldable pub repeated_point : List ℕ → Option CodeRefusal
repeated_point points = option_map (λ j. RepeatedPoint (first_index points j) j) (find (λ j. nat_lt (first_index points j) j) (below (length points)))

unfoldable pub root_at : FieldName → List ℕ → List ℕ → Option CodeRefusal
root_at K g points = option_map (λ i. RootAt i) (find (λ i. value_at K g (slice_index points i) == 0) (below (length points)))

unfoldable pub fields_differ : Matrix → Matrix → Option CodeRefusal
fields_differ C D = refuse_if (not (size C.field == size D.field)) FieldsDiffer

unfoldable pub lengths_differ : Matrix → Matrix → Option CodeRefusal
lengths_differ C D = refuse_if (not (C.columns == D.columns)) LengthsDiffer

-- ---- plain families

unfoldable pub matrix_refusals : FieldName → List (List ℕ) → List (Option CodeRefusal)
matrix_refusals f rows = too_large f ∷ bad_length (columns_of rows) ∷ refuse_if (not (are_equally_long rows)) LengthsDiffer ∷ bad_argument (not (have_elements f rows)) 1 ∷ []

unfoldable pub length_refusals : FieldName → ℕ → List (Option CodeRefusal)
length_refusals f n = too_large f ∷ bad_length n ∷ []

unfoldable pub hamming_refusals : FieldName → ℕ → List (Option CodeRefusal)
hamming_refusals f r = too_large f ∷ bad_argument (nat_lt r 2) 1 ∷ bad_length (hamming_length (size f) r) ∷ []

unfoldable pub reed_muller_refusals : ℕ → ℕ → List (Option CodeRefusal)
reed_muller_refusals r m = bad_length (2 ^ m) ∷ bad_argument (nat_lt m r) 1 ∷ []

-- ---- cyclic codes and codes by an alternant form

-- the zero polynomial is a bad argument
unfoldable pub cyclic_refusals : FieldName → List ℕ → ℕ → Bool → List (Option CodeRefusal)
cyclic_refusals f x n divides = too_large f ∷ bad_length n ∷ bad_argument (not (are_elements f x) || (length (trimmed x) == 0)) 1 ∷ refuse_if (not divides) NotADivisor ∷ []

abbrev pub DividesPowerLess : FieldName → List ℕ → ℕ → Bool → Type 0
DividesPowerLess f x n divides = IsTrue divides ↔ Divides f (trimmed x) (x_power_minus_one f n)

unfoldable pub bch_refusals : FieldName → ℕ → ℕ → List (Option CodeRefusal)
bch_refusals f n d = too_large f ∷ bad_length n ∷ refuse_if (not (is_some (locator_field f n))) NoRoot ∷ refuse_if (nat_lt n d || nat_lt d 2) BadDelta ∷ []

unfoldable pub is_size_of_symbol_field : ℕ → Bool
is_size_of_symbol_field q = list_any (λ f. (size f == q) && is_symbol f) all_fields

unfoldable pub reed_solomon_refusals : ℕ → ℕ → List (Option CodeRefusal)
reed_solomon_refusals n d = refuse_if (not (is_size_of_symbol_field (n + 1))) NoFieldOfLength ∷ refuse_if (nat_lt n d || nat_lt d 1) BadDelta ∷ []

unfoldable pub is_goppa_polynomial : FieldName → List ℕ → Bool
is_goppa_polynomial K g = are_elements K g && (nat_le 2 (length (trimmed g)) && nat_le (length (trimmed g)) 256)

unfoldable pub goppa_refusals : FieldName → FieldName → List ℕ → List ℕ → List (Option CodeRefusal)
goppa_refusals f K g points = too_large f ∷ not_subfield f K ∷ bad_length (length points) ∷ bad_argument (not (is_goppa_polynomial K g)) 1 ∷ bad_argument (not (are_elements K points)) 2 ∷ repeated_point points ∷ root_at K g points ∷ []

unfoldable pub form_refusals : FieldName → FieldName → Bool → List ℕ → List ℕ → List (Option CodeRefusal)
form_refusals f K bad_r points multipliers = too_large f ∷ not_subfield f K ∷ bad_length (length points) ∷ refuse_if (not (length points == length multipliers)) LengthsDiffer ∷ bad_argument bad_r 1 ∷ bad_argument (not (are_elements K points)) 2 ∷ bad_argument (not (are_elements K multipliers) || list_any (λ y. y == 0) multipliers) 3 ∷ repeated_point points ∷ []

unfoldable pub alternant_refusals : FieldName → FieldName → ℕ → List ℕ → List ℕ → List (Option CodeRefusal)
alternant_refusals f K r points multipliers = form_refusals f K ((r == 0) || nat_lt (length points) r) points multipliers

-- ---- combinators

unfoldable pub extended_refusals : Matrix → List (Option CodeRefusal)
extended_refusals C = bad_length (C.columns + 1) ∷ []

unfoldable pub deleted_refusals : Matrix → List ℕ → List (Option CodeRefusal)
deleted_refusals C coordinates = refuse_if (not (is_rising coordinates) || (list_any (nat_le C.columns) coordinates || (length coordinates == C.columns))) BadPositions ∷ []

unfoldable pub even_weight_refusals : Matrix → List (Option CodeRefusal)
even_weight_refusals C = bad_argument (not (size C.field == 2)) 1 ∷ []

unfoldable pub direct_sum_refusals : Matrix → Matrix → List (Option CodeRefusal)
direct_sum_refusals C D = fields_differ C D ∷ bad_length (C.columns + D.columns) ∷ []

unfoldable pub uuv_refusals : Matrix → Matrix → List (Option CodeRefusal)
uuv_refusals C D = fields_differ C D ∷ lengths_differ C D ∷ bad_length (C.columns + D.columns) ∷ []

unfoldable pub direct_product_refusals : Matrix → Matrix → List (Option CodeRefusal)
direct_product_refusals C D = fields_differ C D ∷ bad_length (C.columns * D.columns) ∷ []

unfoldable pub intersection_refusals : Matrix → Matrix → List (Option CodeRefusal)
intersection_refusals C D = fields_differ C D ∷ lengths_differ C D ∷ []

unfoldable pub degree_over : ℕ → ℕ → Option ℕ
degree_over q Q = find (λ s. q ^ s == Q) (1 ∷ 2 ∷ 3 ∷ 4 ∷ 5 ∷ 6 ∷ 7 ∷ 8 ∷ [])

-- the outer code C is over a field whose size is the s-th power of that of the inner code's
unfoldable pub nested_refusals : Matrix → Matrix → Option ℕ → List (Option CodeRefusal)
nested_refusals C D None = Some FieldsDiffer ∷ []
nested_refusals C D (Some s) = refuse_if (not (length D.rows == s)) (InnerDimension (length D.rows) s) ∷ bad_length (C.columns * D.columns) ∷ []

unfoldable pub concatenated_refusals : Matrix → Matrix → List (Option CodeRefusal)
concatenated_refusals C D = nested_refusals C D (degree_over (size D.field) (size C.field))

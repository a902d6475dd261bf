-- Which words the plain constructors put into their codes (GUAVA manual, "Generating Codes"; MacWilliams and Sloane, chapters 1 and 13).
-- Each fact is about a word w that has the code's length and fits its field. That of a check matrix is CheckedBy of specs/Code.antt.
--   GeneratedBy f n rows w       generator matrix: a sum of multiples of the rows
--   IsConstant w                 repetition code: all symbols are equal
--   IsAny w                      whole space: no condition
--   IsZero w                     null code: all symbols are 0
--   all_lists q r                the lists of r elements, in lexicographic order
--   begins_with_one u            the first nonzero entry of u is 1
--   hamming_columns q r          the lists of r elements that begin so: a column for each point of the projective space
--   hamming_checks q r           the matrix with these columns: its r rows
--   hamming_length q r           (q^r - 1) / (q - 1), the number of columns
--   monomial m vs                the values, at the coordinates 0 to 2^m - 1, of the product of the variables vs: 1 if all of them are 1.
--                                The variable v is bit v of the coordinate; the empty product is 1
--   subsets vs r                 the parts of the list with at most r members
--   reed_muller_rows r m         the values of all products of at most r different variables among m
use Rattle.std.specs.Prelude.{◌≡◌, ℕ, zero, suc, ◌-◌, ◌/◌, ◌%◌, ◌^◌, ◌<◌, ◌==◌, if◌then◌else◌, Bool, not, find, filter, unwrap_or, List, [], ◌∷◌, ◌++◌, length, map, flat_map, slice_index, ⊤}
use Rattle.std.specs.List.{list_all}
use Rattle.lc_algebra.specs.declared.FieldName.{FieldName}
use Rattle.lc_algebra.specs.Span.{InSpan, below}

abbrev pub GeneratedBy : FieldName → ℕ → List (List ℕ) → List ℕ → Type 0
GeneratedBy f n rows w = InSpan f n rows w

abbrev pub IsConstant : List ℕ → Type 0
IsConstant w = (i j : ℕ) → i < length w → j < length w → slice_index w i ≡ slice_index w j

abbrev pub IsAny : List ℕ → Type 0
IsAny w = ⊤

abbrev pub IsZero : List ℕ → Type 0
IsZero w = (i : ℕ) → i < length w → slice_index w i ≡ 0

unfoldable pub all_lists : ℕ → ℕ → List (List ℕ)
all_lists q zero = [] ∷ []
all_lists q (suc r) = flat_map (λ c. map (λ u. c ∷ u) (all_lists q r)) (below q)

unfoldable pub begins_with_one : List ℕ → Bool
begins_with_one u = unwrap_or (find (λ a. not (a == 0)) u) 0 == 1

unfoldable pub hamming_columns : ℕ → ℕ → List (List ℕ)
hamming_columns q r = filter begins_with_one (all_lists q r)

unfoldable pub hamming_checks : ℕ → ℕ → List (List ℕ)
hamming_checks q r = map (λ i. map (λ u. slice_index u i) (hamming_columns q r)) (below r)

unfoldable pub hamming_length : ℕ → ℕ → ℕ
hamming_length q r = (q ^ r - 1) / (q - 1)

unfoldable pub monomial : ℕ → List ℕ → List ℕ
monomial m vs = map (λ place. if list_all (λ v. place / 2 ^ v % 2 == 1) vs then 1 else 0) (below (2 ^ m))

unfoldable pub subsets : List ℕ → ℕ → List (List ℕ)
subsets [] r = [] ∷ []
subsets (v ∷ vs) zero = [] ∷ []
subsets (v ∷ vs) (suc r) = map (λ s. v ∷ s) (subsets vs r) ++ subsets vs (suc r)

unfoldable pub reed_muller_rows : ℕ → ℕ → List (List ℕ)
reed_muller_rows r m = map (monomial m) (subsets (below m) r)

-- Quasi-cyclic codes by circulant matrices (MacWilliams and Sloane, chapter 16; GUAVA manual, `QuasiCyclicCode`). A part of a word is
-- n symbols one after another.
--   shifted_by i w          w after i cyclic shifts
--   circulant n x           the circulant matrix of x: n rows, row i is x after i cyclic shifts
--   circulants n xs         the circulant matrices of some words side by side: row i is each word after i cyclic shifts, one after
--                           the other
--   joined us               some words, one after the other
--   IsQuasiCyclic n C       n divides the length of C, and the cyclic shift of all parts of a word of C at once is a word of C
-- When they are refused:
--   circulant_refusals f x n           circulant codes: 17, 2, 12, 3 with 1
--   quasi_cyclic_refusals f xs n       quasi-cyclic codes: 17, 2, 12, 3 with 1
use Rattle.std.specs.Prelude.{◌≡◌, ℕ, zero, suc, ◌*◌, ◌%◌, ◌==◌, not, List, [], ◌∷◌, length, map, flat_map, All, Option}
use Rattle.std.specs.List.{list_all}
use Rattle.lc_algebra.specs.declared.FieldName.{FieldName}
use Rattle.lc_algebra.specs.Span.{below}
use Rattle.lc_algebra.specs.Matrix.{Matrix}
use Rattle.lc_constructions.specs.declared.refusal.CodeRefusal.{CodeRefusal}
use Rattle.lc_constructions.specs.declared.refusal.CodeRefusal.TheVariants.{LengthsDiffer}
use Rattle.lc_constructions.specs.Code.{InCode}
use Rattle.lc_constructions.specs.Refusal.{refuse_if}
use Rattle.lc_constructions.specs.Refusals.{are_elements, have_elements, too_large, bad_length, bad_argument}
use Rattle.lc_language.specs.Relations.{shifted}

unfoldable pub shifted_by : ℕ → List ℕ → List ℕ
shifted_by zero w = w
shifted_by (suc i) w = shifted (shifted_by i w)

unfoldable pub circulant : ℕ → List ℕ → List (List ℕ)
circulant n x = map (λ i. shifted_by i x) (below n)

unfoldable pub circulants : ℕ → List (List ℕ) → List (List ℕ)
circulants n xs = map (λ i. flat_map (shifted_by i) xs) (below n)

unfoldable pub joined : List (List ℕ) → List ℕ
joined us = flat_map (λ u. u) us

abbrev pub IsQuasiCyclic : ℕ → Matrix → Type 0
IsQuasiCyclic n C = (C.columns % n ≡ 0) × ((us : List (List ℕ)) → All (λ u. length u ≡ n) us → InCode C (joined us) → InCode C (joined (map shifted us)))

-- ---- refusals

unfoldable pub circulant_refusals : FieldName → List ℕ → ℕ → List (Option CodeRefusal)
circulant_refusals f x n = too_large f ∷ bad_length n ∷ refuse_if (not (length x == n)) LengthsDiffer ∷ bad_argument (not (are_elements f x)) 1 ∷ []

-- the length is bad if n is, or if there is no word
unfoldable pub quasi_cyclic_refusals : FieldName → List (List ℕ) → ℕ → List (Option CodeRefusal)
quasi_cyclic_refusals f xs n = too_large f ∷ bad_length (length xs * n) ∷ refuse_if (not (list_all (λ x. length x == n) xs)) LengthsDiffer ∷ bad_argument (not (have_elements f xs)) 1 ∷ []

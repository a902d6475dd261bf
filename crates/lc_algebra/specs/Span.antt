-- The words of some rows, all of length n, and how light they are (MacWilliams and Sloane, chapter 1).
--   below n                      the numbers 0 to n - 1
--   combine f n cs rows          the sum of the multiples of the rows by the coefficients cs
--   InSpan f n rows w            w is a sum of multiples of the rows
--   words f n rows               the list of these words: c g + v for each element c and each word v of the rows after g
--   SameSpan f n rows others     the two lists of rows have the same words
--   AreIndependent f n rows      only the combination with all coefficients 0 is the zero word
--   IsWeightBound f n rows d     every nonzero word has weight at least d
--   IsDistance f n rows d        some nonzero word has weight d, and none is lighter: the minimum distance
--   IsLeast f n rows w           w is the first nonzero word, by weight and then lexicographically
use Rattle.std.specs.Prelude.{◌≡◌, ℕ, zero, suc, ◌<◌, ◌≤◌, ◌↔◌, List, [], ◌∷◌, ◌++◌, length, map, flat_map}
use Rattle.lc_algebra.specs.declared.FieldName.{FieldName}
use Rattle.lc_algebra.specs.Field.{size}
use Rattle.lc_algebra.specs.Word.{IsWord, zero_word, word_sum, scale, weight, ComesNoLater}

unfoldable pub below : ℕ → List ℕ
below zero = []
below (suc n) = below n ++ n ∷ []

unfoldable pub combine : FieldName → ℕ → List ℕ → List (List ℕ) → List ℕ
combine f n (c ∷ cs) (g ∷ rows) = word_sum f (scale f c g) (combine f n cs rows)
combine f n _ _ = zero_word n

abbrev pub InSpan : FieldName → ℕ → List (List ℕ) → List ℕ → Type 0
InSpan f n [] w = w ≡ zero_word n
InSpan f n (g ∷ rows) w = (c : ℕ) × (c < size f) × ((v : List ℕ) × InSpan f n rows v × (w ≡ word_sum f (scale f c g) v))

unfoldable pub words : FieldName → ℕ → List (List ℕ) → List (List ℕ)
words f n [] = zero_word n ∷ []
words f n (g ∷ rows) = flat_map (λ c. map (λ v. word_sum f (scale f c g) v) (words f n rows)) (below (size f))

abbrev pub SameSpan : FieldName → ℕ → List (List ℕ) → List (List ℕ) → Type 0
SameSpan f n rows others = (w : List ℕ) → InSpan f n rows w ↔ InSpan f n others w

abbrev pub AreIndependent : FieldName → ℕ → List (List ℕ) → Type 0
AreIndependent f n rows = (cs : List ℕ) → IsWord f (length rows) cs → combine f n cs rows ≡ zero_word n → cs ≡ zero_word (length rows)

abbrev pub IsWeightBound : FieldName → ℕ → List (List ℕ) → ℕ → Type 0
IsWeightBound f n rows d = (v : List ℕ) → InSpan f n rows v → 0 < weight v → d ≤ weight v

pub record IsDistance (f : FieldName) (n : ℕ) (rows : List (List ℕ)) (d : ℕ) : Type 0 where
  pub attained : (w : List ℕ) × InSpan f n rows w × (0 < weight w) × (weight w ≡ d)
  pub least : IsWeightBound f n rows d

pub record IsLeast (f : FieldName) (n : ℕ) (rows : List (List ℕ)) (w : List ℕ) : Type 0 where
  pub inside : InSpan f n rows w
  pub nonzero : 0 < weight w
  pub first : (v : List ℕ) → InSpan f n rows v → 0 < weight v → ComesNoLater w v

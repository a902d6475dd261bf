-- Words over a field and their weights (MacWilliams and Sloane, chapter 1).
--   Fits f w                 each symbol of w is an element of the field
--   IsWord f n w             a word of n symbols of the field
--   zero_word n              n zeros
--   word_sum f u v           the sum, symbol by symbol
--   scale f c u              the multiple by the element c
--   difference f u v         u less v
--   weight w                 the number of nonzero symbols of w
--   word_dot f u v           the sum of the products of u and v, place by place
--   distance f u v           the weight of the difference of u and v
--   first_nonzero w          the first place of a nonzero symbol
--   AtMost u v               u is v or comes before it in lexicographic order, symbols compared by their numbers
--   ComesNoLater u v         u is v or comes before it, by weight and then lexicographically
use Rattle.std.specs.Prelude.{◌≡◌, ℕ, ◌<◌, ◌⊎◌, not, ◌==◌, List, [], ◌∷◌, length, replicate, slice_index, EachIndex, count_by, position, Option, ⊤}
use Rattle.lc_algebra.specs.declared.FieldName.{FieldName}
use Rattle.lc_algebra.specs.Field.{size, add, neg, mul}

abbrev pub Fits : FieldName → List ℕ → Type 0
Fits f w = EachIndex w (λ i. slice_index w i < size f)

pub record IsWord (f : FieldName) (n : ℕ) (w : List ℕ) : Type 0 where
  pub long : length w ≡ n
  pub fits : Fits f w

abbrev pub zero_word : ℕ → List ℕ
zero_word n = replicate n 0

unfoldable pub word_sum : FieldName → List ℕ → List ℕ → List ℕ
word_sum f (a ∷ u) (b ∷ v) = add f a b ∷ word_sum f u v
word_sum f _ _ = []

unfoldable pub scale : FieldName → ℕ → List ℕ → List ℕ
scale f c [] = []
scale f c (a ∷ u) = mul f c a ∷ scale f c u

unfoldable pub difference : FieldName → List ℕ → List ℕ → List ℕ
difference f u v = word_sum f u (scale f (neg f 1) v)

abbrev pub weight : List ℕ → ℕ
weight w = count_by (λ a. not (a == 0)) w

unfoldable pub word_dot : FieldName → List ℕ → List ℕ → ℕ
word_dot f (a ∷ u) (b ∷ v) = add f (mul f a b) (word_dot f u v)
word_dot f _ _ = 0

abbrev pub distance : FieldName → List ℕ → List ℕ → ℕ
distance f u v = weight (difference f u v)

abbrev pub first_nonzero : List ℕ → Option ℕ
first_nonzero w = position (λ a. not (a == 0)) w

abbrev pub AtMost : List ℕ → List ℕ → Type 0
AtMost [] v = ⊤
AtMost (a ∷ u) [] = ⊥
AtMost (a ∷ u) (b ∷ v) = (a < b) ⊎ ((a ≡ b) × AtMost u v)

abbrev pub ComesNoLater : List ℕ → List ℕ → Type 0
ComesNoLater u v = (weight u < weight v) ⊎ ((weight u ≡ weight v) × AtMost u v)

-- What a scan of words keeps: the first nonzero word so far, by weight and then lexicographically. A zero word stands for none.
--   Precedes u w                    u is nonzero and comes no later than w
--   IsFirst P old new               new is the first of old and of the words of which P holds
--   IsInCoset f n rows u w          w is the sum of u and a word of the rows
--   IsInCosetBelow f n c g rows u w      it is that of u, a multiple of g by an element below c, and a word of the rows
--   IsLeastOr f n rows found        the first nonzero word of the rows, or none where they have none
use Rattle.std.specs.Prelude.{◌≡◌, ℕ, ◌<◌, ◌⊎◌, List, Option, Some, None}
use Rattle.lc_algebra.specs.declared.FieldName.{FieldName}
use Rattle.lc_algebra.specs.Word.{word_sum, scale, weight, ComesNoLater}
use Rattle.lc_algebra.specs.Span.{InSpan, IsLeast}

abbrev pub Precedes : List ℕ → List ℕ → Type 0
Precedes u w = (0 < weight u) × ComesNoLater u w

pub record IsFirst (P : List ℕ → Type 0) (old new : List ℕ) : Type 0 where
  pub origin : (new ≡ old) ⊎ (P new × (0 < weight new))
  pub before : 0 < weight old → Precedes new old
  pub first : (w : List ℕ) → P w → 0 < weight w → Precedes new w

abbrev pub IsInCoset : FieldName → ℕ → List (List ℕ) → List ℕ → List ℕ → Type 0
IsInCoset f n rows u w = (v : List ℕ) × InSpan f n rows v × (w ≡ word_sum f u v)

abbrev pub IsInCosetBelow : FieldName → ℕ → ℕ → List ℕ → List (List ℕ) → List ℕ → List ℕ → Type 0
IsInCosetBelow f n c g rows u w = (d : ℕ) × (d < c) × IsInCoset f n rows (word_sum f u (scale f d g)) w

abbrev pub IsLeastOr : FieldName → ℕ → List (List ℕ) → Option (List ℕ) → Type 0
IsLeastOr f n rows (Some w) = IsLeast f n rows w
IsLeastOr f n rows None = (w : List ℕ) → InSpan f n rows w → weight w ≡ 0

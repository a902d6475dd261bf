-- The words of the messages of a level, as a walk lists them: support by support, and along each support with the sum so far.
--   row_of rows i                    row i
--   words_along f rows a s           the sums of a and nonzero multiples of the rows at the places of s, the last multiple running
--                                    fastest
--   multiples_from f rows a p s c    those whose first multiple is by c or a later element
--   support_words f n rows s         those of the messages with the support s, whose first multiple is the row itself
--   words_over f n rows front i k w  those of the supports that begin with front and go on with w places, i to i + k - 1
--   level_words f n rows w           those of all messages of level w
--   words_from f n rows i m          those of the levels i to i + m - 1, level by level
--   found some w                      the word w if there is one
--   AreSums C sums                   the buffer of a walk: the zero word, and then words for the sums of some rows
use Rattle.std.specs.Prelude.{◌≡◌, ℕ, ◌-◌, ◌<◌, Bool, if◌then◌else◌, List, [], ◌∷◌, ◌++◌, length, slice_index_or, flat_map, Option, Some, None}
use Rattle.lc_algebra.specs.declared.FieldName.{FieldName}
use Rattle.lc_algebra.specs.Field.{size}
use Rattle.lc_algebra.specs.Word.{IsWord, zero_word, word_sum, scale}
use Rattle.lc_algebra.specs.Matrix.{Matrix}
use Rattle.lc_enumeration.specs.Message.{supports_from, numbers_from}

abbrev pub row_of : List (List ℕ) → ℕ → List ℕ
row_of rows i = slice_index_or rows i []

unfoldable pub words_along : FieldName → List (List ℕ) → List ℕ → List ℕ → List (List ℕ)
words_along f rows a [] = a ∷ []
words_along f rows a (p ∷ s) = flat_map (λ c. words_along f rows (word_sum f a (scale f c (row_of rows p))) s) (numbers_from 1 (size f - 1))

unfoldable pub multiples_from : FieldName → List (List ℕ) → List ℕ → ℕ → List ℕ → ℕ → List (List ℕ)
multiples_from f rows a p s c = flat_map (λ c. words_along f rows (word_sum f a (scale f c (row_of rows p))) s) (numbers_from c (size f - c))

unfoldable pub support_words : FieldName → ℕ → List (List ℕ) → List ℕ → List (List ℕ)
support_words f n rows [] = zero_word n ∷ []
support_words f n rows (p ∷ s) = words_along f rows (word_sum f (zero_word n) (scale f 1 (row_of rows p))) s

unfoldable pub words_over : FieldName → ℕ → List (List ℕ) → List ℕ → ℕ → ℕ → ℕ → List (List ℕ)
words_over f n rows front i k w = flat_map (λ s. support_words f n rows (front ++ s)) (supports_from i k w)

unfoldable pub level_words : FieldName → ℕ → List (List ℕ) → ℕ → List (List ℕ)
level_words f n rows w = words_over f n rows [] 0 (length rows) w

unfoldable pub words_from : FieldName → ℕ → List (List ℕ) → ℕ → ℕ → List (List ℕ)
words_from f n rows i m = flat_map (level_words f n rows) (numbers_from i m)

unfoldable pub found : Bool → List ℕ → Option (List ℕ)
found some w = (if some then Some w else None)

pub record AreSums (C : Matrix) (sums : List (List ℕ)) : Type 0 where
  pub some : 0 < length sums
  pub zero : slice_index_or sums 0 [] ≡ zero_word C.columns
  pub words : (t : ℕ) → t < length sums → IsWord C.field C.columns (slice_index_or sums t [])

-- Codes: sets of words of one length, closed under sums and multiples (MacWilliams and Sloane, chapter 1). Contracts see a code
-- as the matrix of its rows.
--   longest              the greatest length of a code
--   is_length n          n is the length of a code: 1 to 255
--   InCode C w           w is a word of the code
--   IsCode f n P C       C is the code over f of length n whose words are those that meet P, given by its reduced generator matrix
--   IsClosed f n P       the words of length n that meet P are a linear code: the zero word is one, and so are sums and multiples
--   CheckedBy f rows w   w has dot 0 with each row
use Rattle.std.specs.Prelude.{◌≡◌, ℕ, ◌<◌, Bool, nat_le, ◌&&◌, List}
use Rattle.lc_algebra.specs.declared.FieldName.{FieldName}
use Rattle.lc_algebra.specs.Field.{size}
use Rattle.lc_algebra.specs.Word.{IsWord, zero_word, word_sum, scale}
use Rattle.lc_algebra.specs.Span.{InSpan}
use Rattle.lc_algebra.specs.Matrix.{Matrix, IsReducedGenerator, IsOrthogonal}

abbrev pub longest : ℕ
longest = 255

unfoldable pub is_length : ℕ → Bool
is_length n = nat_le 1 n && nat_le n longest

abbrev pub InCode : Matrix → List ℕ → Type 0
InCode C w = InSpan C.field C.columns C.rows w

pub record IsCode (f : FieldName) (n : ℕ) (P : List ℕ → Type 0) (C : Matrix) : Type 0 where
  pub over : C.field ≡ f
  pub length_is : C.columns ≡ n
  pub generator : IsReducedGenerator f n P C.rows

pub record IsClosed (f : FieldName) (n : ℕ) (P : List ℕ → Type 0) : Type 0 where
  pub zero : P (zero_word n)
  pub sums : (u v : List ℕ) → IsWord f n u → IsWord f n v → P u → P v → P (word_sum f u v)
  pub multiples : (c : ℕ) (u : List ℕ) → c < size f → IsWord f n u → P u → P (scale f c u)

abbrev pub CheckedBy : FieldName → List (List ℕ) → List ℕ → Type 0
CheckedBy f rows w = IsOrthogonal f rows w

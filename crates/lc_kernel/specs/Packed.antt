-- Words over 2 elements as numbers, and the sums of some rows of an information set.
--   outside n set           the columns below n that aren't in the set
--   others C j              the columns outside the basis of set j
--   bits_at cols w          the packed symbols of a word at some columns
--   row_sum rows u          the exclusive or of the rows at some places
--   EndsAt k t a s          from index s on, the supports of t of k places are those of the places from a on
--   AreStarts k t starts    for each of k places, and the one after them, the index of its first support of t places
--   AreSumsSoFar k t rows sums      the sums of rows at the supports of t places below an index
--   AreRowSums k t rows sums        the sums of t of k rows of bits, in the order of the supports
--   AreRowBits C j cols rows      the bits of the rows of the generator of set j at some columns
--   IsPart C j t cols rows sums    the rows of set j over 2 elements at some columns, and the sums of t of them
--   head_of t s, tail_of t s       the support of a message but its last t places, and these
--   pair_of s               its last two places
use Rattle.std.specs.Prelude.{◌≡◌, ℕ, ◌+◌, ◌-◌, ◌<◌, ◌≤◌, not, List, [], ◌∷◌, length, take, drop, Some, filter, bit_xor, slice_get, slice_index, slice_index_or}
use Rattle.lc_algebra.specs.declared.FieldName.TheVariants.{Gf2}
use Rattle.lc_algebra.specs.Span.{below}
use Rattle.lc_algebra.specs.Matrix.{Matrix}
use Rattle.lc_algebra.specs.SpanLaws.{restrict}
use Rattle.lc_enumeration.specs.Message.{supports_from}
use Rattle.lc_enumeration.specs.InformationSet.{is_member}
use Rattle.lc_enumeration.specs.Search.{generator_at}
use Rattle.lc_infoset.specs.Bound.{set_at}
use Rattle.lc_place.specs.Place.{SpotState}
use Rattle.lc_vec.specs.Packed.{packed}

abbrev pub outside : ℕ → List ℕ → List ℕ
outside n set = filter (λ c. not (is_member set c)) (below n)

abbrev pub others : Matrix → ℕ → List ℕ
others C j = outside C.columns (set_at C j).basis

unfoldable pub bits_at : List ℕ → List ℕ → ℕ
bits_at cols w = packed (restrict cols w)

unfoldable pub row_sum : List ℕ → List ℕ → ℕ
row_sum rows [] = 0
row_sum rows (a ∷ u) = bit_xor (slice_index rows a) (row_sum rows u)

pub record EndsAt (k t a s : ℕ) : Type 0 where
  pub at : (x : ℕ) → slice_get (supports_from 0 k t) (s + x) ≡ slice_get (supports_from a (k - a) t) x
  pub long : s + length (supports_from a (k - a) t) ≡ length (supports_from 0 k t)

pub record AreStarts (k t : ℕ) (starts : List ℕ) : Type 0 where
  pub firsts : length starts ≡ k + 1
  pub first : (a : ℕ) → a ≤ k → EndsAt k t a (slice_index starts a)

pub record AreSumsSoFar (k t : ℕ) (rows sums : List ℕ) : Type 0 where
  pub sum : (r : ℕ) (u : List ℕ) → r < length sums → slice_get (supports_from 0 k t) r ≡ Some u → slice_index sums r ≡ row_sum rows u

pub record AreRowSums (k t : ℕ) (rows sums : List ℕ) : Type 0 where
  pub count : length rows ≡ k
  pub long : length sums ≡ length (supports_from 0 k t)
  pub sum : (r : ℕ) (u : List ℕ) → slice_get (supports_from 0 k t) r ≡ Some u → slice_index sums r ≡ row_sum rows u

pub record AreRowBits (C : Matrix) (j : ℕ) (cols rows : List ℕ) : Type 0 where
  pub count : length rows ≡ length C.rows
  pub bits : (i : ℕ) → i < length C.rows → slice_index rows i ≡ bits_at cols (slice_index_or (generator_at C j) i [])

pub record IsPart (C : Matrix) (j t : ℕ) (cols rows sums : List ℕ) : Type 0 where
  pub field : C.field ≡ Gf2
  pub bits : AreRowBits C j cols rows
  pub tails : AreRowSums (length C.rows) t rows sums

abbrev pub head_of : ℕ → SpotState → List ℕ
head_of t s = take (length s.support - t) s.support

abbrev pub tail_of : ℕ → SpotState → List ℕ
tail_of t s = drop (length s.support - t) s.support

abbrev pub pair_of : SpotState → List ℕ
pair_of s = slice_index s.support (length s.support - 2) ∷ slice_index s.support (length s.support - 1) ∷ []

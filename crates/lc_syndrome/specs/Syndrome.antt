-- Syndromes as numbers, and how they change with a word (MacWilliams and Sloane, chapter 1).
--   syndrome_number H x      the number whose digits are the symbols of the syndrome of x, the first one lowest; H is the matrix of the checks
--   coset_count H            q^m for m checks over q elements: the numbers of syndromes are below it
--   unit n i c               the word of length n that has c at coordinate i and zeros elsewhere
--   sum_number f m a b       the number of the sum of the syndromes of m symbols whose numbers are a and b
--   unit_at H t              the word that has c at coordinate i, if t is q i + c for c below q
--   IsNumberedTo H t numbers the numbers of the syndromes of the first t of these words
--   IsNumbered H numbers     those of all of them, for a check matrix with at most 2^20 syndromes over a symbol field
use Rattle.std.specs.Prelude.{◌≡◌, ℕ, ◌*◌, ◌/◌, ◌%◌, ◌^◌, ◌<◌, ◌≤◌, List, length, set, slice_index, IsTrue}
use Rattle.lc_algebra.specs.declared.FieldName.{FieldName}
use Rattle.lc_algebra.specs.Field.{size, is_symbol}
use Rattle.lc_algebra.specs.Residue.{digits, number}
use Rattle.lc_algebra.specs.Word.{zero_word, word_sum}
use Rattle.lc_algebra.specs.Matrix.{Matrix}
use Rattle.lc_constructions.specs.Code.{longest}
use Rattle.lc_constructions.specs.Coset.{syndrome}

unfoldable pub syndrome_number : Matrix → List ℕ → ℕ
syndrome_number H x = number (size H.field) (syndrome H.field H.rows x)

abbrev pub coset_count : Matrix → ℕ
coset_count H = size H.field ^ length H.rows

abbrev pub unit : ℕ → ℕ → ℕ → List ℕ
unit n i c = set (zero_word n) i c

unfoldable pub sum_number : FieldName → ℕ → ℕ → ℕ → ℕ
sum_number f m a b = number (size f) (word_sum f (digits (size f) m a) (digits (size f) m b))

abbrev pub unit_at : Matrix → ℕ → List ℕ
unit_at H t = unit H.columns (t / size H.field) (t % size H.field)

pub record IsNumberedTo (H : Matrix) (t : ℕ) (numbers : List ℕ) : Type 0 where
  pub count : length numbers ≡ t
  pub entries : (k : ℕ) → k < t → slice_index numbers k ≡ syndrome_number H (unit_at H k)

pub record IsNumbered (H : Matrix) (numbers : List ℕ) : Type 0 where
  pub symbol : IsTrue (is_symbol H.field)
  pub most : H.columns ≤ longest
  pub few : coset_count H ≤ 2 ^ 20
  pub whole : IsNumberedTo H (H.columns * size H.field) numbers

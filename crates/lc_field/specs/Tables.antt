-- The tables by which a field's arithmetic is looked up.
--   combined p s c a b       the number of the polynomial a + c b over the field of p elements, from s digits of a and b
--   IsPowers f powers        the powers of the primitive element, exponents from 0 to twice the size less 3
--   IsLogarithms f logs      at each nonzero element, an exponent that gives it, below the size less 1
--   IsTable op n table       what op gives at each pair of numbers below n, row after row
use Rattle.std.specs.Prelude.{◌≡◌, ℕ, ◌+◌, ◌-◌, ◌*◌, ◌<◌, List, length, slice_index}
use Rattle.lc_algebra.specs.declared.FieldName.{FieldName}
use Rattle.lc_algebra.specs.Residue.{digits, number, plus, times}
use Rattle.lc_algebra.specs.Field.{shape_of, size, pow}

unfoldable pub combined : ℕ → ℕ → ℕ → ℕ → ℕ → ℕ
combined p s c a b = number p (plus p (digits p s a) (times p c (digits p s b)))

pub record IsPowers (f : FieldName) (powers : List ℕ) : Type 0 where
  pub count : length powers ≡ 2 * (size f - 1)
  pub entries : (n : ℕ) → n < length powers → slice_index powers n ≡ pow f (shape_of f).primitive n

pub record IsLogarithms (f : FieldName) (logs : List ℕ) : Type 0 where
  pub count : length logs ≡ size f
  pub below : (a : ℕ) → a < length logs → slice_index logs a < size f - 1
  pub entries : (a : ℕ) → 0 < a → a < length logs → pow f (shape_of f).primitive (slice_index logs a) ≡ a

pub record IsTable (op : ℕ → ℕ → ℕ) (n : ℕ) (table : List ℕ) : Type 0 where
  pub count : length table ≡ n * n
  pub entries : (a b : ℕ) → a < n → b < n → slice_index table (a * n + b) ≡ op a b

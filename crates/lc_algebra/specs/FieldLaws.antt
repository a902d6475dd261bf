-- What the textbook asks of fields (MacWilliams and Sloane, chapters 3 and 4). The elements are the numbers below n, with
-- 0 and 1 for zero and one.
--   IsField n sum product negative      the axioms of a field of n elements
--   plain_product f a b                 the product of the polynomials of a and b, with nothing reduced
--   IsReducedProduct f a b c            c has the coefficients of the remainder of that on division by the field's polynomial
--   IsPrimitive f g                     the powers of g below size - 1 are the nonzero elements, each once, and the next one is 1
--   IsEmbedding small large e           e takes the elements of a field to distinct ones of another, and keeps the arithmetic
use Rattle.std.specs.Prelude.{◌≡◌, ℕ, ◌-◌, ◌<◌, List}
use Rattle.lc_algebra.specs.declared.FieldName.{FieldName}
use Rattle.lc_algebra.specs.Residue.{long_times, IsRemainder}
use Rattle.lc_algebra.specs.Field.{shape_of, size, coefficients, add, mul, pow}

pub record IsField (n : ℕ) (sum product : ℕ → ℕ → ℕ) (negative : ℕ → ℕ) : Type 0 where
  pub zero_is_not_one : 1 < n
  pub sum_inside : (a b : ℕ) → a < n → b < n → sum a b < n
  pub product_inside : (a b : ℕ) → a < n → b < n → product a b < n
  pub negative_inside : (a : ℕ) → a < n → negative a < n
  pub sum_commutes : (a b : ℕ) → a < n → b < n → sum a b ≡ sum b a
  pub sum_associates : (a b c : ℕ) → a < n → b < n → c < n → sum (sum a b) c ≡ sum a (sum b c)
  pub zero_is_neutral : (a : ℕ) → a < n → sum a 0 ≡ a
  pub negative_cancels : (a : ℕ) → a < n → sum a (negative a) ≡ 0
  pub product_commutes : (a b : ℕ) → a < n → b < n → product a b ≡ product b a
  pub product_associates : (a b c : ℕ) → a < n → b < n → c < n → product (product a b) c ≡ product a (product b c)
  pub one_is_neutral : (a : ℕ) → a < n → product a 1 ≡ a
  pub product_distributes : (a b c : ℕ) → a < n → b < n → c < n → product a (sum b c) ≡ sum (product a b) (product a c)
  pub has_inverse : (a : ℕ) → a < n → 0 < a → (b : ℕ) × (b < n) × (product a b ≡ 1)

unfoldable pub plain_product : FieldName → ℕ → ℕ → List ℕ
plain_product f a b = long_times (shape_of f).characteristic (coefficients f a) (coefficients f b)

abbrev pub IsReducedProduct : FieldName → ℕ → ℕ → ℕ → Type 0
IsReducedProduct f a b c = IsRemainder (shape_of f).characteristic (shape_of f).lower (plain_product f a b) (coefficients f c)

pub record IsPrimitive (f : FieldName) (g : ℕ) : Type 0 where
  pub element : g < size f
  pub returns : pow f g (size f - 1) ≡ 1
  pub reaches : (a : ℕ) → 0 < a → a < size f → (n : ℕ) × (n < size f - 1) × (pow f g n ≡ a)
  pub repeats_nothing : (i j : ℕ) → i < size f - 1 → j < size f - 1 → pow f g i ≡ pow f g j → i ≡ j

pub record IsEmbedding (small large : FieldName) (e : ℕ → ℕ) : Type 0 where
  pub inside : (a : ℕ) → a < size small → e a < size large
  pub distinct : (a b : ℕ) → a < size small → b < size small → e a ≡ e b → a ≡ b
  pub zero_stays : e 0 ≡ 0
  pub one_stays : e 1 ≡ 1
  pub sums : (a b : ℕ) → a < size small → b < size small → e (add small a b) ≡ add large (e a) (e b)
  pub products : (a b : ℕ) → a < size small → b < size small → e (mul small a b) ≡ mul large (e a) (e b)

-- Quadratic residue codes (MacWilliams and Sloane, chapter 16; GUAVA manual, `QRCode`). The length n is an odd prime.
--   is_odd_prime n            n is above 2, and none of the numbers from 2 to n - 1 divides it
--   is_residue n a            a is a quadratic residue modulo n: a nonzero square modulo n
--   is_residue_length q n     n is an odd prime modulo which q is a quadratic residue
--   period_norm f n           (1 - m) / 4 in the field, where m is the one of n and -n that is 1 modulo 4
--   is_period f n t           the element t is a root of x^2 + x + (1 - m) / 4, whose roots are the two sums of the powers of an
--                             n-th root of unity whose exponents are residues, and are not residues: the Gaussian periods
--   period f n                the period with the least number
--   residue_symbol f n t i    the symbol at coordinate i of the word of -t + x^a + x^b + .., of the residues a, b, .. below n
--   residue_word f n t        this word of length n
--   cyclic_shift n k w        the word w, of length n, moved on by k coordinates
--   residue_rows f n t        the word of ones, and the n cyclic shifts of the residue word
--   InResidueCode f n t w     w is a word of the quadratic residue code of the period t: a sum of multiples of these rows
--   multiplied n r w          the word whose symbol at coordinate i is that of w at r i modulo n
--   IsQuadraticResidueCode f n C      C is a quadratic residue code that has the word of ones: a cyclic code over f, given by its
--                             reduced generator matrix, of dimension (n + 1) / 2 and of a length n that is an odd prime modulo which
--                             the size of f is a residue; and the maps of i to r i keep it, for each residue r
-- When the call is refused:
--   not_residue_length f n    53: n is no odd prime modulo which the size of the field is a quadratic residue
use Rattle.std.specs.Prelude.{◌≡◌, ℕ, ◌+◌, ◌-◌, ◌*◌, ◌/◌, ◌%◌, ◌<◌, Bool, not, nat_lt, ◌==◌, ◌&&◌, ◌||◌, if◌then◌else◌, IsTrue, List, [], ◌∷◌, length, map, replicate, slice_index, Option}
use Rattle.std.specs.List.{list_any, list_all}
use Rattle.lc_algebra.specs.declared.FieldName.{FieldName}
use Rattle.lc_algebra.specs.Field.{shape_of, size, add, neg, mul}
use Rattle.lc_algebra.specs.Embedding.{first_that}
use Rattle.lc_algebra.specs.Span.{below, InSpan}
use Rattle.lc_algebra.specs.Matrix.{Matrix, AreRows, IsReduced}
use Rattle.lc_constructions.specs.Code.{InCode}
use Rattle.lc_language.specs.Refusal.{Refusal, refuse, when}
use Rattle.lc_language.specs.Relations.{IsCyclic}

-- ---- residues

unfoldable pub is_odd_prime : ℕ → Bool
is_odd_prime n = nat_lt 2 n && list_all (λ d. nat_lt d 2 || not (n % d == 0)) (below n)

unfoldable pub is_residue : ℕ → ℕ → Bool
is_residue n a = not (a % n == 0) && list_any (λ j. j * j % n == a % n) (below n)

unfoldable pub is_residue_length : ℕ → ℕ → Bool
is_residue_length q n = is_odd_prime n && is_residue n q

-- ---- periods

unfoldable pub period_norm : FieldName → ℕ → ℕ
period_norm f n = (if n % 4 == 1 then neg f ((n - 1) / 4 % (shape_of f).characteristic) else (n + 1) / 4 % (shape_of f).characteristic)

unfoldable pub is_period : FieldName → ℕ → ℕ → Bool
is_period f n t = add f (add f (mul f t t) t) (period_norm f n) == 0

unfoldable pub period : FieldName → ℕ → ℕ
period f n = first_that (is_period f n) (size f)

-- ---- the code

unfoldable pub residue_symbol : FieldName → ℕ → ℕ → ℕ → ℕ
residue_symbol f n t i = (if i == 0 then neg f t else if is_residue n i then 1 else 0)

unfoldable pub residue_word : FieldName → ℕ → ℕ → List ℕ
residue_word f n t = map (residue_symbol f n t) (below n)

unfoldable pub cyclic_shift : ℕ → ℕ → List ℕ → List ℕ
cyclic_shift n k w = map (λ i. slice_index w ((i + (n - k)) % n)) (below n)

unfoldable pub residue_rows : FieldName → ℕ → ℕ → List (List ℕ)
residue_rows f n t = replicate n 1 ∷ map (λ k. cyclic_shift n k (residue_word f n t)) (below n)

abbrev pub InResidueCode : FieldName → ℕ → ℕ → List ℕ → Type 0
InResidueCode f n t w = InSpan f n (residue_rows f n t) w

unfoldable pub multiplied : ℕ → ℕ → List ℕ → List ℕ
multiplied n r w = map (λ i. slice_index w (r * i % n)) (below n)

pub record IsQuadraticResidueCode (f : FieldName) (n : ℕ) (C : Matrix) : Type 0 where
  pub field : C.field ≡ f
  pub columns : C.columns ≡ n
  pub prime : IsTrue (is_residue_length (size f) n)
  pub words : AreRows f n C.rows
  pub reduced : IsReduced n C.rows
  pub cyclic : IsCyclic C
  pub kept : (r : ℕ) (w : List ℕ) → IsTrue (is_residue n r) → InCode C w → InCode C (multiplied n r w)
  pub ones : InCode C (replicate n 1)
  pub dimension : length C.rows ≡ (n + 1) / 2

-- ---- refusals

unfoldable pub not_residue_length : FieldName → ℕ → Option Refusal
not_residue_length f n = when (not (is_residue_length (size f) n)) (refuse 53 [])

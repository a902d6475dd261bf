-- How a polynomial over a small field gets a zero in a large one, by Horner's rule from the last coefficient down.
--   next_value small large a c v       the value at a, one coefficient c of the small field further down, if it was v
--   CanVanish small large a n v        some n more coefficients of the small field make the value v 0
use Rattle.std.specs.Prelude.{◌≡◌, ℕ, zero, suc, ◌<◌}
use Rattle.lc_algebra.specs.declared.FieldName.{FieldName}
use Rattle.lc_algebra.specs.Field.{size, add, mul}
use Rattle.lc_algebra.specs.Embedding.{embed}

abbrev pub next_value : FieldName → FieldName → ℕ → ℕ → ℕ → ℕ
next_value small large a c v = add large (embed small large c) (mul large a v)

unfoldable pub CanVanish : FieldName → FieldName → ℕ → ℕ → ℕ → Type 0
CanVanish small large a zero v = v ≡ 0
CanVanish small large a (suc n) v = (c : ℕ) × (c < size small) × CanVanish small large a n (next_value small large a c v)

-- The bit planes of a word over a field of characteristic 2, whose elements are numbered by the bits of their polynomials.
--   bit t a          bit t of a number, the lowest being bit 0
--   plane t w        bit t of each symbol of w
--   planes f w       the planes of w, one for each degree of the field's polynomials
use Rattle.std.specs.Prelude.{ℕ, ◌/◌, ◌%◌, ◌^◌, List, map}
use Rattle.lc_algebra.specs.declared.FieldName.{FieldName}
use Rattle.lc_algebra.specs.Field.{shape_of}
use Rattle.lc_algebra.specs.Span.{below}

unfoldable pub bit : ℕ → ℕ → ℕ
bit t a = a / 2 ^ t % 2

unfoldable pub plane : ℕ → List ℕ → List ℕ
plane t w = map (bit t) w

unfoldable pub planes : FieldName → List ℕ → List (List ℕ)
planes f w = map (λ t. plane t w) (below (shape_of f).degree)

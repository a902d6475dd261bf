-- Powers of an element (MacWilliams and Sloane, chapter 7).
--   powers K x s n         the powers of x by i s, for i below n
use Rattle.std.specs.Prelude.{ℕ, ◌*◌, List, map}
use Rattle.lc_algebra.specs.declared.FieldName.{FieldName}
use Rattle.lc_algebra.specs.Field.{pow}
use Rattle.lc_algebra.specs.Span.{below}

unfoldable pub powers : FieldName → ℕ → ℕ → ℕ → List ℕ
powers K x s n = map (λ i. pow K x (i * s)) (below n)

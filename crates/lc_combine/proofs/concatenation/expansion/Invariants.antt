use Rattle.std.proofs.Common.{◌≢◌, ℕ, ◌<◌, map}
use Rattle.lc_algebra.specs.Residue.{digits}
use Rattle.lc_algebra.specs.Field.{shape_of, size}
use Rattle.lc_algebra.specs.Polynomial.{value_at}
use Rattle.lc_algebra.specs.Embedding.{embed}
use Rattle.lc_combine.proofs.concatenation.expansion.Given as goal

abbrev pub invariant-loop-x : goal.invariant-loop-x
invariant-loop-x l = (y : ℕ) → y < l.x → value_at l.outer (map (embed l.inner l.outer) (digits (size l.inner) l.s y)) (shape_of l.outer).primitive ≢ l.a

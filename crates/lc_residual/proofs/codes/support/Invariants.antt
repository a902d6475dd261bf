use Rattle.std.proofs.Common.{◌≡◌, ◌==◌, not, filter, slice_index}
use Rattle.lc_algebra.specs.Span.{below}
use Rattle.lc_residual.proofs.codes.support.Given as goal

abbrev pub invariant-loop-i : goal.invariant-loop-i
invariant-loop-i l = l.coordinates.items ≡ filter (λ i. not (slice_index l.word i == 0)) (below l.i)

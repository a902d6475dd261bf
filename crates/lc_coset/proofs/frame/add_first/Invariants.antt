use Rattle.std.proofs.Common.{◌≡◌, ◌≤◌, length, drop}
use Rattle.lc_algebra.specs.Span.{combine}
use Rattle.lc_algebra.specs.SpanLaws.{restrict}
use Rattle.lc_enumeration.specs.Search.{generator_at}
use Rattle.lc_infoset.specs.Bound.{set_at}
use Rattle.lc_coset.proofs.frame.add_first.Given as goal

abbrev pub invariant-loop-i : goal.invariant-loop-i
invariant-loop-i l = (l.i ≤ length l.sets.rows) × (l.first ≡ combine l.sets.field l.sets.columns (drop l.i (restrict (set_at l.sets l.j).basis l.word)) (drop l.i (generator_at l.sets l.j)))

abbrev pub decreases-loop-i : goal.decreases-loop-i
decreases-loop-i l = l.i

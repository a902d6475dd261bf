use Rattle.lc_distances.proofs.LeastLaws.{least_taken, least_kept}
use Rattle.lc_distances.proofs.counts.least_count.Goals as goal
use Rattle.lc_distances.proofs.counts.least_count.Goals.{then-count-least, else-count-least}

pub loop-i-preserved : goal.loop-i-preserved
loop-i-preserved c = elim c.if-count-least.branch [
  | then-count-least w ↦ rw w.least-is (least_taken _ _ _ _ c.loop-i.invariant w.if-count-least.true)
  | else-count-least w ↦ rw w.least-is (least_kept _ _ _ _ c.loop-i.invariant w.if-count-least.false)
]

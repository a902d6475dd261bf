use Rattle.lc_distances.proofs.LeastLaws.{least_taken, least_kept}
use Rattle.lc_distances.proofs.halves.row_three.Goals as goal
use Rattle.lc_distances.proofs.halves.row_three.Goals.{then-many-least, else-many-least}

pub loop-i-preserved : goal.loop-i-preserved
loop-i-preserved c = elim c.if-many-least.branch [
  | then-many-least w ↦ rw w.least-is (least_taken _ _ _ _ c.loop-i.invariant w.if-many-least.true)
  | else-many-least w ↦ rw w.least-is (least_kept _ _ _ _ c.loop-i.invariant w.if-many-least.false)
]

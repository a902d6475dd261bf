use Rattle.std.proofs.Common.{refl}
use Rattle.lc_poly.proofs.CyclotomicLaws.{collected_step, collected_over}
use Rattle.lc_poly.proofs.cyclotomic.members.Goals as goal
use Rattle.lc_poly.proofs.cyclotomic.members.Goals.{then-seen-x+in_ok-push, else-seen-x}

pub loop-x-preserved : goal.loop-x-preserved
loop-x-preserved c =
    elim c.if-seen-x.branch [
      | then-seen-x+in_ok-push w ↦ rw w.xs-is (collected_step c.args.seen.now c.loop-x.x c.loop-x.xs.items _ c.loop-x.x c.loop-x.invariant refl w.if-seen-x.true w.in_ok-push.ensures.items)
      | else-seen-x w ↦ rw w.xs-is (collected_over c.args.seen.now c.loop-x.x c.loop-x.xs.items c.loop-x.invariant w.if-seen-x.false)
    ]

use Rattle.lc_field.proofs.LogarithmLaws.{powers_step}
use Rattle.lc_field.proofs.logarithms.powers_of.Goals as goal

pub loop-n-preserved : goal.loop-n-preserved
loop-n-preserved c = powers_step c.args.row.now.name _ _ _ _ _ c.loop-n.invariant.0 c.loop-n.invariant.1 c.loop-n.invariant.2 c.in_ok-push.ensures.items c.next_power-power.ensures.is

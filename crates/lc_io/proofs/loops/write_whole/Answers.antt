use Rattle.std.proofs.Common.{◌∙◌, rules}
use Rattle.lc_io.proofs.Fronts.{Appends-longer}
use Rattle.lc_io.proofs.loops.write_whole.Goals as goal

pub loop-done-preserved : goal.loop-done-preserved
loop-done-preserved g c =
    (search rules, Appends-longer _ _ _ _ _ _ c.loop-done.invariant.1 c.in_ok-done.ensures.took, c.in_ok-done.ensures.count ∙ c.loop-done.invariant.2)

use Rattle.std.proofs.Common.{◌-◌, ◌<◌, arith}
use Rattle.lc_algebra.specs.Field.{size}
use Rattle.lc_field.proofs.LogarithmLaws.{logs_step, logs_whole}
use Rattle.lc_field.proofs.logarithms.logs_of.Goals as goal

pub loop-n-preserved : goal.loop-n-preserved
loop-n-preserved c =
    let l : c.loop-n.n < size c.args.row.now.name - 1 = omega (arith, c.requires.row.elements) in
    logs_step c.args.row.now.name _ _ _ (c.requires.powers.entries c.loop-n.n (omega (arith, c.requires.powers.count, l))) l c.loop-n.invariant.0 c.loop-n.invariant.1 c.loop-n.invariant.2

pub returns : goal.returns
returns c = logs_whole c.args.row.now.name _ c.loop-n.n (omega (arith, c.requires.row.elements)) c.loop-n.invariant.0 c.loop-n.invariant.1 c.loop-n.invariant.2

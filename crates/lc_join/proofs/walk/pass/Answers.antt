use Rattle.std.proofs.Common.{refl, arith}
use Rattle.lc_parts.specs.Joined.{with_lines}
use Rattle.lc_join.proofs.WalkLaws.{parts_of, pass_more, pass_end}
use Rattle.lc_join.proofs.walk.pass.Goals as goal

pub loop-i-init : goal.loop-i-init
loop-i-init c = refl

pub loop-i-preserved : goal.loop-i-preserved
loop-i-preserved c =
    pass_more (with_lines c.args.joined.now (parts_of c.args.lines.now)) c.loop-i.joined c.take.new.self c.args.lines.now c.loop-i.i c.index-lines-i.result c.loop-i-test.true c.take.ensures.is c.loop-i.invariant

pub returns : goal.returns
returns c = record { is = pass_end (with_lines c.args.joined.now (parts_of c.args.lines.now)) c.loop-i.joined c.args.lines.now c.loop-i.i (omega (arith, c.loop-i-test.false)) c.loop-i.invariant }

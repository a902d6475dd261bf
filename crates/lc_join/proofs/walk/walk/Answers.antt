use Rattle.std.proofs.Common.{arith}
use Rattle.lc_join.proofs.WalkLaws.{parts_of, walked_first, walked_more, walked_end, pass_grows}
use Rattle.lc_join.proofs.walk.walk.Goals as goal

pub loop-before-init : goal.loop-before-init
loop-before-init c = walked_first c.args.joined.now (parts_of c.args.lines.now) c.requires.begun

pub returns-then-blocks-before-clause-joined : goal.returns-then-blocks-before-clause-joined
returns-then-blocks-before-clause-joined c =
    walked_end c.args.joined.now c.loop-before.joined c.pass.new.joined (parts_of c.args.lines.now) c.pass.ensures.is
    (omega (arith, c.blocks-before.ensures.is, c.blocks-in-loop-before.ensures.is, c.if-blocks-before.true)) c.loop-before.invariant

pub returns-then-blocks-before-clause-script : goal.returns-then-blocks-before-clause-script
returns-then-blocks-before-clause-script c = (walked_more c.args.joined.now c.loop-before.joined c.pass.new.joined (parts_of c.args.lines.now) c.pass.ensures.is c.loop-before.invariant).script

pub returns-then-blocks-before-clause-facts : goal.returns-then-blocks-before-clause-facts
returns-then-blocks-before-clause-facts c = (walked_more c.args.joined.now c.loop-before.joined c.pass.new.joined (parts_of c.args.lines.now) c.pass.ensures.is c.loop-before.invariant).facts

pub returns-then-blocks-before-clause-budget : goal.returns-then-blocks-before-clause-budget
returns-then-blocks-before-clause-budget c = (walked_more c.args.joined.now c.loop-before.joined c.pass.new.joined (parts_of c.args.lines.now) c.pass.ensures.is c.loop-before.invariant).budget

pub loop-before-smaller : goal.loop-before-smaller
loop-before-smaller c =
    let went = walked_more c.args.joined.now c.loop-before.joined c.pass.new.joined (parts_of c.args.lines.now) c.pass.ensures.is c.loop-before.invariant in
    let grown = pass_grows c.loop-before.joined c.pass.new.joined (parts_of c.args.lines.now) c.pass.ensures.is in
    omega (arith, went.budget, c.loop-before.invariant.budget, grown, c.blocks-before.ensures.is, c.blocks-in-loop-before.ensures.is, c.blocks-in-loop-before.ensures.few, c.if-blocks-before.false)

pub loop-before-preserved : goal.loop-before-preserved
loop-before-preserved c = walked_more c.args.joined.now c.loop-before.joined c.pass.new.joined (parts_of c.args.lines.now) c.pass.ensures.is c.loop-before.invariant

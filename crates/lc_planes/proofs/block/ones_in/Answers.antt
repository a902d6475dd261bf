use Rattle.std.proofs.Common.{◌∙◌, arith}
use Rattle.lc_planes.specs.Planes.{symbols_of}
use Rattle.lc_planes.proofs.BlockLaws.{weight_none, weight_all, weight_next, symbols_long}
use Rattle.lc_planes.proofs.block.ones_in.Goals as goal

pub loop-b-init : goal.loop-b-init
loop-b-init c = weight_none (symbols_of c.args.len c.args.blocks.now)

pub overflow_add-ones : goal.overflow_add-ones
overflow_add-ones c =
    let t = weight_next (symbols_of c.args.len c.args.blocks.now) c.args.blocks.now c.loop-b.b c.loop-b.ones c.ones_of.result c.requires.are c.requires.small c.loop-b-test.true c.loop-b.invariant c.ones_of.ensures.is in
    omega (arith, t.few, symbols_long c.args.len c.args.blocks.now, c.ranges.len.fits)

pub loop-b-preserved : goal.loop-b-preserved
loop-b-preserved c = (weight_next (symbols_of c.args.len c.args.blocks.now) c.args.blocks.now c.loop-b.b c.loop-b.ones c.ones_of.result c.requires.are c.requires.small c.loop-b-test.true c.loop-b.invariant c.ones_of.ensures.is).next

pub returns : goal.returns
returns c = record { is = c.loop-b.invariant ∙ weight_all (symbols_of c.args.len c.args.blocks.now) c.loop-b.b (omega (arith, c.requires.are.all, c.loop-b-test.false, c.loop-b.auto.b-end)) }

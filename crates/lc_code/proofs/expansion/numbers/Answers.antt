use Rattle.std.proofs.Common.{arith}
use Rattle.lc_code.proofs.CoordinateSteps.{element_told, numbered_more, numbered_whole}
use Rattle.lc_code.proofs.expansion.numbers.Goals as goal

pub loop-t-preserved : goal.loop-t-preserved
loop-t-preserved c =
    let f = c.args.field.now in
    let K = c.args.locator.now in
    let t = c.loop-t.t in
    let a = c.element-a.result in
    numbered_more f K c.loop-t.numbers.items t a (element_told f K c.relative_degree-degree.result t a c.relative_degree-degree.ensures.is c.element-a.ensures.is) c.element-a.ensures.below c.loop-t.invariant

pub returns : goal.returns
returns c = record {
  are = numbered_whole c.args.field.now c.args.locator.now c.loop-t.numbers.items c.loop-t.t c.requires.symbol c.requires.subfield (omega (arith, c.size-size.ensures.is)) c.loop-t.invariant;
}

use Rattle.std.proofs.Common.{◌+◌, ◌-◌, arith}
use Rattle.lc_relations.proofs.EncodingLaws.{sum_of_none, sum_of_more}
use Rattle.lc_relations.proofs.encoding.put_encoded.Goals as goal

pub loop-i-init : goal.loop-i-init
loop-i-init c = sum_of_none c.args.code.now (c.dimension-k.result - 0) c.args.message.now c.args.sum.now (omega (arith, c.requires.message.long, c.dimension-k.ensures.is)) c.requires.zeros

pub loop-i-preserved : goal.loop-i-preserved
loop-i-preserved c =
    let k = c.dimension-k.result in
    let i = c.loop-i.i in
    sum_of_more c.args.code.now c.field.result.now (k - (i + 1)) (k - 1 - i) (k - i) c.args.message.now c.loop-i.sum c.add_scaled.new.to c.row.result.now c.field.ensures.is
    (omega arith)
    (omega (arith, c.loop-i-test.true, c.loop-i.auto.i-end))
    (omega (arith, c.loop-i-test.true, c.loop-i.auto.i-end, c.requires.message.long, c.dimension-k.ensures.is))
    (omega (arith, c.loop-i-test.true, c.loop-i.auto.i-end, c.dimension-k.ensures.is))
    c.row.ensures.is c.row.ensures.word c.loop-i.invariant c.add_scaled.ensures.is

use Rattle.std.proofs.Common.{arith}
use Rattle.lc_code.proofs.TriedLaws.{tried_more}
use Rattle.lc_code.proofs.code.Code.contains.Goals as goal

pub loop-i-preserved : goal.loop-i-preserved
loop-i-preserved c =
    tried_more c.self.inside.matrix c.loop-i.i c.args.word.now c.loop-i.buf c.clear.new.word c.self.invariant
    (omega (arith, c.loop-i-test.true, c.loop-i.auto.i-end, c.rows-i-end.ensures.is))
    c.loop-i.invariant
    c.clear.ensures.cleared

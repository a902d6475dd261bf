use Rattle.std.proofs.Common.{sym, arith}
use Rattle.lc_combine.proofs.NestedLaws.{degree_at}
use Rattle.lc_combine.proofs.refusal.degree_over.Goals as goal

pub returns-then-power-size : goal.returns-then-power-size
returns-then-power-size c = record {
  is = sym (degree_at c.args.q c.args.size c.loop-s.s c.loop-s.power c.loop-s.invariant.from (omega (arith, c.loop-s-test.true)) c.loop-s.invariant.none c.loop-s.invariant.power (omega (arith, c.if-power-size.true)));
}

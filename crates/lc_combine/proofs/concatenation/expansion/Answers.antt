use Rattle.std.proofs.Common.{arith}
use Rattle.lc_combine.proofs.ReplacedLaws.{expansion_found}
use Rattle.lc_combine.proofs.concatenation.expansion.Goals as goal

pub unreachable-requires : goal.unreachable-requires
unreachable-requires c =
    expansion_found c.args.inner.now c.args.outer.now c.args.s c.args.a c.requires.degree c.requires.symbol c.requires.element (λ y l. c.loop-x.invariant y (omega (arith, l, c.loop-x-test.false, c.size-x-end.ensures.is)))

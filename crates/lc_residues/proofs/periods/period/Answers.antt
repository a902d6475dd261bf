use Rattle.lc_residues.proofs.PeriodLaws.{period_missing}
use Rattle.lc_residues.proofs.periods.period.Goals as goal

pub unreachable-requires : goal.unreachable-requires
unreachable-requires c = period_missing c.args.field.now c.args.n c.size-t-end.result c.loop-t.t c.requires.symbol c.requires.most c.requires.length c.size-t-end.ensures.is c.loop-t-test.false c.loop-t.invariant

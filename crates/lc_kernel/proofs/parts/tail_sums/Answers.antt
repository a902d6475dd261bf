use Rattle.lc_kernel.proofs.SupportLaws.{rows_are_sums}
use Rattle.lc_kernel.proofs.parts.tail_sums.Goals as goal

pub longer_sums-requires-clause-sums : goal.longer_sums-requires-clause-sums
longer_sums-requires-clause-sums c = rows_are_sums c.args.rows.now

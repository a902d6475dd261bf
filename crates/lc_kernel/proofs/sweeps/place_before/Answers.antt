use Rattle.std.proofs.Common.{arith}
use Rattle.lc_distances.proofs.RowLaws.{row_before}
use Rattle.lc_kernel.proofs.sweeps.place_before.Goals as goal

pub returns-then-column-eq0-clause-place : goal.returns-then-column-eq0-clause-place
returns-then-column-eq0-clause-place c = omega (arith, row_before c.args.row c.args.columns (c.requires.later c.if-column-eq0.true) c.requires.some, c.if-column-eq0.true)

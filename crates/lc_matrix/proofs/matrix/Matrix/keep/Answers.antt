use Rattle.std.proofs.Common.{◌≤◌, arith}
use Rattle.lc_matrix.proofs.FlatLaws.{rows_kept, length_rows_of}
use Rattle.lc_matrix.proofs.matrix.Matrix.keep.Goals as goal

pub returns-clause-rows : goal.returns-clause-rows
returns-clause-rows c =
    let i = c.self.inside in
    let r = rw (← c.self.view_is) at c.requires.count in
    let l : c.args.k ≤ i.height = omega (arith, r, length_rows_of i.width i.height i.symbols.items) in
    rw (c.truncate.ensures.items, ← c.self.view_is) (rows_kept i.field i.width i.height c.args.k i.symbols.items l c.self.invariant)

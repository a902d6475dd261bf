use Rattle.std.proofs.Common.{◌<◌, arith}
use Rattle.lc_matrix.proofs.FlatLaws.{row_scaled, length_rows_of}
use Rattle.lc_matrix.proofs.matrix.Matrix.scale_row.Goals as goal

pub invariant_of-self : goal.invariant_of-self
invariant_of-self c =
    let i = c.self.inside in
    let r = rw (← c.self.view_is) at c.requires.row in
    let l : c.args.i < i.height = omega (arith, r, length_rows_of i.width i.height i.symbols.items) in
    (row_scaled i.field i.width i.height c.args.i i.symbols.len c.args.c i.symbols.items c.deref_mut.result.now c.scale.new.to c.deref_mut.ensures.value (omega (arith, i.symbols.ok)) l c.self.invariant c.scale.ensures.fits c.scale.ensures.is).0

pub returns-clause-rows : goal.returns-clause-rows
returns-clause-rows c =
    let i = c.self.inside in
    let r = rw (← c.self.view_is) at c.requires.row in
    let l : c.args.i < i.height = omega (arith, r, length_rows_of i.width i.height i.symbols.items) in
    rw (← c.self.view_is) (row_scaled i.field i.width i.height c.args.i i.symbols.len c.args.c i.symbols.items c.deref_mut.result.now c.scale.new.to c.deref_mut.ensures.value (omega (arith, i.symbols.ok)) l c.self.invariant c.scale.ensures.fits c.scale.ensures.is).1

use Rattle.std.proofs.Common.{◌≡◌, length, arith}
use Rattle.lc_matrix.proofs.FormLaws.{echelon_made}
use Rattle.lc_matrix.proofs.matrix.Matrix.pivoted.Goals as goal

pub returns-clause-echelon : goal.returns-clause-echelon
returns-clause-echelon c =
    let at = c.in_ok-at.at in
    let r : c.len.result ≡ length at.items = omega (arith, c.len.ensures, at.ok) in
    (echelon_made c.args.self.now c.in_ok-matrix.matrix c.reduce.new.self c.keep.new.self c.cols.result c.len.result c.in_ok-order.order.items c.deref.result.now at.items c.in_ok-matrix.ensures.same c.reduce.ensures.field c.reduce.ensures.columns c.reduce.ensures.words c.reduce.ensures.same c.cols.ensures.is c.in_ok-order.ensures.are c.deref.ensures.value c.in_ok-at.ensures.reduced r c.keep.ensures.rows).0

pub returns-clause-pivots : goal.returns-clause-pivots
returns-clause-pivots c =
    let at = c.in_ok-at.at in
    let r : c.len.result ≡ length at.items = omega (arith, c.len.ensures, at.ok) in
    (echelon_made c.args.self.now c.in_ok-matrix.matrix c.reduce.new.self c.keep.new.self c.cols.result c.len.result c.in_ok-order.order.items c.deref.result.now at.items c.in_ok-matrix.ensures.same c.reduce.ensures.field c.reduce.ensures.columns c.reduce.ensures.words c.reduce.ensures.same c.cols.ensures.is c.in_ok-order.ensures.are c.deref.ensures.value c.in_ok-at.ensures.reduced r c.keep.ensures.rows).1

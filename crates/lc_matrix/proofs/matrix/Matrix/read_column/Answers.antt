use Rattle.std.proofs.Common.{◌≡◌, length, refl, arith}
use Rattle.lc_matrix.proofs.EliminationLaws.{reduced_pushed}
use Rattle.lc_matrix.proofs.matrix.Matrix.read_column.Goals as goal

pub returns-clause-state : goal.returns-clause-state
returns-clause-state c =
    let s = c.args.self.now in
    let taken = c.if-not-take_column.ensures in
    let e : c.len.result ≡ length c.args.at.now.items = omega (arith, c.len.ensures, c.args.at.now.ok) in
    reduced_pushed s.field s.columns c.args.t c.len.result _ c.args.order.now c.args.at.now.items c.push.new.self.items s.rows c.take_column.new.self.rows e refl c.requires.state c.take_column.ensures.keeps taken.row taken.leads taken.clears c.in_ok-push.ensures.items

use Rattle.lc_matrix.proofs.FormLaws.{rank_is}
use Rattle.lc_matrix.proofs.matrix.Matrix.rank.Goals as goal

pub returns : goal.returns
returns c =
    let s = c.args.self.now in
    record { is = rank_is s.field s.columns c.rows.result s.rows c.in_ok-matrix.matrix.rows c.in_ok-matrix.ensures.echelon c.rows.ensures.is }

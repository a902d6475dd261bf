use Rattle.lc_matrix.proofs.FormLaws.{rest_told}
use Rattle.lc_matrix.proofs.matrix.Matrix.has.Goals as goal

pub returns : goal.returns
returns c =
    let s = c.args.self.now in
    record { is = rest_told s.field s.columns c.weight.result c.args.places.now s.rows c.args.word.now c.subtract_rows.new.rest c.rows-height.ensures.words c.requires.pivots c.subtract_rows.ensures.rest c.weight.ensures.is }

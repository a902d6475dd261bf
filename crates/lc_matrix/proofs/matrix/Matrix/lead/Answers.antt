use Rattle.std.proofs.Common.{◌<◌, length, arith}
use Rattle.lc_matrix.proofs.EliminationLaws.{keeps_lead}
use Rattle.lc_matrix.proofs.matrix.Matrix.lead.Goals as goal

pub returns-clause-keeps : goal.returns-clause-keeps
returns-clause-keeps c =
    let s = c.args.self.now in
    let below = rw c.field.ensures.is at c.inv-inverse.ensures.below in
    let row : c.args.r < length s.rows = omega arith in
    keeps_lead s.field c.raise.new.self.field s.columns c.args.r c.inv-inverse.result s.rows c.raise.new.self.rows c.scale_row.new.self.rows c.raise.ensures.keeps c.raise.ensures.field row below c.inv-inverse.ensures.nonzero c.scale_row.ensures.rows

use Rattle.std.proofs.Common.{◌∙◌}
use Rattle.lc_matrix.proofs.EliminationLaws.{keeps_raised, raised_nonzero}
use Rattle.lc_matrix.proofs.matrix.Matrix.raise.Goals as goal

pub returns-clause-keeps : goal.returns-clause-keeps
returns-clause-keeps c =
    let s = c.args.self.now in
    keeps_raised s.field s.columns c.args.r c.args.i s.rows c.add_to_row.new.self.rows c.copy_from_slice.new.self c.rows-height.ensures.words c.requires.from c.requires.row c.if-r-i.false (c.copy_from_slice.ensures.after ∙ c.row.ensures.is) c.add_to_row.ensures.rows

pub returns-clause-nonzero : goal.returns-clause-nonzero
returns-clause-nonzero c =
    let s = c.args.self.now in
    raised_nonzero s.field s.columns c.args.r c.args.i c.args.c s.rows c.add_to_row.new.self.rows c.copy_from_slice.new.self c.rows-height.ensures.words c.requires.from c.requires.row c.if-r-i.false c.requires.first c.requires.nonzero (c.copy_from_slice.ensures.after ∙ c.row.ensures.is) c.add_to_row.ensures.rows

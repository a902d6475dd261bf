use Rattle.lc_matrix.proofs.FlatLaws.{words_of}
use Rattle.lc_matrix.proofs.matrix.Matrix.rows.Goals as goal

pub returns-clause-words : goal.returns-clause-words
returns-clause-words c =
    let i = c.self.inside in
    rw (← c.self.view_is) (words_of i.field i.width i.height i.symbols.items c.self.invariant)

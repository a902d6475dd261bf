use Rattle.std.proofs.Common.{subst, sym, ◌∙◌}
use Rattle.lc_algebra.specs.Word.{IsWord}
use Rattle.lc_matrix.proofs.EliminationLaws.{rows_unchanged}
use Rattle.lc_matrix.proofs.matrix.Matrix.clear_row.Goals as goal

pub returns-then-a-eq0-clause-cleared : goal.returns-then-a-eq0-clause-cleared
returns-then-a-eq0-clause-cleared c o =
    let s = c.args.self.now in
    rows_unchanged s.field s.columns c.args.c c.args.j s.rows c.args.pivot.now (sym c.symbol-a.ensures.is ∙ c.if-a-eq0.true) (subst (IsWord s.field s.columns) c.row-row.ensures.is c.row-row.ensures.word) c.requires.word.long

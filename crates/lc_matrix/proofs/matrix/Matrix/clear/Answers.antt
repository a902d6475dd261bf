use Rattle.std.proofs.Common.{◌≡◌, length, subst, arith}
use Rattle.lc_matrix.specs.Elimination.{IsClearedTo}
use Rattle.lc_matrix.proofs.EliminationLaws.{cleared_keeps, cleared_zero}
use Rattle.lc_matrix.proofs.matrix.Matrix.clear.Goals as goal

pub returns-clause-keeps : goal.returns-clause-keeps
returns-clause-keeps c =
    let s = c.args.self.now in
    let h = subst (λ f. IsClearedTo f c.args.c c.args.r c.loop-j.j c.args.pivot.now s.rows c.loop-j.self.rows) c.loop-j.invariant.same_field c.loop-j.invariant.cleared in
    let e : c.loop-j.j ≡ length s.rows = omega arith in
    cleared_keeps s.field s.columns c.args.c c.args.r c.loop-j.j c.args.pivot.now s.rows c.loop-j.self.rows h e c.requires.lent c.rows-j-end.ensures.words c.requires.row

pub returns-clause-clears : goal.returns-clause-clears
returns-clause-clears c =
    let s = c.args.self.now in
    let h = subst (λ f. IsClearedTo f c.args.c c.args.r c.loop-j.j c.args.pivot.now s.rows c.loop-j.self.rows) c.loop-j.invariant.same_field c.loop-j.invariant.cleared in
    let e : c.loop-j.j ≡ length s.rows = omega arith in
    cleared_zero s.field s.columns c.args.c c.args.r c.loop-j.j c.args.pivot.now s.rows c.loop-j.self.rows h e c.requires.lent c.rows-j-end.ensures.words c.requires.row c.requires.leads

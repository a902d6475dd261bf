use Rattle.std.proofs.Common.{refl, sym, ◌∙◌}
use Rattle.std.proofs.lemmas.Bool.{false≢true}
use Rattle.lc_matrix.proofs.PlaceLaws.{place_at, at_place}
use Rattle.lc_matrix.proofs.SolutionLaws.{unsolvable_made, inside_made, solution_made}
use Rattle.lc_matrix.proofs.matrix.Matrix.solve.Goals as goal

pub returns-then-holds-clause-exact : goal.returns-then-holds-clause-exact
returns-then-holds-clause-exact c =
    let s = c.args.self.now in
    (λ h. absurd (false≢true h), λ k. absurd (unsolvable_made s c.in_ok-matrix.matrix c.in_ok-reduced.reduced c.in_ok-reduced.places.items c.deref.result.now c.args.right.now c.cols.result c.rows-height.ensures.words c.requires.right c.in_ok-matrix.ensures.field c.in_ok-matrix.ensures.columns c.in_ok-matrix.ensures.rows c.in_ok-reduced.ensures.echelon c.in_ok-reduced.ensures.pivots c.deref.ensures.value c.cols.ensures.is (at_place c.deref.result.now c.if-holds.ensures.yes.0 c.cols.result c.if-holds.ensures.yes.1 c.if-holds.ensures.yes.2) k))

pub solution-requires-clause-inside : goal.solution-requires-clause-inside
solution-requires-clause-inside c =
    let s = c.args.self.now in
    inside_made s c.in_ok-matrix.matrix c.in_ok-reduced.reduced c.in_ok-reduced.places.items c.deref.result.now c.deref-2.result.now c.cols.result c.cols-2.result c.in_ok-matrix.ensures.columns c.in_ok-reduced.ensures.pivots c.deref.ensures.value c.cols.ensures.is (λ t. c.if-holds.ensures.no t.0 t.1 (place_at c.deref.result.now c.cols.result t)) c.deref-2.ensures.value c.cols-2.ensures.is

pub returns-clause-solves : goal.returns-clause-solves
returns-clause-solves c =
    let s = c.args.self.now in
    (solution_made s c.in_ok-matrix.matrix c.in_ok-reduced.reduced c.in_ok-reduced.places.items c.deref.result.now c.deref-2.result.now c.args.right.now c.in_ok-word.word c.cols.result c.cols-2.result c.rows-height.ensures.words c.requires.right c.in_ok-matrix.ensures.field c.in_ok-matrix.ensures.columns c.in_ok-matrix.ensures.rows c.in_ok-reduced.ensures.field c.in_ok-reduced.ensures.echelon c.in_ok-reduced.ensures.pivots c.deref.ensures.value c.cols.ensures.is (λ t. c.if-holds.ensures.no t.0 t.1 (place_at c.deref.result.now c.cols.result t)) c.deref-2.ensures.value c.cols-2.ensures.is c.in_ok-word.ensures.is).1

pub returns-clause-exact : goal.returns-clause-exact
returns-clause-exact c =
    let s = c.args.self.now in
    let t = solution_made s c.in_ok-matrix.matrix c.in_ok-reduced.reduced c.in_ok-reduced.places.items c.deref.result.now c.deref-2.result.now c.args.right.now c.in_ok-word.word c.cols.result c.cols-2.result c.rows-height.ensures.words c.requires.right c.in_ok-matrix.ensures.field c.in_ok-matrix.ensures.columns c.in_ok-matrix.ensures.rows c.in_ok-reduced.ensures.field c.in_ok-reduced.ensures.echelon c.in_ok-reduced.ensures.pivots c.deref.ensures.value c.cols.ensures.is (λ t. c.if-holds.ensures.no t.0 t.1 (place_at c.deref.result.now c.cols.result t)) c.deref-2.ensures.value c.cols-2.ensures.is c.in_ok-word.ensures.is in
    (λ _. (c.in_ok-word.word, t.0, t.1), λ _. refl)

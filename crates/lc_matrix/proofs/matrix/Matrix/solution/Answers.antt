use Rattle.lc_matrix.proofs.SolutionLaws.{solution_begun}
use Rattle.lc_matrix.proofs.matrix.Matrix.solution.Goals as goal

pub loop-i-init : goal.loop-i-init
loop-i-init c =
    let s = c.args.self.now in
    solution_begun s.field c.args.n c.args.places.now s.rows c.in_ok-word.word.items (c.in_ok-word.ensures.items_if_clones_equal (λ y h. h))

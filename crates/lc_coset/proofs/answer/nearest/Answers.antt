use Rattle.std.proofs.Common.{List, ℕ, ap₂, ◌∙◌}
use Rattle.lc_algebra.specs.Matrix.{Matrix}
use Rattle.lc_algebra.proofs.ReducedLaws.{reduced_independent}
use Rattle.lc_enumeration.specs.NearWord.{near_answer}
use Rattle.lc_coset.specs.Answer.{near_of}
use Rattle.lc_coset.proofs.AnswerLaws.{answer_holds}
use Rattle.lc_coset.proofs.answer.nearest.Goals as goal

pub returns-clause-holds : goal.returns-clause-holds
returns-clause-holds g c =
    let C = c.args.code.now in
    let given = c.in_ok-given.ensures.given in
    answer_holds C c.args.x.now c.args.budget (near_of c.in_ok-near.near) c.matrix-matrix.ensures.rows (reduced_independent C.field C.columns C.rows c.matrix-matrix.ensures.rows c.matrix-matrix.ensures.reduced) c.requires.word
    (c.in_ok-near.ensures.is ∙ ap₂ (λ (M : Matrix) (y : List ℕ). near_answer M y c.args.budget) given.code given.given)

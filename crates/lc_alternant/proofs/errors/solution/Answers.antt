use Rattle.std.proofs.Common.{◌∙◌, length, refl, sym, subst}
use Rattle.lc_algebra.specs.Matrix.{AreRows}
use Rattle.lc_alternant.specs.Checks.{AreCheckRows}
use Rattle.lc_alternant.proofs.StepLaws.{rows_of_checks}
use Rattle.lc_alternant.proofs.SolutionLaws.{solution_one}
use Rattle.lc_alternant.proofs.errors.solution.Goals as goal

pub from_rows-requires : goal.from_rows-requires
from_rows-requires c =
    let K = c.args.locator.now in
    let xs = c.args.points.now in
    record {
      words = subst (AreRows K (length xs)) (sym c.deref.ensures.value) (rows_of_checks K xs c.args.multipliers.now (length c.args.right.now) c.in_ok-rows.rows.items c.requires.pointed.count c.in_ok-rows.ensures.are);
    }

pub returns-clause-one : goal.returns-clause-one
returns-clause-one c = λ z a q.
    let K = c.args.locator.now in
    let xs = c.args.points.now in
    let ys = c.args.multipliers.now in
    let s = c.args.right.now in
    let m = c.in_ok-system.system in
    solution_one K xs ys s z m (length xs) c.in_ok-solution.solution c.requires.pointed c.requires.few c.in_ok-system.ensures.field c.in_ok-system.ensures.columns refl
    (subst (AreCheckRows K xs ys (length s)) (sym (c.in_ok-system.ensures.rows ∙ c.deref.ensures.value)) c.in_ok-rows.ensures.are)
    c.in_ok-solution.ensures.word c.in_ok-solution.ensures.solves c.in_ok-solution.ensures.exact a q

use Rattle.std.proofs.Common.{◌↔◌, ◌∙◌, IsSome, sym, subst}
use Rattle.lc_algebra.specs.Matrix.{AreIndependentColumns}
use Rattle.lc_checker.proofs.SetLaws.{set_short, set_told}
use Rattle.lc_checker.proofs.sets.is_information_set.Goals as goal

pub returns-then-basis-rows-clause-is : goal.returns-then-basis-rows-clause-is
returns-then-basis-rows-clause-is c = λ d h. set_short d c.args.code.now c.args.basis.now h (λ e. c.if-basis-rows.true (e ∙ sym c.rows.ensures.is))

pub returns-clause-is : goal.returns-clause-is
returns-clause-is c = λ d h. set_told d c.args.code.now c.args.basis.now c.in_ok-generator.generator c.is_some.result h (c.if-basis-rows.false ∙ c.rows.ensures.is) c.is_some.ensures
    (subst (λ xs. IsSome c.in_ok-generator.generator ↔ AreIndependentColumns c.args.code.now.field c.args.code.now.rows xs) (c.deref.ensures.value ∙ c.in_ok-set.ensures.are) c.in_ok-generator.ensures.exact)

use Rattle.std.proofs.Common.{sym, subst}
use Rattle.lc_constructions.specs.Code.{IsCode, CheckedBy}
use Rattle.lc_constructions.proofs.AlternantLaws.{form_of_code}
use Rattle.lc_code.specs.Coordinates.{AreExpandedChecks}
use Rattle.lc_code.proofs.CoordinateLaws.{expanded_code}
use Rattle.lc_code.proofs.alternant.alternant_code.Goals as goal

pub returns-clause-code : goal.returns-clause-code
returns-clause-code c =
    let f = c.args.field.now in
    let form = c.args.form.now in
    let rows = c.deref.result.now in
    let code = c.in_ok-from_checks.field-0 in
    expanded_code f form c.enough_checks.result rows code c.requires.form c.enough_checks.ensures.enough (subst (AreExpandedChecks f form c.enough_checks.result) (sym c.deref.ensures.value) c.in_ok-checks.ensures.checks) (subst (λ n. IsCode f n (CheckedBy f rows) code) c.length_of-n.ensures.is c.in_ok-from_checks.ensures.code)

pub returns-clause-form : goal.returns-clause-form
returns-clause-form c = form_of_code c.args.field.now c.args.form.now c.in_ok-from_checks.field-0 c.requires.form (returns-clause-code c)

use Rattle.std.proofs.Common.{refl, sym, subst}
use Rattle.lc_constructions.specs.Code.{IsCode}
use Rattle.lc_constructions.specs.Cyclic.{IsBchWord}
use Rattle.lc_constructions.specs.Alternant.{IsFormOf}
use Rattle.lc_constructions.proofs.FormLaws.{bch_form_of}
use Rattle.lc_cyclic.proofs.BchLaws.{root_in_locator, same_locator, kept_locator, kept_form}
use Rattle.lc_cyclic.proofs.bch_codes.formed_bch.Goals as goal

pub returns-clause-code : goal.returns-clause-code
returns-clause-code c =
    let f = c.args.field.now in
    let n = c.args.n in
    let form = c.in_ok-form.form in
    subst (λ L. IsCode f n (IsBchWord f L n c.args.b c.args.d) c.in_ok-code.code) (same_locator c.args.locator n c.args.b c.args.d form form c.in_ok-form.ensures.is refl) c.in_ok-code.ensures.code

pub returns-clause-locator : goal.returns-clause-locator
returns-clause-locator c = kept_locator c.args.field.now c.args.locator c.args.n c.args.b c.args.d c.in_ok-form.form c.in_ok-form.form c.in_ok-form.ensures.is refl c.requires.locator

pub returns-clause-form : goal.returns-clause-form
returns-clause-form c = kept_form c.args.locator c.args.n c.args.b c.args.d c.in_ok-form.form c.in_ok-form.form c.in_ok-form.ensures.is refl

pub returns-clause-formed : goal.returns-clause-formed
returns-clause-formed c =
    let f = c.args.field.now in
    let K = c.args.locator in
    subst (IsFormOf c.in_ok-code.code) (sym c.in_ok-form.ensures.is)
    (bch_form_of f K c.args.n c.args.b c.args.d c.in_ok-code.code c.requires.symbol c.requires.locator.subfield c.requires.length (root_in_locator f K c.args.n c.requires.locator) c.in_ok-code.ensures.code)

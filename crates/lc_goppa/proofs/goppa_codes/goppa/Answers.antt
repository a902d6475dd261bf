use Rattle.std.proofs.Common.{sym, subst}
use Rattle.lc_algebra.specs.Polynomial.{trimmed}
use Rattle.lc_constructions.specs.Alternant.{IsForm}
use Rattle.lc_goppa.proofs.GoppaLaws.{goppa_code}
use Rattle.lc_goppa.proofs.goppa_codes.goppa.Goals as goal

pub formed-requires : goal.formed-requires
formed-requires c = record {
  form = subst (IsForm c.args.field.now) (sym c.in_ok-form.ensures.is) c.in_ok-check_goppa.ensures.input.form;
}

pub returns-clause-code : goal.returns-clause-code
returns-clause-code c =
    goppa_code c.args.field.now c.args.locator.now (trimmed c.args.list.now) c.args.points.now c.in_ok-form.form c.in_ok-formed.field-0.code c.in_ok-form.ensures.is c.in_ok-formed.ensures.code

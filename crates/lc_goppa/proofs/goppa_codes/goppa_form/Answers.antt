use Rattle.std.proofs.Common.{refl}
use Rattle.lc_algebra.specs.Polynomial.{trimmed}
use Rattle.lc_goppa.proofs.GoppaLaws.{goppa_form_told}
use Rattle.lc_goppa.proofs.goppa_codes.goppa_form.Goals as goal

pub returns : goal.returns
returns c = record {
  is = goppa_form_told c.args.locator.now (trimmed c.args.list.now) c.args.points.now c.in_ok-multipliers.multipliers.items c.deref.result.now _ c.coefficient_count-degree.result c.in_ok-form_of.field-0
      c.in_ok-form_of.ensures.is
      c.deref.ensures.value
      c.in_ok-multipliers.ensures.are
      c.coefficient_count-degree.ensures.is
      refl;
}

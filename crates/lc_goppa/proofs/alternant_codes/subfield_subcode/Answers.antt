use Rattle.std.proofs.Common.{sym, subst}
use Rattle.lc_constructions.specs.Alternant.{IsForm}
use Rattle.lc_goppa.proofs.alternant_codes.subfield_subcode.Goals as goal

pub alternant_code-requires : goal.alternant_code-requires
alternant_code-requires c = record {
  form = subst (IsForm c.args.field.now) (sym c.in_ok-parts.ensures.is) (c.in_ok-check_form.ensures.form c.args.r);
}

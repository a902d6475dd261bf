use Rattle.std.proofs.Common.{sym, subst}
use Rattle.lc_constructions.specs.Alternant.{IsForm}
use Rattle.lc_goppa.proofs.alternant_codes.alternant.Goals as goal

pub formed-requires : goal.formed-requires
formed-requires c = record {
  form = subst (IsForm c.args.field.now) (sym c.in_ok-form.ensures.is) (c.in_ok-check_alternant.ensures.form c.args.r);
}

use Rattle.std.proofs.Common.{◌∙◌}
use Rattle.lc_cyclic.proofs.BchLaws.{form_told}
use Rattle.lc_cyclic.proofs.forms.form_of.Goals as goal

pub returns : goal.returns
returns c = record {
  is = form_told c.args.locator c.args.n c.args.b c.args.d c.root_of_unity-root.result c.form_from.result
      c.form_from.ensures.locator
      c.root_of_unity-root.ensures.is
      (c.form_from.ensures.points ∙ c.in_ok-points.ensures.are)
      (c.form_from.ensures.multipliers ∙ c.in_ok-multipliers.ensures.are)
      c.form_from.ensures.r;
}

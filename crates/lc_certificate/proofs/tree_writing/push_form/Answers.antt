use Rattle.std.proofs.Common.{◌++◌, ap, sym, ◌∙◌}
use Rattle.lc_certificate.specs.TreePieces.{form_head, form_tail}
use Rattle.lc_certificate.proofs.TreeTexts.{form_pieces, two}
use Rattle.lc_certificate.proofs.tree_writing.push_form.Goals as goal

pub returns : goal.returns
returns c =
    two c.args.text.now.items _ _ (form_head c.args.locator c.args.multipliers.now) (form_tail c.args.points.now c.args.r) c.in_ok-push_form_head.ensures c.in_ok-push_form_tail.ensures ∙ ap (λ p. c.args.text.now.items ++ p) (sym (form_pieces c.args.locator c.args.points.now c.args.multipliers.now c.args.r))

use Rattle.std.proofs.Common.{codes, decimal}
use Rattle.lc_formats.specs.Text.{numbers_text}
use Rattle.lc_certificate.specs.TreePieces.{form_head}
use Rattle.lc_certificate.proofs.TreeTexts.{four}
use Rattle.lc_certificate.proofs.tree_writing.push_form_head.Goals as goal

pub returns : goal.returns
unfolding form_head
returns c = four c.args.text.now.items _ _ _ _ (codes "{\"kind\":\"alternant\",\"locator\":") (decimal c.args.locator) (codes ",\"multipliers\":") (numbers_text c.args.multipliers.now) c.in_ok-push_text.ensures.is c.in_ok-push_number.ensures.is c.in_ok-push_text-2.ensures.is c.in_ok-push_symbols.ensures.is

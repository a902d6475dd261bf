use Rattle.std.proofs.Common.{codes, decimal}
use Rattle.lc_formats.specs.Text.{numbers_text}
use Rattle.lc_certificate.specs.TreePieces.{form_tail}
use Rattle.lc_formats.proofs.ListTexts.{five}
use Rattle.lc_certificate.proofs.tree_writing.push_form_tail.Goals as goal

pub returns : goal.returns
unfolding form_tail
returns c = five c.args.text.now.items _ _ _ _ _ (codes ",\"points\":") (numbers_text c.args.points.now) (codes ",\"r\":") (decimal c.args.r) (codes "}") c.in_ok-push_text.ensures.is c.in_ok-push_symbols.ensures.is c.in_ok-push_text-2.ensures.is c.in_ok-push_number.ensures.is c.in_ok-push_text-3.ensures.is

use Rattle.std.proofs.Common.{codes, decimal}
use Rattle.lc_certificate.specs.TreePieces.{outer_head}
use Rattle.lc_certificate.proofs.TreeTexts.{three}
use Rattle.lc_certificate.proofs.tree_writing.push_outer_head.Goals as goal

pub returns : goal.returns
unfolding outer_head
returns c = three c.args.text.now.items _ _ _ (codes ",\"kind\":\"concat\",\"large\":") (decimal c.args.large) (codes ",\"outer\":") c.in_ok-push_text.ensures.is c.in_ok-push_number.ensures.is c.in_ok-push_text-2.ensures.is

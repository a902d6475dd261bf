use Rattle.std.proofs.Common.{◌++◌, ap, sym, ◌∙◌}
use Rattle.lc_certificate.specs.Seen.{certificate_of}
use Rattle.lc_certificate.specs.TreePieces.{search_head, search_tail}
use Rattle.lc_certificate.proofs.TreeTexts.{search_pieces, two}
use Rattle.lc_certificate.proofs.tree_writing.push_search.Goals as goal

pub returns : goal.returns
returns c =
    let cert = certificate_of c.args.cert.now in
    two c.args.text.now.items _ _ (search_head cert) (search_tail cert) c.in_ok-push_search_head.ensures c.in_ok-push_search_tail.ensures ∙ ap (λ p. c.args.text.now.items ++ p) (sym (search_pieces cert))

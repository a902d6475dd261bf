use Rattle.std.proofs.Common.{◌++◌, codes, decimal, ap, ◌∙◌}
use Rattle.lc_formats.specs.Text.{lists_text}
use Rattle.lc_certificate.specs.Seen.{proof_of, certificate_of}
use Rattle.lc_certificate.specs.Pieces.{front_text}
use Rattle.lc_certificate.specs.TreePieces.{search_head}
use Rattle.lc_formats.proofs.ListTexts.{five}
use Rattle.lc_certificate.proofs.tree_writing.push_search_head.Goals as goal

pub returns : goal.returns
unfolding certificate_of search_head
returns c =
    let cert = c.args.cert.now in
    five c.args.text.now.items _ _ _ _ _ (front_text (proof_of cert.basis_of)) (codes ",\"distance\":") (decimal cert.distance) (codes ",\"kind\":\"search\",\"rows\":") (lists_text cert.rows.items) c.in_ok-push_front.ensures c.in_ok-push_text.ensures.is c.in_ok-push_number.ensures.is c.in_ok-push_text-2.ensures.is (c.in_ok-push_rows.ensures ∙ ap (λ rows. c.push_text-2.new.text.items ++ lists_text rows) c.deref.ensures.value)

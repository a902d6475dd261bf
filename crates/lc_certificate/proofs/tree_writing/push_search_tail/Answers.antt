use Rattle.std.proofs.Common.{◌++◌, codes, ap, ◌∙◌}
use Rattle.lc_formats.specs.Text.{numbers_text}
use Rattle.lc_certificate.specs.Seen.{proof_of, certificate_of}
use Rattle.lc_certificate.specs.Pieces.{sets_text}
use Rattle.lc_certificate.specs.TreePieces.{search_tail}
use Rattle.lc_certificate.proofs.TreeTexts.{four}
use Rattle.lc_certificate.proofs.tree_writing.push_search_tail.Goals as goal

pub returns : goal.returns
unfolding certificate_of search_tail
returns c =
    let cert = c.args.cert.now in
    four c.args.text.now.items _ _ _ _ (sets_text (proof_of cert.basis_of)) (codes ",\"word\":") (numbers_text cert.word) (codes "}") c.in_ok-push_sets.ensures c.in_ok-push_text.ensures.is (c.in_ok-push_symbols.ensures.is ∙ ap (λ w. c.push_text.new.text.items ++ numbers_text w) c.symbols.ensures.are) c.in_ok-push_text-2.ensures.is

use Rattle.std.proofs.Common.{◌++◌, codes, ap, ◌∙◌}
use Rattle.lc_formats.specs.Text.{numbers_text, lists_text}
use Rattle.lc_certificate.specs.Seen.{proof_of, certificate_of}
use Rattle.lc_certificate.specs.Pieces.{sets_text, tail_text}
use Rattle.lc_formats.proofs.ListTexts.{six}
use Rattle.lc_certificate.proofs.writing.push_tail.Goals as goal

pub returns : goal.returns
unfolding certificate_of tail_text
returns c =
    let cert = c.args.cert.now in
    six c.args.text.now.items _ _ _ _ _ _ (codes ",\"rows\":") (lists_text cert.rows.items) (sets_text (proof_of cert.basis_of)) (codes ",\"version\":1,\"word\":") (numbers_text cert.word) (codes "}") c.in_ok-push_text.ensures.is (c.in_ok-push_rows.ensures ∙ ap (λ rows. c.push_text.new.text.items ++ lists_text rows) c.deref.ensures.value) c.in_ok-push_sets.ensures c.in_ok-push_text-2.ensures.is (c.in_ok-push_symbols.ensures.is ∙ ap (λ w. c.push_text-2.new.text.items ++ numbers_text w) c.symbols.ensures.are) c.in_ok-push_text-3.ensures.is

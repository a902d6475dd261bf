use Rattle.std.proofs.Common.{◌++◌, codes, decimal, ap, ◌∙◌}
use Rattle.lc_algebra.specs.Field.{size}
use Rattle.lc_certificate.specs.Seen.{proof_of, certificate_of}
use Rattle.lc_certificate.specs.Pieces.{front_text, head_text}
use Rattle.lc_formats.proofs.ListTexts.{five}
use Rattle.lc_certificate.proofs.writing.push_head.Goals as goal

pub returns : goal.returns
unfolding certificate_of head_text
returns c =
    let cert = c.args.cert.now in
    five c.args.text.now.items _ _ _ _ _ (front_text (proof_of cert.basis_of)) (codes ",\"distance\":") (decimal cert.distance) (codes ",\"field\":") (decimal (size cert.field)) c.in_ok-push_front.ensures c.in_ok-push_text.ensures.is c.in_ok-push_number.ensures.is c.in_ok-push_text-2.ensures.is (c.in_ok-push_number-2.ensures.is ∙ ap (λ n. c.push_text-2.new.text.items ++ decimal n) c.field_size.ensures.is)

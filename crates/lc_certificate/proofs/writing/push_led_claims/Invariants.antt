use Rattle.std.proofs.Common.{◌≡◌, ◌∷◌, ◌++◌, take, flat_map}
use Rattle.serde_json.specs.Written.{compact_text}
use Rattle.lc_formats.specs.CertificateText.{claim_json}
use Rattle.lc_certificate.specs.Seen.{claim_of}
use Rattle.lc_certificate.proofs.writing.push_led_claims.Given as goal

abbrev pub invariant-loop-claim : goal.invariant-loop-claim
invariant-loop-claim l = l.text.items ≡ l.initial.text.items ++ flat_map (λ claim. 44 ∷ compact_text (claim_json (claim_of claim))) (take l.claim-index l.claims)

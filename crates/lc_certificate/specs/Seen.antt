-- The certificate that a `Certificate` stands for.
--   claim_of s               a set, as the definitions see it
--   proof_of p               the way of its proof
--   certificate_of c         the certificate
use Rattle.std.specs.Prelude.{map}
use Rattle.lc_certificate.specs.declared.certificate.Certificate.{Certificate}
use Rattle.lc_certificate.specs.declared.certificate.SetClaim.{SetClaim}
use Rattle.lc_certificate.specs.declared.certificate.Proof.{Proof}
use Rattle.lc_certificate.specs.declared.certificate.Proof.TheVariants.{Scan, Levels}
use Rattle.lc_formats.specs.Certificate as formats

unfoldable pub claim_of : SetClaim → formats.SetClaim
claim_of s = record { basis = s.basis.items; fresh = s.fresh.items; level = s.level }

unfoldable pub proof_of : Proof → formats.Proof
proof_of Scan = formats.scan
proof_of (Levels sets) = formats.levels (map claim_of sets.items)

unfoldable pub certificate_of : Certificate → formats.Certificate
certificate_of c = record { field = c.field; rows = c.rows.items; word = c.word; distance = c.distance; proof = proof_of c.basis_of }

use Rattle.std.proofs.Common.{rules, append_assoc}
use Rattle.lc_certificate.specs.Seen.{claim_of}
use Rattle.lc_certificate.proofs.TextLaws.{claim_pieces}
use Rattle.lc_certificate.proofs.writing.push_claim.Goals as goal

pub returns : goal.returns
unfolding claim_of
returns c = rw (claim_pieces (claim_of c.args.claim.now)) (search (rules, append_assoc))

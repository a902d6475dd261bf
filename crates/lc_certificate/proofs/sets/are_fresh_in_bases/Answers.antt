use Rattle.std.proofs.Common.{sym, arith}
use Rattle.lc_certificate.specs.Seen.{claim_of}
use Rattle.lc_certificate.proofs.SetLaws.{parts_whole}
use Rattle.lc_certificate.proofs.sets.are_fresh_in_bases.Goals as goal

pub returns : goal.returns
returns c = record { is = sym (parts_whole claim_of c.args.claims.now c.loop-claim.claim-index (omega (arith, c.loop-claim-test.false)) c.loop-claim.invariant) }

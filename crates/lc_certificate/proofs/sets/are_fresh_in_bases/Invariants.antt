use Rattle.std.proofs.Common.{◌≡◌, take, true}
use Rattle.std.specs.List.{list_all}
use Rattle.lc_formats.specs.Check.{fresh_in_basis}
use Rattle.lc_certificate.specs.Seen.{claim_of}
use Rattle.lc_certificate.proofs.sets.are_fresh_in_bases.Given as goal

abbrev pub invariant-loop-claim : goal.invariant-loop-claim
invariant-loop-claim l = list_all (λ claim. fresh_in_basis (claim_of claim)) (take l.claim-index l.claims) ≡ true

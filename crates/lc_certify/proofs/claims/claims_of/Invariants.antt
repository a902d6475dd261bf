use Rattle.std.proofs.Common.{◌≡◌, map}
use Rattle.lc_algebra.specs.Span.{below}
use Rattle.lc_certificate.specs.Seen.{claim_of}
use Rattle.lc_certify.specs.Claims.{claim_at}
use Rattle.lc_certify.proofs.claims.claims_of.Given as goal

abbrev pub invariant-loop-j : goal.invariant-loop-j
invariant-loop-j l = map claim_of l.claims.items ≡ map (claim_at l.search.code l.search.progress.blocks) (below l.j)

-- Definitions that a proof opens together, under one name.
--   seen             the verdict and the reason that those of the checker stand for
--   claims           the claim that a `Claim` stands for, and how many claims it has
--   tree             the certificate by construction that a `Built` stands for, and verdicts and reasons
use Rattle.std.specs.Prelude.{⊤}
use Rattle.lc_formats.specs.Claim.{claim_total}
use Rattle.lc_certificate.specs.Trees.{claim_of, built_of}
use Rattle.lc_checker.specs.Verdict.{verdict_of, reason_of}

unfoldable pub seen : ⊤
unfolding verdict_of reason_of
seen = tt

unfoldable pub claims : ⊤
unfolding claim_total claim_of
claims = tt

unfoldable pub tree : ⊤
unfolding built_of verdict_of reason_of
tree = tt

use Rattle.std.proofs.Common.{◌+◌, ◌*◌}
use Rattle.lc_formats.specs.Claim.{claim_total}
use Rattle.lc_certificate.specs.Trees.{claim_of}
use Rattle.lc_trees.proofs.claims.+made.Given as goal

abbrev pub decreases-made : goal.decreases-made
decreases-made l = 2 * claim_total (claim_of l.claim.now)

abbrev pub decreases-pair : goal.decreases-pair
decreases-pair l = 2 * (claim_total (claim_of l.left.now) + claim_total (claim_of l.right.now)) + 1

abbrev pub decreases-concat : goal.decreases-concat
decreases-concat l = 2 * (claim_total (claim_of l.outer.now) + claim_total (claim_of l.inner.now)) + 1

abbrev pub decreases-subcode : goal.decreases-subcode
decreases-subcode l = 2 * claim_total (claim_of l.of.now) + 1

abbrev pub decreases-at_places : goal.decreases-at_places
decreases-at_places l = 2 * claim_total (claim_of l.of.now) + 1

abbrev pub decreases-extend : goal.decreases-extend
decreases-extend l = 2 * claim_total (claim_of l.of.now) + 1

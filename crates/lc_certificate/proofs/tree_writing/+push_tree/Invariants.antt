use Rattle.std.proofs.Common.{◌+◌, ◌*◌}
use Rattle.lc_formats.specs.Claim.{claim_total}
use Rattle.lc_certificate.specs.Trees.{claim_of}
use Rattle.lc_certificate.proofs.tree_writing.+push_tree.Given as goal

abbrev pub decreases-push_tree : goal.decreases-push_tree
decreases-push_tree l = 2 * claim_total (claim_of l.claim.now)

abbrev pub decreases-push_pair : goal.decreases-push_pair
decreases-push_pair l = 2 * (claim_total (claim_of l.left.now) + claim_total (claim_of l.right.now)) + 1

abbrev pub decreases-push_concat : goal.decreases-push_concat
decreases-push_concat l = 2 * (claim_total (claim_of l.outer.now) + claim_total (claim_of l.inner.now)) + 1

abbrev pub decreases-push_subcode : goal.decreases-push_subcode
decreases-push_subcode l = 2 * claim_total (claim_of l.of.now) + 1

abbrev pub decreases-push_places : goal.decreases-push_places
decreases-push_places l = 2 * claim_total (claim_of l.of.now) + 1

abbrev pub decreases-push_extend : goal.decreases-push_extend
decreases-push_extend l = 2 * claim_total (claim_of l.of.now) + 1

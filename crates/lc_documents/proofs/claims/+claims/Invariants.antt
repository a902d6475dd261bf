use Rattle.std.proofs.Common.{◌+◌, ◌*◌}
use Rattle.lc_documents.proofs.claims.+claims.Given as goal

abbrev pub decreases-claim_from : goal.decreases-claim_from
decreases-claim_from l = 3 * l.most

abbrev pub decreases-part_of : goal.decreases-part_of
decreases-part_of l = 3 * l.most + 1

abbrev pub decreases-pair_at : goal.decreases-pair_at
decreases-pair_at l = 3 * l.most + 2

abbrev pub decreases-concat_at : goal.decreases-concat_at
decreases-concat_at l = 3 * l.most + 2

abbrev pub decreases-subcode_at : goal.decreases-subcode_at
decreases-subcode_at l = 3 * l.most + 2

abbrev pub decreases-places_at : goal.decreases-places_at
decreases-places_at l = 3 * l.most + 2

abbrev pub decreases-extend_at : goal.decreases-extend_at
decreases-extend_at l = 3 * l.most + 2

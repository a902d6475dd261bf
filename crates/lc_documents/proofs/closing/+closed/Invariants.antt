use Rattle.std.proofs.Common.{◌+◌, ◌*◌}
use Rattle.lc_documents.proofs.closing.+closed.Given as goal

abbrev pub decreases-are_closed : goal.decreases-are_closed
decreases-are_closed l = 2 * l.most

abbrev pub decreases-are_closed_at : goal.decreases-are_closed_at
decreases-are_closed_at l = 2 * l.most + 1

use Rattle.std.proofs.Common.{◌+◌, ◌-◌, ◌*◌, length}
use Rattle.lc_crew.proofs.halves.+halves.Given as goal

abbrev pub decreases-run_all : goal.decreases-run_all
decreases-run_all g l = 4 * length l.workers.now

abbrev pub decreases-run_both : goal.decreases-run_both
decreases-run_both g l = 4 * (length l.front.now + length l.back.now) - 1

abbrev pub decreases-run_both-join_mut+arg2 : goal.decreases-run_both-join_mut+arg2
decreases-run_both-join_mut+arg2 g l = 4 * length l.front.now + 1

abbrev pub decreases-run_both-join_mut+arg3 : goal.decreases-run_both-join_mut+arg3
decreases-run_both-join_mut+arg3 g l = 4 * length l.back.now + 1

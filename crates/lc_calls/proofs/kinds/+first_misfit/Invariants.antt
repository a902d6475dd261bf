use Rattle.std.proofs.Common.{length}
use Rattle.lc_calls.proofs.kinds.+first_misfit.Given as goal

abbrev pub decreases-first_misfit : goal.decreases-first_misfit
decreases-first_misfit l = length l.kinds.now

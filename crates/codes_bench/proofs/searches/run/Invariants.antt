use Rattle.std.proofs.Common.{◌-◌}
use Rattle.codes_bench.proofs.searches.run.Given as goal

abbrev pub decreases-loop-answer : goal.decreases-loop-answer
decreases-loop-answer g l = l.search.budget - l.search.progress.blocks

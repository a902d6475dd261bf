use Rattle.std.proofs.Common.{ℕ, ◌<◌, ◌≢◌, slice_index}
use Rattle.lc_syndrome.specs.Growth.{unknown}
use Rattle.lc_syndrome.proofs.steps.Steps.is_whole.Given as goal

abbrev pub invariant-loop-symbol : goal.invariant-loop-symbol
invariant-loop-symbol l = (s : ℕ) → s < l.symbol-index → slice_index l.self.symbols.items s ≢ unknown

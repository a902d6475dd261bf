use Rattle.std.proofs.Common.{◌≡◌, ◌<◌, ℕ, length, slice_index}
use Rattle.lc_checker.specs.Blocks.{block}
use Rattle.lc_checker.proofs.blocks.blocks_of.Given as goal

abbrev pub invariant-loop-i : goal.invariant-loop-i
invariant-loop-i g l = record {
  many : length l.bits ≡ g.row.N;
  each : (t : ℕ) → t < l.i → slice_index l.bits t ≡ block l.word t;
}

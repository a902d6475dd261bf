use Rattle.std.proofs.Common.{◌≡◌, ◌<◌, ℕ, [], length, slice_index_or}
use Rattle.lc_checker.specs.Walk.{row_of}
use Rattle.lc_checker.specs.Blocks.{AreBlocks}
use Rattle.lc_checker.proofs.blocks.rows_in_blocks.Given as goal

abbrev pub invariant-loop-i : goal.invariant-loop-i
invariant-loop-i g l = record {
  many : length l.bits.items ≡ l.i;
  entry : (t : ℕ) → t < l.i → AreBlocks g.row.N (slice_index_or l.bits.items t []) (row_of l.rows.rows t);
}

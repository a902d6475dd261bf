use Rattle.std.proofs.Common.{◌≡◌, ℕ, ◌+◌, ◌-◌, ◌/◌, ◌%◌, ◌<◌, [], length, slice_index_or}
use Rattle.lc_algebra.specs.Field.{size}
use Rattle.lc_algebra.specs.Word.{scale}
use Rattle.lc_checker.specs.Walk.{row_of}
use Rattle.lc_checker.proofs.sums.multiples_of.Given as goal

abbrev pub invariant-loop-t : goal.invariant-loop-t
invariant-loop-t l = record {
  many : length l.multiples.items ≡ l.t;
  entry : (i : ℕ) → i < l.t → slice_index_or l.multiples.items i [] ≡ scale l.rows.field (i % (size l.rows.field - 1) + 1) (row_of l.rows.rows (i / (size l.rows.field - 1)));
}

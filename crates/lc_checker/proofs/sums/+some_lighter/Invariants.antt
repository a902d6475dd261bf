use Rattle.std.proofs.Common.{◌≡◌, ℕ, ◌+◌, ◌-◌, ◌<◌, ◌≤◌, false, [], slice_index_or}
use Rattle.lc_algebra.specs.Word.{word_sum, scale}
use Rattle.lc_formats.specs.Certificate.{is_lighter}
use Rattle.lc_checker.specs.Walk.{AreSums, row_of}
use Rattle.lc_checker.specs.Heavy.{AreHeavy}
use Rattle.lc_checker.proofs.sums.+some_lighter.Given as goal

abbrev pub decreases-some_lighter : goal.decreases-some_lighter
decreases-some_lighter l = l.width

abbrev pub invariant-loop-place : goal.invariant-loop-place
invariant-loop-place l = record {
  sums : AreSums l.multiples.rows.now l.sums;
  kept : (t : ℕ) → t ≤ l.depth → slice_index_or l.sums t [] ≡ slice_index_or l.initial.sums t [];
  heavy : AreHeavy l.distance l.multiples.rows.now (slice_index_or l.initial.sums l.depth []) l.place l.width → AreHeavy l.distance l.multiples.rows.now (slice_index_or l.initial.sums l.depth []) l.initial.from l.width;
}

abbrev pub invariant-loop-c : goal.invariant-loop-c
invariant-loop-c l = record {
  sums : AreSums l.multiples.rows.now l.sums;
  kept : (t : ℕ) → t ≤ l.depth → slice_index_or l.sums t [] ≡ slice_index_or l.initial.sums t [];
  done : (c : ℕ) → 0 < c → c < l.c → (is_lighter l.distance (word_sum l.multiples.rows.now.field (slice_index_or l.initial.sums l.depth []) (scale l.multiples.rows.now.field c (row_of l.multiples.rows.now.rows l.place))) ≡ false) × AreHeavy l.distance l.multiples.rows.now (word_sum l.multiples.rows.now.field (slice_index_or l.initial.sums l.depth []) (scale l.multiples.rows.now.field c (row_of l.multiples.rows.now.rows l.place))) (l.place + 1) (l.width - 1);
}

use Rattle.std.proofs.Common.{◌≡◌, ℕ, ◌+◌, ◌-◌, ◌<◌, ◌≤◌, [], slice_index_or}
use Rattle.lc_algebra.specs.Word.{word_sum, scale}
use Rattle.lc_checker.specs.Walk.{AreSums, row_of}
use Rattle.lc_checker.specs.Heavy.{AreAllHeavy}
use Rattle.lc_checker.proofs.heads.+some_head.Given as goal

abbrev pub decreases-some_head : goal.decreases-some_head
decreases-some_head g l = l.tails.now.split - l.from

abbrev pub invariant-loop-place : goal.invariant-loop-place
invariant-loop-place g l = record {
  sums : AreSums l.multiples.rows.now l.sums;
  kept : (t : ℕ) → t ≤ l.depth → slice_index_or l.sums t [] ≡ slice_index_or l.initial.sums t [];
  heavy : AreAllHeavy l.distance l.multiples.rows.now (slice_index_or l.initial.sums l.depth []) l.place → AreAllHeavy l.distance l.multiples.rows.now (slice_index_or l.initial.sums l.depth []) l.initial.from;
}

abbrev pub invariant-loop-c : goal.invariant-loop-c
invariant-loop-c g l = record {
  sums : AreSums l.multiples.rows.now l.sums;
  kept : (t : ℕ) → t ≤ l.depth → slice_index_or l.sums t [] ≡ slice_index_or l.initial.sums t [];
  done : (c : ℕ) → 0 < c → c < l.c → AreAllHeavy l.distance l.multiples.rows.now (word_sum l.multiples.rows.now.field (slice_index_or l.initial.sums l.depth []) (scale l.multiples.rows.now.field c (row_of l.multiples.rows.now.rows l.place))) (l.place + 1);
}

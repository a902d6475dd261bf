use Rattle.std.proofs.Common.{◌≡◌, ℕ, ◌+◌, ◌-◌, ◌≤◌, [], find, drop, length, slice_index, slice_index_or}
use Rattle.lc_formats.specs.Certificate.{is_lighter}
use Rattle.lc_checker.specs.Walk.{AreSums, words_along, multiples_from}
use Rattle.lc_checker.proofs.walk.+lighter_along.Given as goal

abbrev pub decreases-lighter_along : goal.decreases-lighter_along
decreases-lighter_along l = length l.support.now - l.depth

abbrev pub invariant-loop-c : goal.invariant-loop-c
invariant-loop-c l = record {
  sums : AreSums l.rows l.sums;
  kept : (t : ℕ) → t ≤ l.depth → slice_index_or l.sums t [] ≡ slice_index_or l.initial.sums t [];
  rest : find (is_lighter l.distance) (words_along l.rows.field l.rows.rows (slice_index_or l.initial.sums l.depth []) (drop l.depth l.support)) ≡ find (is_lighter l.distance) (multiples_from l.rows.field l.rows.rows (slice_index_or l.initial.sums l.depth []) (slice_index l.support l.depth) (drop (l.depth + 1) l.support) l.c);
}

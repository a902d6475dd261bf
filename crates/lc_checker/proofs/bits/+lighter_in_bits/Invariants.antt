use Rattle.std.proofs.Common.{◌≡◌, ◌-◌, find, take, length}
use Rattle.lc_formats.specs.Certificate.{is_lighter}
use Rattle.lc_checker.specs.Walk.{AreSums, words_over}
use Rattle.lc_checker.proofs.bits.+lighter_in_bits.Given as goal

abbrev pub decreases-lighter_in_bits : goal.decreases-lighter_in_bits
decreases-lighter_in_bits l = l.walk.now.width - l.depth

abbrev pub invariant-loop-place : goal.invariant-loop-place
invariant-loop-place l = record {
  sums : AreSums l.walk.rows.now l.sums;
  long : length l.support ≡ length l.initial.support;
  front : take l.depth l.support ≡ take l.depth l.initial.support;
  rest : find (is_lighter l.walk.distance) (words_over l.walk.rows.now.field l.walk.rows.now.columns l.walk.rows.now.rows (take l.depth l.initial.support) l.from (length l.walk.rows.now.rows - l.from) (l.walk.width - l.depth)) ≡ find (is_lighter l.walk.distance) (words_over l.walk.rows.now.field l.walk.rows.now.columns l.walk.rows.now.rows (take l.depth l.initial.support) l.place (length l.walk.rows.now.rows - l.place) (l.walk.width - l.depth));
}

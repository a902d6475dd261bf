use Rattle.std.proofs.Common.{◌≡◌, ◌+◌, ◌-◌, find, length}
use Rattle.lc_formats.specs.Certificate.{is_lighter}
use Rattle.lc_checker.specs.Walk.{AreSums, words_from}
use Rattle.lc_checker.proofs.walk.lighter_through.Given as goal

abbrev pub invariant-loop-width : goal.invariant-loop-width
invariant-loop-width l = record {
  sums : AreSums l.rows l.sums;
  long : length l.support ≡ l.level;
  rest : find (is_lighter l.distance) (words_from l.rows.field l.rows.columns l.rows.rows 1 l.level) ≡ find (is_lighter l.distance) (words_from l.rows.field l.rows.columns l.rows.rows l.width (l.level + 1 - l.width));
}

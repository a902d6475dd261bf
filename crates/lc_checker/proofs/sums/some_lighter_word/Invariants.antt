use Rattle.std.proofs.Common.{◌≡◌, ℕ, ◌+◌, ◌-◌, ◌<◌, false}
use Rattle.lc_formats.specs.Certificate.{is_lighter}
use Rattle.lc_checker.specs.Walk.{AreSums}
use Rattle.lc_checker.specs.Heavy.{AreHeavy}
use Rattle.lc_checker.proofs.HeavyLaws.{first_sum}
use Rattle.lc_checker.proofs.sums.some_lighter_word.Given as goal

abbrev pub invariant-loop-place : goal.invariant-loop-place
invariant-loop-place l = record {
  sums : AreSums l.multiples.rows.now l.sums;
  done : (p : ℕ) → p < l.place → (is_lighter l.distance (first_sum l.multiples.rows.now p) ≡ false) × AreHeavy l.distance l.multiples.rows.now (first_sum l.multiples.rows.now p) (p + 1) (l.level - 1);
}

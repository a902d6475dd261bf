use Rattle.std.proofs.Common.{ℕ, ◌+◌, ◌<◌}
use Rattle.lc_checker.specs.Walk.{AreSums}
use Rattle.lc_checker.specs.Heavy.{AreAllHeavy}
use Rattle.lc_checker.proofs.HeavyLaws.{first_sum}
use Rattle.lc_checker.proofs.heads.some_lead.Given as goal

abbrev pub invariant-loop-place : goal.invariant-loop-place
invariant-loop-place g l = record {
  sums : AreSums l.multiples.rows.now l.sums;
  done : (p : ℕ) → p < l.place → AreAllHeavy l.distance l.multiples.rows.now (first_sum l.multiples.rows.now p) (p + 1);
}

use Rattle.std.proofs.Common.{◌≡◌, ◌≤◌, ◌<◌, ℕ, false}
use Rattle.lc_enumeration.specs.NearWord.{is_near_done}
use Rattle.lc_coset.specs.Phase.{IsStateAt}
use Rattle.lc_coset_laws.proofs.PlaceLaws.{before_of}
use Rattle.lc_coset.proofs.answer.search.Given as goal

abbrev pub invariant-loop-number : goal.invariant-loop-number
invariant-loop-number g l = record {
  begins : l.blocks ≡ before_of l.frame.sets l.number;
  within : l.blocks ≤ l.last;
  state : IsStateAt l.frame l.blocks l.state;
  unmet : (r : ℕ) → r < l.number → is_near_done l.frame.sets l.frame.word (before_of l.frame.sets r) ≡ false;
}

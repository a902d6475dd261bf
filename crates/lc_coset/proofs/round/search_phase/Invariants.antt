use Rattle.std.proofs.Common.{◌+◌, ◌-◌, ◌≤◌}
use Rattle.lc_coset.specs.Phase.{IsStateAt}
use Rattle.lc_coset.proofs.round.search_phase.Given as goal

abbrev pub invariant-loop-done : goal.invariant-loop-done
invariant-loop-done g l = record {
  within : l.done ≤ l.phase.blocks;
  state : IsStateAt l.frame (l.phase.first + l.done) l.state;
}

abbrev pub decreases-loop-done : goal.decreases-loop-done
decreases-loop-done g l = l.phase.blocks - l.done

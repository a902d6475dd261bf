use Rattle.std.proofs.Common.{◌≡◌, ◌+◌, ◌-◌, ◌*◌, ◌<◌, length}
use Rattle.lc_distances.specs.Halves.{symbols_apart}
use Rattle.lc_distances.proofs.LeastLaws.{IsSearched}
use Rattle.lc_distances.proofs.halves.nearest.Given as goal

abbrev pub decreases-loop-done : goal.decreases-loop-done
decreases-loop-done l = length l.initial.counts - l.done

abbrev pub invariant-loop-done : goal.invariant-loop-done
invariant-loop-done l = record {
  low : l.tail < l.halves.tails;
  place : l.done < length l.initial.counts → l.head * l.halves.tails + l.tail ≡ l.first + l.done;
  searched : IsSearched (length l.initial.counts) l.done (λ i. symbols_apart l.halves (l.first + i)) l.bound l.least l.at;
}

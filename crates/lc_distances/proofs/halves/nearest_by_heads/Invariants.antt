use Rattle.std.proofs.Common.{◌≡◌, ◌+◌, ◌-◌, ◌*◌, ◌<◌, length}
use Rattle.lc_distances.specs.Halves.{symbols_apart}
use Rattle.lc_distances.proofs.LeastLaws.{IsSearched}
use Rattle.lc_distances.proofs.halves.nearest_by_heads.Given as goal

abbrev pub decreases-loop-done : goal.decreases-loop-done
decreases-loop-done l = length l.initial.counts - l.done

abbrev pub invariant-loop-done : goal.invariant-loop-done
invariant-loop-done l = record {
  low : l.from < l.halves.tails;
  place : l.done < length l.initial.counts → l.row * l.halves.tails + l.from ≡ l.head * l.halves.tails + l.tail + l.done;
  searched : IsSearched (length l.initial.counts) l.done (λ i. symbols_apart l.halves (l.head * l.halves.tails + l.tail + i)) l.bound l.least l.at;
}

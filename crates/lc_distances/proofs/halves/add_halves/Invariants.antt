use Rattle.std.proofs.Common.{◌≡◌, ℕ, ◌+◌, ◌-◌, ◌*◌, ◌<◌, ◌≤◌, length, slice_index}
use Rattle.lc_distances.specs.Halves.{symbols_apart}
use Rattle.lc_distances.proofs.halves.add_halves.Given as goal

abbrev pub decreases-loop-done : goal.decreases-loop-done
decreases-loop-done l = length l.initial.counts - l.done

abbrev pub invariant-loop-done : goal.invariant-loop-done
invariant-loop-done l = record {
  low : l.tail < l.halves.tails;
  inside : l.done ≤ length l.initial.counts;
  place : l.done < length l.initial.counts → l.head * l.halves.tails + l.tail ≡ l.first + l.done;
  done : (i : ℕ) → i < l.done → slice_index l.counts i ≡ slice_index l.initial.counts i + symbols_apart l.halves (l.first + i);
  left : (i : ℕ) → l.done ≤ i → slice_index l.counts i ≡ slice_index l.initial.counts i;
}

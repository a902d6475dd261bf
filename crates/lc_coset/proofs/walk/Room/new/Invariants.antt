use Rattle.std.proofs.Common.{◌≡◌, ◌<◌, ℕ, [], length, slice_index_or}
use Rattle.lc_algebra.specs.Word.{zero_word}
use Rattle.lc_coset.proofs.walk.Room.new.Given as goal

abbrev pub invariant-loop-i : goal.invariant-loop-i
invariant-loop-i l = (length l.sums.items ≡ l._i) × ((t : ℕ) → t < l._i → slice_index_or l.sums.items t [] ≡ zero_word l.sets.columns)

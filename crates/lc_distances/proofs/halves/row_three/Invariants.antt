use Rattle.std.proofs.Common.{bit_or, bit_xor, count_ones, slice_index}
use Rattle.lc_distances.specs.Least.{IsLeastOr}
use Rattle.lc_distances.proofs.halves.row_three.Given as goal

abbrev pub invariant-loop-i : goal.invariant-loop-i
invariant-loop-i l = IsLeastOr l.i (λ i. count_ones (bit_or (bit_xor (slice_index l.head 2) (slice_index l.fours i)) (bit_or (bit_xor (slice_index l.head 1) (slice_index l.twos i)) (bit_xor (slice_index l.head 0) (slice_index l.ones i))))) l.bound l.least

use Rattle.std.proofs.Common.{[], length, bit_or, bit_xor, count_ones, slice_index, slice_index_or}
use Rattle.lc_distances.specs.Least.{IsLeastPairOr}
use Rattle.lc_distances.proofs.halves.rows_three.Given as goal

abbrev pub invariant-loop-row : goal.invariant-loop-row
invariant-loop-row l = IsLeastPairOr l.row (length l.ones) (λ h t. count_ones (bit_or (bit_xor (slice_index (slice_index_or l.heads h []) 2) (slice_index l.fours t)) (bit_or (bit_xor (slice_index (slice_index_or l.heads h []) 1) (slice_index l.twos t)) (bit_xor (slice_index (slice_index_or l.heads h []) 0) (slice_index l.ones t))))) l.bound l.least

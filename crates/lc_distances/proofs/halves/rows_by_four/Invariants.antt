use Rattle.std.proofs.Common.{[], bit_or, bit_xor, count_ones, slice_index, slice_index_or}
use Rattle.lc_distances.specs.Least.{IsLeastOr}
use Rattle.lc_distances.proofs.halves.rows_by_four.Given as goal

abbrev pub invariant-loop-row : goal.invariant-loop-row
invariant-loop-row l = record {
  first : IsLeastOr l.row (λ h. count_ones (bit_or (bit_xor (slice_index (slice_index_or l.heads h []) 1) (slice_index l.twos 0)) (bit_xor (slice_index (slice_index_or l.heads h []) 0) (slice_index l.ones 0)))) l.bound l.first;
  second : IsLeastOr l.row (λ h. count_ones (bit_or (bit_xor (slice_index (slice_index_or l.heads h []) 1) (slice_index l.twos 1)) (bit_xor (slice_index (slice_index_or l.heads h []) 0) (slice_index l.ones 1)))) l.bound l.second;
  third : IsLeastOr l.row (λ h. count_ones (bit_or (bit_xor (slice_index (slice_index_or l.heads h []) 1) (slice_index l.twos 2)) (bit_xor (slice_index (slice_index_or l.heads h []) 0) (slice_index l.ones 2)))) l.bound l.third;
  fourth : IsLeastOr l.row (λ h. count_ones (bit_or (bit_xor (slice_index (slice_index_or l.heads h []) 1) (slice_index l.twos 3)) (bit_xor (slice_index (slice_index_or l.heads h []) 0) (slice_index l.ones 3)))) l.bound l.fourth;
}

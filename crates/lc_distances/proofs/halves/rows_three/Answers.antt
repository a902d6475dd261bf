use Rattle.std.proofs.Common.{ℕ, [], length, bit_or, bit_xor, count_ones, slice_index, slice_index_or}
use Rattle.lc_distances.proofs.LeastLaws.{pairs_none, pairs_more}
use Rattle.lc_distances.proofs.halves.rows_three.Goals as goal

pub loop-row-init : goal.loop-row-init
loop-row-init c = pairs_none (length c.args.ones.now) _ c.args.bound

pub loop-row-preserved : goal.loop-row-preserved
loop-row-preserved c =
    let f : ℕ → ℕ → ℕ = λ h t. count_ones (bit_or (bit_xor (slice_index (slice_index_or c.args.heads.now h []) 2) (slice_index c.args.fours.now t)) (bit_or (bit_xor (slice_index (slice_index_or c.args.heads.now h []) 1) (slice_index c.args.twos.now t)) (bit_xor (slice_index (slice_index_or c.args.heads.now h []) 0) (slice_index c.args.ones.now t)))) in
    pairs_more c.loop-row.row (length c.args.ones.now) f c.args.bound c.loop-row.least c.row_three-least.result c.loop-row.invariant c.row_three-least.ensures.is

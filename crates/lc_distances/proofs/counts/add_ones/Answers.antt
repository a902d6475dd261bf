use Rattle.std.proofs.Common.{◌≤◌, bit_xor, count_ones, slice_index, arith}
use Rattle.std.proofs.lemmas.Nat.{ones-le, xor_lt}
use Rattle.lc_distances.proofs.counts.add_ones.Goals as goal

pub overflow_add-counts : goal.overflow_add-counts
overflow_add-counts c =
    let i = c.loop-i.i in
    let x = bit_xor (slice_index c.args.sums.now i) c.args.prefix in
    let ones : count_ones x ≤ 64 = ones-le 64 x (xor_lt 64 (slice_index c.args.sums.now i) c.args.prefix (omega (arith, c.type_inv.sums i)) (omega (arith, c.ranges.prefix.fits))) in
    let old : slice_index c.loop-i.counts i ≤ 255 = rw (c.loop-i.invariant.left i (omega arith)) (c.requires.few i (omega (arith, c.loop-i-test.true, c.loop-i.auto.i-end))) in
    omega (arith, ones, old)

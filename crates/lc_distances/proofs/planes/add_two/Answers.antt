use Rattle.std.proofs.Common.{◌≤◌, slice_index, arith}
use Rattle.std.proofs.lemmas.Nat.{ones-le}
use lib.Bits.{or_lt, xor_lt}
use Rattle.lc_distances.proofs.planes.add_two.Goals as goal

pub overflow_add-counts : goal.overflow_add-counts
overflow_add-counts c =
    let i = c.loop-i.i in
    let ones = xor_lt 64 (slice_index c.args.head.now 0) (slice_index c.args.ones.now i) (omega arith) (omega (arith, c.type_inv.ones i)) in
    let twos = xor_lt 64 (slice_index c.args.head.now 1) (slice_index c.args.twos.now i) (omega arith) (omega (arith, c.type_inv.twos i)) in
    let few = ones-le 64 _ (or_lt 64 _ _ twos ones) in
    let old : slice_index c.loop-i.counts i ≤ 255 = rw (c.loop-i.invariant.left i (omega arith)) (c.requires.few i (omega (arith, c.loop-i-test.true, c.loop-i.auto.i-end))) in
    omega (arith, few, old)

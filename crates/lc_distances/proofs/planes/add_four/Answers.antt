use Rattle.std.proofs.Common.{ℕ, ◌≤◌, count_ones, slice_index, bit_or, bit_xor, arith}
use Rattle.std.proofs.lemmas.Nat.{ones-le}
use lib.Bits.{or_lt, xor_lt}
use Rattle.lc_distances.proofs.PlaneLaws.{added_next}
use Rattle.lc_distances.proofs.planes.add_four.Goals as goal

pub overflow_add-counts : goal.overflow_add-counts
overflow_add-counts c =
    let i = c.loop-i.i in
    let ones = xor_lt 64 (slice_index c.args.head.now 0) (slice_index c.args.ones.now i) (omega arith) (omega (arith, c.type_inv.ones i)) in
    let twos = xor_lt 64 (slice_index c.args.head.now 1) (slice_index c.args.twos.now i) (omega arith) (omega (arith, c.type_inv.twos i)) in
    let fours = xor_lt 64 (slice_index c.args.head.now 2) (slice_index c.args.fours.now i) (omega arith) (omega (arith, c.type_inv.fours i)) in
    let eights = xor_lt 64 (slice_index c.args.head.now 3) (slice_index c.args.eights.now i) (omega arith) (omega (arith, c.type_inv.eights i)) in
    let few = ones-le 64 _ (or_lt 64 _ _ eights (or_lt 64 _ _ fours (or_lt 64 _ _ twos ones))) in
    let old : slice_index c.loop-i.counts i ≤ 255 = rw (c.loop-i.invariant.left i (omega arith)) (c.requires.few i (omega (arith, c.loop-i-test.true, c.loop-i.auto.i-end))) in
    omega (arith, few, old)

pub loop-i-preserved : goal.loop-i-preserved
loop-i-preserved c =
    let i = c.loop-i.i in
    let f : ℕ → ℕ = λ t. count_ones (bit_or (bit_xor (slice_index c.args.head.now 3) (slice_index c.args.eights.now t)) (bit_or (bit_xor (slice_index c.args.head.now 2) (slice_index c.args.fours.now t)) (bit_or (bit_xor (slice_index c.args.head.now 1) (slice_index c.args.twos.now t)) (bit_xor (slice_index c.args.head.now 0) (slice_index c.args.ones.now t))))) in
    let next = added_next f c.args.counts.now c.loop-i.counts i (omega (arith, c.loop-i-test.true, c.loop-i.auto.i-end, c.loop-i.auto.counts)) (record { done = c.loop-i.invariant.done; left = c.loop-i.invariant.left }) in
    record { done = next.done; left = next.left }

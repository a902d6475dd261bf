use Rattle.std.proofs.Common.{arith}
use Rattle.lc_basic.proofs.HammingLaws.{power_small, points_within, product_small}
use Rattle.lc_basic.proofs.hamming_codes.digits_of.Goals as goal

pub overflow_mul-first : goal.overflow_mul-first
overflow_mul-first c =
    omega (arith, product_small c.args.q c.loop-m._m c.loop-m.first c.requires.least c.requires.most (points_within c.args.q c.loop-m._m c.args.r (omega arith) c.requires.points) c.loop-m.invariant.1)

pub add_block-requires-clause-first : goal.add_block-requires-clause-first
add_block-requires-clause-first c =
    omega (arith, c.loop-m.invariant.1, power_small c.args.q c.loop-m._m c.requires.least c.requires.most (points_within c.args.q c.loop-m._m c.args.r (omega arith) c.requires.points))

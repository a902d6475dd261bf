use Rattle.std.proofs.Common.{arith}
use Rattle.lc_basic.proofs.HammingLaws.{points_within, product_small}
use Rattle.lc_basic.proofs.hamming_codes.power.Goals as goal

pub overflow_mul-power : goal.overflow_mul-power
overflow_mul-power c =
    omega (arith, product_small c.args.q c.loop-i._i c.loop-i.power c.requires.least c.requires.most (points_within c.args.q c.loop-i._i c.args.e (omega arith) c.requires.points) c.loop-i.invariant)

use Rattle.std.proofs.Common.{◌≤◌, arith}
use Rattle.lc_code.proofs.CoordinateSteps.{small_size}
use Rattle.lc_weights.proofs.counted.count_words.Goals as goal

pub count_by_length-requires-2-clause-planes : goal.count_by_length-requires-2-clause-planes
count_by_length-requires-2-clause-planes g c κs within =
    let four : 4 ≤ 4 = omega arith in
    (small_size c.args.code.now.field c.field.ensures.symbol, four)

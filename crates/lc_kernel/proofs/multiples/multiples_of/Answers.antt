use Rattle.std.proofs.Common.{◌*◌, arith}
use Rattle.lc_matrix.proofs.FlatLaws.{most}
use Rattle.lc_kernel.proofs.multiples.multiples_of.Goals as goal

pub overflow_mul-many-2 : goal.overflow_mul-many-2
overflow_mul-many-2 c =
    let one = most c.count.result 255 c.dimension.result (omega (arith, c.count.ensures.is, c.count.ensures.most, c.length-n.ensures.is, c.length-n.ensures.most)) in
    let two = most (c.count.result * c.dimension.result) 65025 c.nonzero.result (omega (arith, one, c.dimension.ensures.is, c.dimension.ensures.most, c.length-n.ensures.is, c.length-n.ensures.most)) in
    omega (arith, two, c.nonzero.ensures.most)

use Rattle.std.proofs.Common.{arith}
use Rattle.lc_coset.proofs.walk.Room.new.Goals as goal

pub overflow_add-many : goal.overflow_add-many
overflow_add-many c = omega (arith, c.dimension-many.ensures.most, c.length-long.ensures.is, c.length-long.ensures.most)

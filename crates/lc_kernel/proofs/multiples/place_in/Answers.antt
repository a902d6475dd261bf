use Rattle.std.proofs.Common.{◌-◌, refl, arith}
use Rattle.lc_kernel.proofs.MultipleLaws.{IsSmall, index_small, symbol_size}
use Rattle.lc_kernel.proofs.multiples.place_in.Goals.{After-nonzero}
use Rattle.lc_kernel.proofs.multiples.place_in.Goals as goal

small : (c : After-nonzero) → IsSmall c.args.sets.now c.args.j c.args.i (c.args.c - 1)
small c = index_small c.args.sets.now c.args.j c.args.i (c.args.c - 1) c.requires.set c.requires.row (omega (arith, c.count-m.ensures.is, c.count-m.ensures.most, c.length-n.ensures.is, c.length-n.ensures.most)) (omega (arith, c.dimension.ensures.is, c.dimension.ensures.most, c.length-n.ensures.is, c.length-n.ensures.most)) (symbol_size c.args.sets.now c.field-f.ensures.symbol)

pub overflow_mul-result : goal.overflow_mul-result
overflow_mul-result c = rw (c.dimension.ensures.is, c.nonzero.ensures.is) (omega (arith, (small (goal.at.overflow_mul-result c).After-nonzero).index))

pub overflow_add-result : goal.overflow_add-result
overflow_add-result c = rw (c.dimension.ensures.is, c.nonzero.ensures.is) (omega (arith, (small (goal.at.overflow_add-result c).After-nonzero).index, c.requires.element.1, symbol_size c.args.sets.now c.field-f.ensures.symbol))

pub returns-clause-is : goal.returns-clause-is
returns-clause-is c = rw (c.dimension.ensures.is, c.nonzero.ensures.is) refl

pub returns-clause-few : goal.returns-clause-few
returns-clause-few c = rw (c.dimension.ensures.is, c.nonzero.ensures.is) (omega (arith, (small (goal.at.returns-clause-few c).After-nonzero).index, c.requires.element.1, symbol_size c.args.sets.now c.field-f.ensures.symbol))

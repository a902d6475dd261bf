use Rattle.std.proofs.Common.{length, refl, ap, ◌∙◌, arith}
use Rattle.lc_algebra.specs.Field.{size}
use Rattle.lc_macwilliams.proofs.SolveLaws.{step_made}
use Rattle.lc_macwilliams.proofs.solve.solve.Goals as goal

pub sum_of-right-requires-clause-short : goal.sum_of-right-requires-clause-short
sum_of-right-requires-clause-short c = (step_made c.args.code.now c.length-n.result (size c.args.code.now.field) (length c.args.code.now.rows) c.args.t c.args.counts.now c.args.found.now c.length-n.ensures.is refl refl c.matrix-matrix.ensures.rows c.matrix-matrix.ensures.reduced c.requires.dual c.requires.small c.requires.weight c.requires.found).short

pub sum_of-right-requires-clause-many : goal.sum_of-right-requires-clause-many
sum_of-right-requires-clause-many c = (step_made c.args.code.now c.length-n.result (size c.args.code.now.field) (length c.args.code.now.rows) c.args.t c.args.counts.now c.args.found.now c.length-n.ensures.is refl refl c.matrix-matrix.ensures.rows c.matrix-matrix.ensures.reduced c.requires.dual c.requires.small c.requires.weight c.requires.found).many

pub sum_of-right-requires-clause-small : goal.sum_of-right-requires-clause-small
sum_of-right-requires-clause-small c = (step_made c.args.code.now c.length-n.result (size c.args.code.now.field) (length c.args.code.now.rows) c.args.t c.args.counts.now c.args.found.now c.length-n.ensures.is refl refl c.matrix-matrix.ensures.rows c.matrix-matrix.ensures.reduced c.requires.dual c.requires.small c.requires.weight c.requires.found).right

pub sum_of-left-requires-clause-short : goal.sum_of-left-requires-clause-short
sum_of-left-requires-clause-short c = (step_made c.args.code.now c.length-n.result (size c.args.code.now.field) (length c.args.code.now.rows) c.args.t c.args.counts.now c.args.found.now c.length-n.ensures.is refl refl c.matrix-matrix.ensures.rows c.matrix-matrix.ensures.reduced c.requires.dual c.requires.small c.requires.weight c.requires.found).short

pub sum_of-left-requires-clause-many : goal.sum_of-left-requires-clause-many
sum_of-left-requires-clause-many c = (step_made c.args.code.now c.length-n.result (size c.args.code.now.field) (length c.args.code.now.rows) c.args.t c.args.counts.now c.args.found.now c.length-n.ensures.is refl refl c.matrix-matrix.ensures.rows c.matrix-matrix.ensures.reduced c.requires.dual c.requires.small c.requires.weight c.requires.found).long

pub sum_of-left-requires-clause-small : goal.sum_of-left-requires-clause-small
sum_of-left-requires-clause-small c = (step_made c.args.code.now c.length-n.result (size c.args.code.now.field) (length c.args.code.now.rows) c.args.t c.args.counts.now c.args.found.now c.length-n.ensures.is refl refl c.matrix-matrix.ensures.rows c.matrix-matrix.ensures.reduced c.requires.dual c.requires.small c.requires.weight c.requires.found).left_small

pub power-requires-clause-small : goal.power-requires-clause-small
power-requires-clause-small c = (step_made c.args.code.now c.length-n.result c.from-q.result c.dimension.result c.args.t c.args.counts.now c.args.found.now c.length-n.ensures.is (c.from-q.ensures ∙ c.size.ensures.is ∙ ap size c.field.ensures.is) c.dimension.ensures.is c.matrix-matrix.ensures.rows c.matrix-matrix.ensures.reduced c.requires.dual c.requires.small c.requires.weight c.requires.found).power_k

pub power-requires-2-clause-small : goal.power-requires-2-clause-small
power-requires-2-clause-small c = (step_made c.args.code.now c.length-n.result c.from-q.result c.dimension.result c.args.t c.args.counts.now c.args.found.now c.length-n.ensures.is (c.from-q.ensures ∙ c.size.ensures.is ∙ ap size c.field.ensures.is) c.dimension.ensures.is c.matrix-matrix.ensures.rows c.matrix-matrix.ensures.reduced c.requires.dual c.requires.small c.requires.weight c.requires.found).power_v

pub overflow_mul-whole : goal.overflow_mul-whole
overflow_mul-whole c = let s = step_made c.args.code.now c.length-n.result c.from-q.result c.dimension.result c.args.t c.args.counts.now c.args.found.now c.length-n.ensures.is (c.from-q.ensures ∙ c.size.ensures.is ∙ ap size c.field.ensures.is) c.dimension.ensures.is c.matrix-matrix.ensures.rows c.matrix-matrix.ensures.reduced c.requires.dual c.requires.small c.requires.weight c.requires.found in rw (c.sum_of-right.ensures.is, c.power.ensures.is) (omega (arith, s.whole))

pub nonzero_div-whole : goal.nonzero_div-whole
nonzero_div-whole c = let s = step_made c.args.code.now c.length-n.result c.from-q.result c.dimension.result c.args.t c.args.counts.now c.args.found.now c.length-n.ensures.is (c.from-q.ensures ∙ c.size.ensures.is ∙ ap size c.field.ensures.is) c.dimension.ensures.is c.matrix-matrix.ensures.rows c.matrix-matrix.ensures.reduced c.requires.dual c.requires.small c.requires.weight c.requires.found in rw c.power-2.ensures.is s.positive

pub overflow_sub-result : goal.overflow_sub-result
overflow_sub-result c = let s = step_made c.args.code.now c.length-n.result c.from-q.result c.dimension.result c.args.t c.args.counts.now c.args.found.now c.length-n.ensures.is (c.from-q.ensures ∙ c.size.ensures.is ∙ ap size c.field.ensures.is) c.dimension.ensures.is c.matrix-matrix.ensures.rows c.matrix-matrix.ensures.reduced c.requires.dual c.requires.small c.requires.weight c.requires.found in rw (c.sum_of-right.ensures.is, c.sum_of-left.ensures.is, c.power.ensures.is, c.power-2.ensures.is) s.left

pub overflow_cast-result : goal.overflow_cast-result
overflow_cast-result c = let s = step_made c.args.code.now c.length-n.result c.from-q.result c.dimension.result c.args.t c.args.counts.now c.args.found.now c.length-n.ensures.is (c.from-q.ensures ∙ c.size.ensures.is ∙ ap size c.field.ensures.is) c.dimension.ensures.is c.matrix-matrix.ensures.rows c.matrix-matrix.ensures.reduced c.requires.dual c.requires.small c.requires.weight c.requires.found in rw (c.sum_of-right.ensures.is, c.sum_of-left.ensures.is, c.power.ensures.is, c.power-2.ensures.is, s.next) (omega (arith, s.few))

pub returns : goal.returns
returns c = let s = step_made c.args.code.now c.length-n.result c.from-q.result c.dimension.result c.args.t c.args.counts.now c.args.found.now c.length-n.ensures.is (c.from-q.ensures ∙ c.size.ensures.is ∙ ap size c.field.ensures.is) c.dimension.ensures.is c.matrix-matrix.ensures.rows c.matrix-matrix.ensures.reduced c.requires.dual c.requires.small c.requires.weight c.requires.found in record { is = rw (c.sum_of-right.ensures.is, c.sum_of-left.ensures.is, c.power.ensures.is, c.power-2.ensures.is) s.next }

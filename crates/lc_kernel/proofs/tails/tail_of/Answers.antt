use Rattle.std.proofs.Common.{◌-◌, ◌<◌, length, slice_index, refl, ap, arith}
use Rattle.lc_algebra.specs.Field.{size}
use Rattle.lc_algebra.proofs.CommonLaws.{below_product}
use Rattle.lc_kernel.proofs.FrontLaws.{entries_are}
use Rattle.lc_kernel.proofs.tails.tail_of.Goals as goal

pub overflow_sub-first : goal.overflow_sub-first
overflow_sub-first c = omega (arith, ap length c.coefficients-coefficients.ensures.entries, (entries_are c.args.sets.now c.args.spot.now c.requires.message).many, c.requires.level)

pub bounds-coefficients-coefficients : goal.bounds-coefficients-coefficients
bounds-coefficients-coefficients c = omega (arith, ap length c.coefficients-coefficients.ensures.entries, (entries_are c.args.sets.now c.args.spot.now c.requires.message).many, c.requires.level)

pub overflow_sub-first-2 : goal.overflow_sub-first-2
overflow_sub-first-2 c =
    let e = entries_are c.args.sets.now c.args.spot.now c.requires.message in
    rw c.coefficients-coefficients.ensures.entries (e.fitting.some (length c.args.spot.now.coefficients - 2) (omega (arith, e.many, c.requires.level)))

pub overflow_sub-second : goal.overflow_sub-second
overflow_sub-second c = omega (arith, ap length c.coefficients-coefficients.ensures.entries, (entries_are c.args.sets.now c.args.spot.now c.requires.message).many, c.requires.level)

pub bounds-coefficients-coefficients-2 : goal.bounds-coefficients-coefficients-2
bounds-coefficients-coefficients-2 c = omega (arith, ap length c.coefficients-coefficients.ensures.entries, (entries_are c.args.sets.now c.args.spot.now c.requires.message).many, c.requires.level)

pub overflow_sub-second-2 : goal.overflow_sub-second-2
overflow_sub-second-2 c =
    let e = entries_are c.args.sets.now c.args.spot.now c.requires.message in
    rw c.coefficients-coefficients.ensures.entries (e.fitting.some (length c.args.spot.now.coefficients - 1) (omega (arith, e.many, c.requires.level)))

pub returns-clause-is : goal.returns-clause-is
returns-clause-is c =
    let e = entries_are c.args.sets.now c.args.spot.now c.requires.message in
    rw (c.coefficients-coefficients.ensures.entries, c.nonzero-elements.ensures.is, e.many) refl

pub returns-clause-inside : goal.returns-clause-inside
returns-clause-inside c =
    let s = c.args.spot.now in
    let d = size c.args.sets.now.field - 1 in
    let e = entries_are c.args.sets.now s c.requires.message in
    let i = length s.support - 2 in
    let j = length s.support - 1 in
    let a : slice_index s.coefficients i - 1 < d = omega (arith, e.element i (omega (arith, c.requires.level)), e.fitting.some i (omega (arith, e.many, c.requires.level))) in
    let b : slice_index s.coefficients j - 1 < d = omega (arith, e.element j (omega (arith, c.requires.level)), e.fitting.some j (omega (arith, e.many, c.requires.level))) in
    rw (c.coefficients-coefficients.ensures.entries, c.nonzero-elements.ensures.is, e.many) (below_product d d (slice_index s.coefficients i - 1) (slice_index s.coefficients j - 1) a b)

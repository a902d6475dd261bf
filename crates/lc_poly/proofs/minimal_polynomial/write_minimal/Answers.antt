use Rattle.std.proofs.Common.{arith}
use Rattle.lc_poly.proofs.MinimalLaws.{upper_none, upper_step, minimal_told}
use Rattle.lc_poly.proofs.minimal_polynomial.write_minimal.Goals as goal

pub loop-place-init : goal.loop-place-init
loop-place-init c = rw c.requires.zeros (upper_none c.args.small.now c.args.large.now c.args.a c.requires.subfield c.requires.element c.args.degree c.requires.reached)

pub loop-place-preserved : goal.loop-place-preserved
loop-place-preserved c =
    upper_step c.args.small.now c.args.large.now c.args.a c.requires.subfield c.requires.element c.args.degree c.loop-place.place c.loop-place.value c.loop-place.list c.next_coefficient-c.result c.next_value-value.result c.loop-place.invariant (omega arith) c.next_coefficient-c.ensures.below c.next_value-value.ensures.is (rw c.next_value-value.ensures.is c.next_coefficient-c.ensures.reaches)

pub returns-clause-minimal : goal.returns-clause-minimal
returns-clause-minimal c = minimal_told c.args.small.now c.args.large.now c.args.a c.requires.subfield c.requires.element c.args.degree c.loop-place.place c.loop-place.value c.loop-place.list c.loop-place.invariant (omega arith) c.requires.least

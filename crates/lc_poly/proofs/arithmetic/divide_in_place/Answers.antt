use Rattle.std.proofs.Common.{◌≡◌, ◌+◌, ◌-◌, length, slice_index, ap, ◌∙◌, arith, length-set}
use Rattle.lc_algebra.specs.Field.{add, mul}
use Rattle.lc_poly.proofs.ListLaws.{division_none, division_step, division_whole, division_short}
use Rattle.lc_poly.proofs.arithmetic.divide_in_place.Goals as goal

pub returns-then-work-degree-clause-division : goal.returns-then-work-degree-clause-division
returns-then-work-degree-clause-division c = division_short c.args.field.now c.args.by.now (length c.args.by.now - 1) c.args.work.now c.requires.work (omega arith)

pub loop-at-init : goal.loop-at-init
loop-at-init c = (omega arith, division_none c.args.field.now c.args.by.now (length c.args.by.now - 1) c.args.work.now (length c.args.work.now - (length c.args.by.now - 1)) c.requires.work (omega arith))

pub loop-at-preserved : goal.loop-at-preserved
loop-at-preserved c =
    let e : c.loop-at.at - 1 + 1 ≡ c.loop-at.at = omega arith in
    let f = c.args.field.now in
    let m = length c.args.by.now - 1 in (
      omega (arith, c.add_multiple.ensures.length, length-set c.add_multiple.new.to (c.loop-at.at - 1 + m) c.mul-factor.result),
      division_step f c.args.by.now m c.args.work.now (c.loop-at.at - 1) c.loop-at.work c.add_multiple.new.to c.mul-factor.result c.inv-inverse.result (omega arith) c.requires.work (rw e c.loop-at.invariant.1) (omega arith) c.inv-inverse.ensures.is c.mul-factor.ensures.is c.add_multiple.ensures.length c.add_multiple.ensures.fits c.add_multiple.ensures.before
          (λ i. c.add_multiple.ensures.sum i ∙ ap (λ x. add f (slice_index c.loop-at.work (c.loop-at.at - 1 + i)) (mul f x (slice_index c.args.by.now i))) c.neg.ensures.is),
    )

pub returns-clause-division : goal.returns-clause-division
returns-clause-division c =
    let z : c.loop-at.at ≡ 0 = omega arith in
    division_whole c.args.field.now c.args.by.now (length c.args.by.now - 1) c.args.work.now c.loop-at.work (rw z at c.loop-at.invariant.1)

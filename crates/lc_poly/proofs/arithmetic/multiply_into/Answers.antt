use Rattle.std.proofs.Common.{◌≡◌, ◌+◌, ◌-◌, arith}
use Rattle.lc_poly.proofs.ListLaws.{product_none, product_step, product_whole}
use Rattle.lc_poly.proofs.arithmetic.multiply_into.Goals as goal

pub loop-at-init : goal.loop-at-init
loop-at-init c = (omega arith, product_none c.args.field.now c.args.first.now c.args.second.now c.args.product.now c.requires.room c.requires.zeros)

pub loop-at-preserved : goal.loop-at-preserved
loop-at-preserved c =
    let e : c.loop-at.at - 1 + 1 ≡ c.loop-at.at = omega arith in
    (omega arith, product_step c.args.field.now c.args.first.now c.args.second.now (c.loop-at.at - 1) c.loop-at.product c.add_multiple.new.to (rw e c.loop-at.invariant.1) (omega arith) c.add_multiple.ensures.length c.add_multiple.ensures.fits c.add_multiple.ensures.before c.add_multiple.ensures.sum)

pub returns-clause-product : goal.returns-clause-product
returns-clause-product c =
    let z : c.loop-at.at ≡ 0 = omega arith in
    product_whole c.args.field.now c.args.first.now c.args.second.now c.loop-at.product (rw z at c.loop-at.invariant.1)

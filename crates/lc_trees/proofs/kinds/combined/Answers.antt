use Rattle.std.proofs.Common.{◌*◌, refl, arith}
use Rattle.lc_trees.proofs.KindLaws.{uuv_outcome, sum_outcome, product_outcome}
use Rattle.lc_trees.proofs.kinds.combined.Goals as goal

pub returns-in-Uuv : goal.returns-in-Uuv
returns-in-Uuv c =
    let one = c.args.one.now in
    let two = c.args.two.now in
    record { is = uuv_outcome c.args.number c.min.result c.args.kind one.code two.code one.bound two.bound c.uuv-code.result c.own.result c.in-Uuv.is (omega (arith, c.min.ensures)) c.uuv-code.ensures.code c.uuv-code.ensures.refused c.own.ensures.is }

pub returns-in-Sum : goal.returns-in-Sum
returns-in-Sum c =
    let one = c.args.one.now in
    let two = c.args.two.now in
    record { is = sum_outcome c.args.number c.min-in-Sum.result c.args.kind one.code two.code one.bound two.bound c.direct_sum-code.result c.own-in-Sum.result c.in-Sum.is (omega (arith, c.min-in-Sum.ensures)) c.direct_sum-code.ensures.code c.direct_sum-code.ensures.refused c.own-in-Sum.ensures.is }

pub returns-in-Product : goal.returns-in-Product
returns-in-Product c =
    let one = c.args.one.now in
    let two = c.args.two.now in
    record { is = product_outcome c.args.number (one.bound * two.bound) c.args.kind one.code two.code one.bound two.bound c.direct_product-code.result c.own-in-Product.result c.in-Product.is refl c.direct_product-code.ensures.code c.direct_product-code.ensures.refused c.own-in-Product.ensures.is }

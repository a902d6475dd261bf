use Rattle.std.proofs.Common.{◌<◌, length, sym, subst, arith}
use Rattle.lc_goppa.proofs.GoppaLaws.{multipliers_more}
use Rattle.lc_goppa.proofs.goppa_codes.multipliers_of.Goals as goal

pub loop-i-preserved : goal.loop-i-preserved
loop-i-preserved c =
    let i = c.loop-i.i in
    let l : i < length c.args.points.now = omega arith in
    multipliers_more c.args.locator.now c.args.list.now c.args.points.now i c.value-value.result c.inv.result c.loop-i.multipliers.items c.push.new.self.items
    l
    c.value-value.ensures.is
    (subst (λ x. 0 < x) (sym c.value-value.ensures.is) (c.requires.nonzero i l))
    c.inv.ensures.is
    c.loop-i.invariant
    c.in_ok-push.ensures.items

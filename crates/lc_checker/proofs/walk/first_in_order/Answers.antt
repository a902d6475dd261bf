use Rattle.std.proofs.Common.{sym, subst}
use Rattle.lc_checker.specs.Walk.{AreSums}
use Rattle.lc_checker.proofs.WalkLaws.{sums_zero}
use Rattle.lc_checker.proofs.walk.first_in_order.Goals as goal

pub lighter_through-requires-clause-sums : goal.lighter_through-requires-clause-sums
lighter_through-requires-clause-sums c =
    let e = c.in_ok-sums.ensures in
    subst (AreSums c.args.rows.now) (sym c.deref_mut-2.ensures.value) (sums_zero c.args.rows.now c.args.level c.in_ok-sums.sums.items e.many (λ i l. rw (← c.cols.ensures.is) (e.zero i l)))

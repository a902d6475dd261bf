use Rattle.std.proofs.Common.{◌+◌, sym, subst, arith}
use Rattle.lc_checker.specs.Walk.{AreSums}
use Rattle.lc_checker.proofs.WalkLaws.{sums_zero}
use Rattle.lc_checker.proofs.sums.has_lighter_sum.Goals as goal

pub some_lighter_word-light-requires-clause-sums : goal.some_lighter_word-light-requires-clause-sums
some_lighter_word-light-requires-clause-sums c =
    let e = c.in_ok-sums.ensures in
    subst (AreSums c.args.rows.now) (sym c.deref_mut.ensures.value) (sums_zero c.args.rows.now (c.args.level + 1) c.in_ok-sums.sums.items (omega (arith, e.many)) (λ i l. rw (← c.cols.ensures.is) (e.zero i (omega (arith, l)))))

use Rattle.std.proofs.Common.{◌+◌, ◌-◌, ◌*◌, ◌^◌, ◌<◌, ◌≤◌, ◌⊎◌, inl, inr, sym, subst, arith}
use Rattle.lc_enumeration.specs.Plan.{total}
use Rattle.lc_search.specs.Levels.{IsOpenAt}
use Rattle.lc_search.proofs.LevelLaws.{open_found, open_end}
use Rattle.lc_search.proofs.level.open_phase.Goals as goal
use Rattle.lc_search.proofs.level.open_phase.Goals.{else-blocks-total-via-then-blocks-total+else-total-lt-CUT, else-blocks-total-via-else-blocks-total}

pub returns-then-total-lt-CUT-clause-first : goal.returns-then-total-lt-CUT-clause-first
returns-then-total-lt-CUT-clause-first c =
    let p = c.args.plan.now in
    let is = c.total-total.ensures.exact in
    subst (λ d. IsOpenAt p.k p.q p.m c.args.blocks ((d + 1 - 1) * p.m + 0)) (sym c.requires.dimension.0)
    (open_end p.k p.q p.m c.args.blocks (omega (arith, is, c.if-total-lt-CUT.true)) (omega (arith, is, c.if-blocks-total.true)))

pub returns-clause-first : goal.returns-clause-first
returns-clause-first c =
    let p = c.args.plan.now in
    let is = c.total-total.ensures.exact in
    let where_it : (c.args.blocks < total p.k p.q p.m) ⊎ (2 ^ 40 ≤ total p.k p.q p.m) = elim c.else-blocks-total.branch [
      | else-blocks-total-via-then-blocks-total+else-total-lt-CUT w ↦ inr (omega (arith, w.if-total-lt-CUT, is))
      | else-blocks-total-via-else-blocks-total w ↦ inl (omega (arith, w.if-blocks-total, is))
    ] in
    open_found p.k p.q p.m c.args.blocks _ c.phase_of-phase.result c.phase_of-phase.ensures.found (omega (arith, is, c.min.ensures)) where_it

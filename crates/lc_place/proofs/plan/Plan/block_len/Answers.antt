use Rattle.std.proofs.Common.{arith, ap, ◌∙◌}
use Rattle.lc_enumeration.proofs.PlanLaws.{one_phase}
use Rattle.lc_place.proofs.Phases.{found_rank, counted}
use Rattle.lc_enumeration.specs.Plan.{block_length}
use Rattle.lc_place.proofs.plan.Plan.block_len.Goals as goal

pub overflow_mul-block : goal.overflow_mul-block
overflow_mul-block c = omega (arith, (found_rank c.args.self.now c.args.block c.phase_of-phase.result c.phase_of-phase.ensures.found).small)

pub overflow_sub-counts : goal.overflow_sub-counts
overflow_sub-counts c = (counted c.args.self.now c.self.inside.size.k c.self.inside.size.q c.self.inside.size.m c.args.block c.self.inside.counts.items c.as_slice-counts.result.now c.phase_of-phase.result c.self.view_is c.as_slice-counts.ensures.value c.self.invariant.2 c.phase_of-phase.ensures.level.0 c.phase_of-phase.ensures.level.1 c.phase_of-phase.ensures.found).fits

pub returns-clause-exact : goal.returns-clause-exact
returns-clause-exact c =
    let n = counted c.args.self.now c.self.inside.size.k c.self.inside.size.q c.self.inside.size.m c.args.block c.self.inside.counts.items c.as_slice-counts.result.now c.phase_of-phase.result c.self.view_is c.as_slice-counts.ensures.value c.self.invariant.2 c.phase_of-phase.ensures.level.0 c.phase_of-phase.ensures.level.1 c.phase_of-phase.ensures.found in
    λ p h. c.min.ensures ∙ n.exact ∙ ap (λ x. block_length c.args.self.now.k c.args.self.now.q c.args.self.now.m x c.args.block) (one_phase c.args.self.now.k c.args.self.now.q c.args.self.now.m _ p c.args.block c.phase_of-phase.ensures.found.1 h)

pub returns-clause-some : goal.returns-clause-some
returns-clause-some c =
    let n = counted c.args.self.now c.self.inside.size.k c.self.inside.size.q c.self.inside.size.m c.args.block c.self.inside.counts.items c.as_slice-counts.result.now c.phase_of-phase.result c.self.view_is c.as_slice-counts.ensures.value c.self.invariant.2 c.phase_of-phase.ensures.level.0 c.phase_of-phase.ensures.level.1 c.phase_of-phase.ensures.found in
    omega (arith, n.some, c.min.ensures)

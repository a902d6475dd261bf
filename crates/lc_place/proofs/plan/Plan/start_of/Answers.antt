use Rattle.std.proofs.Common.{arith, ◌∙◌}
use Rattle.lc_place.proofs.Phases.{found_rank, started}
use Rattle.lc_place.proofs.plan.Plan.start_of.Goals as goal

pub overflow_mul-rank : goal.overflow_mul-rank
overflow_mul-rank c = omega (arith, (found_rank c.args.self.now c.args.block c.phase_of-phase.result c.phase_of-phase.ensures.found).small)

pub go_to-requires-clause-small : goal.go_to-requires-clause-small
go_to-requires-clause-small c = omega (arith, (found_rank c.args.self.now c.args.block c.phase_of-phase.result c.phase_of-phase.ensures.found).small)

pub go_to-requires-clause-inside : goal.go_to-requires-clause-inside
go_to-requires-clause-inside c = omega (arith, (found_rank c.args.self.now c.args.block c.phase_of-phase.result c.phase_of-phase.ensures.found).inside)

pub returns-clause-first : goal.returns-clause-first
returns-clause-first c = (started c.args.self.now c.args.block c.phase_of-phase.result _ _ c.phase_of-phase.ensures.found c.go_to.ensures.level c.go_to.ensures.at).first

pub returns-clause-level : goal.returns-clause-level
returns-clause-level c = (started c.args.self.now c.args.block c.phase_of-phase.result _ _ c.phase_of-phase.ensures.found c.go_to.ensures.level c.go_to.ensures.at).level

pub returns-clause-set : goal.returns-clause-set
returns-clause-set c = λ p h. c.go_to.ensures.set ∙ (started c.args.self.now c.args.block c.phase_of-phase.result _ _ c.phase_of-phase.ensures.found c.go_to.ensures.level c.go_to.ensures.at).set p h

pub returns-clause-message : goal.returns-clause-message
returns-clause-message c = (started c.args.self.now c.args.block c.phase_of-phase.result _ _ c.phase_of-phase.ensures.found c.go_to.ensures.level c.go_to.ensures.at).message

use Rattle.std.proofs.Common.{ap, arith}
use Rattle.lc_place.specs.Place.{PlanSize}
use Rattle.lc_coset.proofs.PhaseLaws.{led_level, phase_made}
use Rattle.lc_coset.proofs.answer.phase_of.Goals as goal

pub overflow_add-level : goal.overflow_add-level
overflow_add-level c = omega (arith, led_level c.args.frame.now c.args.number c.count-m.result c.requires.frame c.requires.one c.count-m.ensures.is, ap (λ (p : PlanSize). p.k) c.requires.frame.steps, c.requires.frame.fewer, c.requires.frame.short)

pub led_count-patterns-requires : goal.led_count-patterns-requires
led_count-patterns-requires c = record { level = (omega arith, led_level c.args.frame.now c.args.number c.count-m.result c.requires.frame c.requires.one c.count-m.ensures.is) }

pub returns-clause-phase : goal.returns-clause-phase
returns-clause-phase c = (phase_made c.args.frame.now c.args.number c.args.first c.args.budget c.count-m.result c.led_count-patterns.result c.min.result c.requires.frame c.requires.one c.requires.first c.requires.budget.0 c.requires.budget.1 c.count-m.ensures.is c.led_count-patterns.ensures.is c.min.ensures).phase

pub returns-clause-blocks : goal.returns-clause-blocks
returns-clause-blocks c = (phase_made c.args.frame.now c.args.number c.args.first c.args.budget c.count-m.result c.led_count-patterns.result c.min.result c.requires.frame c.requires.one c.requires.first c.requires.budget.0 c.requires.budget.1 c.count-m.ensures.is c.led_count-patterns.ensures.is c.min.ensures).ends

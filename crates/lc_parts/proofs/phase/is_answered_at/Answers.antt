use Rattle.std.proofs.Common.{arith}
use Rattle.lc_parts.specs.Seen.{facts_seen}
use Rattle.lc_parts.proofs.JoinLaws.{total_by, answered_budget, answered_past, answered_here, answered_not}
use Rattle.lc_parts.proofs.phase.is_answered_at.Goals as goal

pub returns-then-blocks-budget : goal.returns-then-blocks-budget
returns-then-blocks-budget c = record { is = λ place. answered_budget (facts_seen c.args.facts.now) c.args.budget c.args.blocks c.args.weight place (omega (arith, c.if-blocks-budget.true)) }

pub returns-then-blocks-total : goal.returns-then-blocks-total
returns-then-blocks-total c = record {
  is = λ place. answered_past (facts_seen c.args.facts.now) c.args.budget c.args.blocks c.args.weight place c.requires.facts c.requires.budget.0 (omega (arith, c.requires.budget, c.if-blocks-budget.false))
      (total_by (facts_seen c.args.facts.now) c.args.plan.now c.args.blocks c.total.result c.requires.plan c.total.ensures.exact (omega (arith, c.if-blocks-total.true)));
}

pub returns-then-phase-blocks : goal.returns-then-phase-blocks
returns-then-phase-blocks c = record {
  is = λ place. answered_not (facts_seen c.args.facts.now) c.args.plan.now c.args.budget c.args.blocks c.args.weight place c.phase_of-phase.result c.requires.plan c.phase_of-phase.ensures.found
      (omega (arith, c.requires.budget, c.if-blocks-budget.false)) (omega (arith, c.phase_of-phase.ensures.around, c.if-phase-blocks.true));
}

pub returns : goal.returns
returns c = record {
  is = λ place. answered_here (facts_seen c.args.facts.now) c.args.plan.now c.args.budget c.args.blocks c.args.weight place c.bound_of.result c.phase_of-phase.result c.requires.plan c.phase_of-phase.ensures.found
      (omega (arith, c.requires.budget, c.if-blocks-budget.false)) (omega (arith, c.if-phase-blocks.false)) c.bound_of.ensures.is;
}

use Rattle.lc_parts.proofs.JoinLaws.{wanted_is}
use Rattle.lc_parts.proofs.phase.end_within.Goals as goal

pub returns-clause-is : goal.returns-clause-is
returns-clause-is c = λ f e. wanted_is f c.args.plan.now c.args.budget c.args.block c.phase_end.result _ e c.phase_end.ensures.found c.min.ensures

use Rattle.lc_search.proofs.WorkLaws.{few_blocks}
use Rattle.lc_search.proofs.blocks.work.Goals as goal

pub work-requires-clause-few : goal.work-requires-clause-few
work-requires-clause-few g c _ _ = few_blocks c.args.plan.now.k c.args.plan.now.q c.args.plan.now.m

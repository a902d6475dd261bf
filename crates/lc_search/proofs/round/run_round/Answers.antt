use Rattle.lc_search.proofs.WorkLaws.{few_blocks, fresh_rooms}
use Rattle.lc_search.proofs.round.run_round.Goals as goal

pub run_round-requires-clause-spare : goal.run_round-requires-clause-spare
run_round-requires-clause-spare g c _ _ = fresh_rooms c.args.blocks.now.sets.now c.args.blocks.now.plan.now _ c.requires.plan c.provide.ensures.spare

pub run_round-requires-clause-few : goal.run_round-requires-clause-few
run_round-requires-clause-few g c _ _ = few_blocks c.args.blocks.now.plan.now.k c.args.blocks.now.plan.now.q c.args.blocks.now.plan.now.m

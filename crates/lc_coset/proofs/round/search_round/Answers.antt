use Rattle.std.proofs.Common.{◌+◌, ◌∙◌, refl}
use Rattle.lc_coset.proofs.RoundLaws.{round_value, first_value, fresh_desks}
use Rattle.lc_coset.proofs.round.search_round.Goals as goal

pub run_round-requires-clause-spare : goal.run_round-requires-clause-spare
run_round-requires-clause-spare g c _ _ = fresh_desks c.args.frame.now c.args.phase _ _ c.requires.frame c.requires.phase c.requires.state.larger c.in_ok-provide.ensures.spare

pub take_best-requires-clause-value : goal.take_best-requires-clause-value
take_best-requires-clause-value g c = c.best.ensures ∙ c.in-Ok.ensures.best ∙ (round_value c.args.frame.now c.args.phase c.args.start c.args.count _ c.requires.phase c.requires.blocks (first_value c.args.frame.now.sets c.args.frame.now.word (c.args.phase.first + c.args.start) _ c.args.state.now.best c.requires.state.found refl).1 (first_value c.args.frame.now.sets c.args.frame.now.word (c.args.phase.first + c.args.start) _ c.args.state.now.best c.requires.state.found refl).0).0

pub take_best-requires-clause-near : goal.take_best-requires-clause-near
take_best-requires-clause-near g c = (round_value c.args.frame.now c.args.phase c.args.start c.args.count _ c.requires.phase c.requires.blocks (first_value c.args.frame.now.sets c.args.frame.now.word (c.args.phase.first + c.args.start) _ c.args.state.now.best c.requires.state.found refl).1 (first_value c.args.frame.now.sets c.args.frame.now.word (c.args.phase.first + c.args.start) _ c.args.state.now.best c.requires.state.found refl).0).1

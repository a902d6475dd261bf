use Rattle.std.proofs.Common.{rules, ◌+◌, subst}
use Rattle.std.specs.Prelude.{All}
use Rattle.lc_crew.specs.Crew.{IsReady}
use Rattle.lc_crew.proofs.CrewLaws.{both_done, one_done, all_after}
use Rattle.lc_crew.proofs.halves.+halves.Goals as goal

pub run_all-returns : goal.run_all-returns
run_all-returns g t c =
    let bs = c.args.round.now.blocks.now in
    both_done (g.B.Blocks.fits bs) (g.B.Blocks.tally bs) (λ x. g.B.Blocks.value bs (c.args.round.now.start + x)) (λ x. g.B.Blocks.share bs (c.args.round.now.start + x)) c.args.round.now.board.now c.args.workers.now _ _ _ _
    c.split_at_mut-front.ensures.value c.run_both.ensures.front c.run_both.ensures.back

pub run_all-returns-then-not-is_empty : goal.run_all-returns-then-not-is_empty
run_all-returns-then-not-is_empty g t c =
    let bs = c.args.round.now.blocks.now in
    one_done (g.B.Blocks.fits bs) (g.B.Blocks.tally bs) (λ x. g.B.Blocks.value bs (c.args.round.now.start + x)) (λ x. g.B.Blocks.share bs (c.args.round.now.start + x)) c.args.round.now.board.now c.args.workers.now c.index-workers-0.result c.run.new.worker
    (search rules) c.if-not-is_empty.ensures c.run.ensures.done c.run.ensures.room c.run.ensures.station

pub run_all-run_both-requires-clause-back : goal.run_all-run_both-requires-clause-back
run_all-run_both-requires-clause-back g t c κs within =
    let P = IsReady (g.B.Blocks.fits c.args.round.now.blocks.now) (g.B.Blocks.tally c.args.round.now.blocks.now) c.args.round.now.board.now in
    all_after P c.split_at_mut-front.result.0.now c.split_at_mut-front.result.1.now (subst (All P) c.split_at_mut-front.ensures.value c.requires.ready)

use Rattle.std.proofs.Common.{ap, ◌∙◌}
use Rattle.std.specs.Prelude.{sum_by}
use Rattle.lc_enumeration.specs.Message.{numbers_from}
use Rattle.lc_crew.specs.Crew.{least_over}
use Rattle.lc_crew.proofs.CrewLaws.{all_fit, rooms_back}
use Rattle.lc_crew.proofs.round.run_round.Goals as goal

pub returns-clause-claimed : goal.returns-clause-claimed
returns-clause-claimed g c =
    let bs = c.args.blocks.now in
    let k = c.close_all.ensures.closed (g.B.Blocks.tally bs) (g.B.Blocks.value bs) (g.B.Blocks.share bs) c.args.start c.run_list.ensures.done in
    k.0 ∙ c.in_ok-board.ensures.board.1

pub returns-clause-best : goal.returns-clause-best
returns-clause-best g c =
    let bs = c.args.blocks.now in
    let value = g.B.Blocks.value bs in
    let k = c.close_all.ensures.closed (g.B.Blocks.tally bs) value (g.B.Blocks.share bs) c.args.start c.run_list.ensures.done in
    let b = c.in_ok-board.ensures.board in
    k.1 ∙ ap (λ n. least_over value n c.args.start c.in_ok-board.board.count) b.0 ∙ ap (least_over value c.args.first c.args.start) b.1

pub returns-clause-spare : goal.returns-clause-spare
returns-clause-spare g c =
    let bs = c.args.blocks.now in
    all_fit (g.B.Blocks.fits bs) (g.B.Blocks.tally bs) c.hire.new.spare.items c.close_all.new.spare.items c.run_list.new.workers.items c.close_all.ensures.spare c.hire.ensures.spare c.run_list.ensures.rooms

pub returns-clause-sums : goal.returns-clause-sums
returns-clause-sums g c = λ j.
    let bs = c.args.blocks.now in
    let share = g.B.Blocks.share bs in
    let k = c.close_all.ensures.closed (g.B.Blocks.tally bs) (g.B.Blocks.value bs) share c.args.start c.run_list.ensures.done in
    rooms_back (g.B.Blocks.fits bs) (g.B.Blocks.tally bs) c.hire.new.spare.items c.close_all.new.spare.items _ j _ c.close_all.ensures.spare c.hire.ensures.spare
    (k.2 j ∙ ap (λ n. sum_by (λ b. share b j) (numbers_from c.args.start n)) c.in_ok-board.ensures.board.1)

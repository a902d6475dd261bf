use Rattle.std.proofs.Common.{◌+◌, ◌∙◌, arith}
use Rattle.lc_board.proofs.Callers.{owes, settled}
use Rattle.lc_crew.proofs.WorkLaws.{one_more, more_drawn, counts_low}
use Rattle.lc_crew.proofs.worker.work.Goals as goal

pub value_of-value-requires-clause-low : goal.value_of-value-requires-clause-low
value_of-value-requires-clause-low g c =
    let bs = c.args.round.now.blocks.now in
    let i = c.loop-number.invariant in
    counts_low (λ x. g.B.Blocks.value bs (c.args.round.now.start + x)) (λ x. g.B.Blocks.share bs (c.args.round.now.start + x)) c.args.round.now.board.now.count c.args.seat.now.view (g.B.Blocks.tally bs c.args.room.now) _ _ c.in-Some.number (g.B.Blocks.tally bs c.loop-number.room) i.2 c.in-Some.ensures.some.1 c.in-Some.ensures.some.0 (omega (arith, c.requires.blocks, c.requires.few)) c.requires.low i.4

pub loop-number-preserved : goal.loop-number-preserved
loop-number-preserved g c =
    let bs = c.args.round.now.blocks.now in
    let i = c.loop-number.invariant in
    let x = c.in-Some.number in
    let d = c.in-Some.ensures.some in
    let v = c.value_of-value.ensures in
    let r = c.report.ensures in (
      r.0 ∙ c.in-Some.ensures.table ∙ i.0,
      settled c.claim.new.seat.view c.report.new.seat.view x c.value_of-value.result (owes c.loop-number.seat.view c.claim.new.seat.view x i.1 d.1.0) r.1,
      one_more (λ x. g.B.Blocks.value bs (c.args.round.now.start + x)) (λ x. g.B.Blocks.share bs (c.args.round.now.start + x)) c.args.round.now.board.now.count c.args.seat.now.view (g.B.Blocks.tally bs c.args.room.now) c.loop-number.seat.view c.claim.new.seat.view c.report.new.seat.view x c.value_of-value.result (g.B.Blocks.tally bs c.loop-number.room) (g.B.Blocks.tally bs c.value_of-value.new.room) i.2 d.1 d.0 v.is r.1 v.added v.few,
      v.room,
      more_drawn _ c.loop-number.seat.view c.claim.new.seat.view c.report.new.seat.view x c.value_of-value.result d.1 r.1 i.4,
    )

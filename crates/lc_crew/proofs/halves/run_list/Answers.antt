use Rattle.std.proofs.Common.{◌+◌, arith}
use Rattle.lc_crew.proofs.CrewLaws.{written_back}
use Rattle.lc_crew.proofs.halves.run_list.Goals as goal

pub returns : goal.returns
returns g c =
    let v = c.args.workers.now in
    let bs = c.args.round.now.blocks.now in
    written_back (g.B.Blocks.fits bs) (g.B.Blocks.tally bs) (λ x. g.B.Blocks.value bs (c.args.round.now.start + x)) (λ x. g.B.Blocks.share bs (c.args.round.now.start + x)) c.args.round.now.board.now v.items c.as_mut_slice.result.now c.run_all.new.workers v.len
    c.as_mut_slice.ensures.value (omega (arith, v.ok.0)) c.run_all.auto.workers c.run_all.ensures

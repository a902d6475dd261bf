use Rattle.std.proofs.Common.{arith}
use Rattle.lc_rounds.proofs.DoneLaws.{round_done}
use Rattle.lc_rounds.proofs.round.next_round.Goals as goal

pub returns-clause-done : goal.returns-clause-done
returns-clause-done g c =
    let sets = c.dimension-dimension.ensures in
    let long = c.length-length.ensures in
    let m = c.in_ok-round.ensures.more in
    round_done c.args.pace.now c.args.search.now c.round_within.new.self c.limit_of-limit.result c.in_ok-round.round _ c.sets-sets.ensures.is sets.rows sets.independent (omega (arith, long.is, long.most)) c.requires.budget c.requires.fitting c.in_ok-round.ensures.state (c.limit_of-limit.ensures.is _ _ _)
    (omega (arith, m.0, m.2)) m.3 c.in_ok-round.ensures.record

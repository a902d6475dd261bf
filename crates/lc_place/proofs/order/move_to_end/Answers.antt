use Rattle.std.proofs.Common.{arith}
use Rattle.lc_place.proofs.Supports.{moved_to_end}
use Rattle.lc_place.proofs.order.move_to_end.Goals as goal

pub returns : goal.returns
returns c =
    let i = c.loop-later.invariant in
    record { is = moved_to_end c.args.support.now c.loop-later.support c.args.place c.args.k c.requires.inside c.requires.room i.many i.before (λ u l m. i.after u l (omega (arith, m, c.loop-later-test.false, c.loop-later.auto.later-end))) }

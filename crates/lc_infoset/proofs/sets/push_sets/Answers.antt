use Rattle.std.proofs.Common.{◌<◌, ◌≤◌, arith}
use Rattle.lc_infoset.proofs.BuildLaws.{sets_short, sets_whole}
use Rattle.lc_infoset.proofs.sets.push_sets.Goals as goal

pub returns-then-not-branch : goal.returns-then-not-branch
returns-then-not-branch c =
    let code = c.args.code.now in
    let inside : c.loop-i._i < code.columns = omega (arith, c.loop-i-test.true, c.cols-i-end.ensures.is) in
    record { are = sets_short code c.args.used.now.items c.loop-i.used.items c.args.sets.now.items c.loop-i.sets.items c.push_next.new.sets.items code.columns c.loop-i._i c.in_ok-push_next.field-0 c.loop-i.invariant inside c.if-not-branch.true c.in_ok-push_next.ensures.done }

pub returns : goal.returns
returns c =
    let code = c.args.code.now in
    let past : code.columns ≤ c.loop-i._i = omega (arith, c.loop-i-test.false, c.cols-i-end.ensures.is) in
    record { are = sets_whole code c.args.used.now.items c.loop-i.used.items c.args.sets.now.items c.loop-i.sets.items code.columns c.loop-i._i c.loop-i.invariant past }

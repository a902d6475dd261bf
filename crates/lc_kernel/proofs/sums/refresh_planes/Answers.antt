use Rattle.std.proofs.Common.{◌<◌, length, arith}
use Rattle.lc_kernel.proofs.FrontLaws.{entries_are}
use Rattle.lc_kernel.specs.PlaneSums.{symbols_in}
use Rattle.lc_kernel.proofs.PlaneSumLaws.{symbols_long}
use Rattle.lc_kernel.proofs.SumLaws.{front_put}
use Rattle.lc_kernel.proofs.sums.refresh_planes.Goals as goal

pub extend_planes-requires-clause-entries : goal.extend_planes-requires-clause-entries
extend_planes-requires-clause-entries c = (entries_are c.args.sets.now c.args.spot.now c.requires.message).many

pub extend_planes-requires-clause-row : goal.extend_planes-requires-clause-row
extend_planes-requires-clause-row c =
    let inside : c.loop-i.i < length c.args.spot.now.support = omega (arith, c.loop-i-test.true, c.requires.inside) in
    (entries_are c.args.sets.now c.args.spot.now c.requires.message).row c.loop-i.i inside

pub extend_planes-requires-clause-element : goal.extend_planes-requires-clause-element
extend_planes-requires-clause-element c =
    let inside : c.loop-i.i < length c.args.spot.now.support = omega (arith, c.loop-i-test.true, c.requires.inside) in
    let t = entries_are c.args.sets.now c.args.spot.now c.requires.message in
    (t.fitting.some c.loop-i.i (omega (arith, inside, t.many)), t.element c.loop-i.i inside)

pub loop-i-preserved : goal.loop-i-preserved
loop-i-preserved c =
    let inside : c.loop-i.i < length c.args.spot.now.support = omega (arith, c.loop-i-test.true, c.requires.inside) in
    let t = front_put c.args.sets.now c.args.spot.now c.loop-i.i (symbols_in c.loop-i.words) (symbols_in c.extend_planes.new.words) c.dimension-k.ensures.rows c.dimension-k.ensures.independent c.requires.set c.requires.message inside c.loop-i.invariant.room c.loop-i.invariant.fronts c.extend_planes.ensures.is in
    record { over = c.extend_planes.ensures.over; room = t.0; fronts = t.1 }

pub extend_planes-requires-clause-many : goal.extend_planes-requires-clause-many
extend_planes-requires-clause-many c =
    let inside : c.loop-i.i < length c.args.spot.now.support = omega (arith, c.loop-i-test.true, c.requires.inside) in
    let few = (entries_are c.args.sets.now c.args.spot.now c.requires.message).few in
    omega (arith, inside, few, c.loop-i.invariant.room.many, symbols_long c.loop-i.words)

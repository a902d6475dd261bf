use Rattle.std.proofs.Common.{◌+◌, ◌<◌, length, refl, arith}
use Rattle.lc_kernel.proofs.FrontLaws.{entries_are}
use Rattle.lc_kernel.proofs.FrontPlanes.{front_planes_put}
use Rattle.lc_kernel.proofs.fronts.refresh_planes.Goals as goal

pub offset_bounds-fronts-i : goal.offset_bounds-fronts-i
offset_bounds-fronts-i c =
    let few = (entries_are c.args.sets.now c.args.spot.now c.requires.message).few in
    omega (arith, few, c.loop-i-test.true, c.requires.inside, c.dimension-k.ensures.is, c.dimension-k.ensures.most, c.length-n.ensures.is, c.length-n.ensures.most)

pub bounds-fronts-i : goal.bounds-fronts-i
bounds-fronts-i c =
    let few = (entries_are c.args.sets.now c.args.spot.now c.requires.message).few in
    omega (arith, few, c.loop-i-test.true, c.requires.inside, c.requires.many, c.loop-i.auto.fronts)

pub offset_bounds-fronts-i-in-loop-i : goal.offset_bounds-fronts-i-in-loop-i
offset_bounds-fronts-i-in-loop-i c =
    let few = (entries_are c.args.sets.now c.args.spot.now c.requires.message).few in
    omega (arith, few, c.loop-i-test.true, c.requires.inside, c.dimension-k.ensures.is, c.dimension-k.ensures.most, c.length-n.ensures.is, c.length-n.ensures.most)

pub bounds-fronts-i-in-loop-i : goal.bounds-fronts-i-in-loop-i
bounds-fronts-i-in-loop-i c =
    let few = (entries_are c.args.sets.now c.args.spot.now c.requires.message).few in
    omega (arith, few, c.loop-i-test.true, c.requires.inside, c.requires.many, c.loop-i.auto.fronts)

pub loop-i-preserved : goal.loop-i-preserved
loop-i-preserved c =
    let few = (entries_are c.args.sets.now c.args.spot.now c.requires.message).few in
    let i = c.loop-i.i in
    let inside : i + 1 < length c.loop-i.fronts = omega (arith, few, c.loop-i-test.true, c.requires.inside, c.requires.many, c.loop-i.auto.fronts) in
    front_planes_put c.args.sets.now c.args.spot.now c.args.table.now.part c.args.table.now.grid.now.planes i c.loop-i.fronts _ c.next_front-front.result refl inside c.loop-i.invariant c.next_front-front.ensures.is

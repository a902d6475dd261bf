use Rattle.std.proofs.Common.{◌+◌, ◌<◌, length, arith}
use Rattle.lc_coset.specs.Near.{walk_matrix}
use Rattle.lc_coset.proofs.WalkLaws.{walk_rows, walk_entries, walk_put, front_fits}
use Rattle.lc_coset.proofs.walk.refresh.Goals as goal

pub extend-requires-clause-entries : goal.extend-requires-clause-entries
extend-requires-clause-entries c =
    let rows = walk_rows c.args.walk.now.sets.now c.args.walk.now.left.now c.args.walk.now.set c.dimension-k.ensures.rows c.dimension-k.ensures.independent c.requires.set c.requires.left in
    (walk_entries c.args.walk.now.sets.now c.args.walk.now.left.now c.args.walk.now.set c.args.spot.now rows c.requires.message).many

pub extend-requires-clause-row : goal.extend-requires-clause-row
extend-requires-clause-row c =
    let inside : c.loop-i.i < length c.args.spot.now.support = omega (arith, c.loop-i-test.true, c.requires.inside) in
    let rows = walk_rows c.args.walk.now.sets.now c.args.walk.now.left.now c.args.walk.now.set c.dimension-k.ensures.rows c.dimension-k.ensures.independent c.requires.set c.requires.left in
    omega (arith, (walk_entries c.args.walk.now.sets.now c.args.walk.now.left.now c.args.walk.now.set c.args.spot.now rows c.requires.message).row c.loop-i.i inside, rows.count)

pub extend-requires-clause-element : goal.extend-requires-clause-element
extend-requires-clause-element c =
    let inside : c.loop-i.i < length c.args.spot.now.support = omega (arith, c.loop-i-test.true, c.requires.inside) in
    let rows = walk_rows c.args.walk.now.sets.now c.args.walk.now.left.now c.args.walk.now.set c.dimension-k.ensures.rows c.dimension-k.ensures.independent c.requires.set c.requires.left in
    (walk_entries c.args.walk.now.sets.now c.args.walk.now.left.now c.args.walk.now.set c.args.spot.now rows c.requires.message).element c.loop-i.i inside

pub extend-requires-clause-many : goal.extend-requires-clause-many
extend-requires-clause-many c =
    let inside : c.loop-i.i < length c.args.spot.now.support = omega (arith, c.loop-i-test.true, c.requires.inside) in
    let rows = walk_rows c.args.walk.now.sets.now c.args.walk.now.left.now c.args.walk.now.set c.dimension-k.ensures.rows c.dimension-k.ensures.independent c.requires.set c.requires.left in
    let few = (walk_entries c.args.walk.now.sets.now c.args.walk.now.left.now c.args.walk.now.set c.args.spot.now rows c.requires.message).few in
    omega (arith, inside, few, c.loop-i.invariant.many)

pub extend-requires-clause-word : goal.extend-requires-clause-word
extend-requires-clause-word c =
    let rows = walk_rows c.args.walk.now.sets.now c.args.walk.now.left.now c.args.walk.now.set c.dimension-k.ensures.rows c.dimension-k.ensures.independent c.requires.set c.requires.left in
    front_fits (walk_matrix c.args.walk.now.sets.now c.args.walk.now.left.now c.args.walk.now.set) c.args.spot.now c.loop-i.i c.loop-i.sums rows.words c.loop-i.invariant

pub extend-requires-clause-long : goal.extend-requires-clause-long
extend-requires-clause-long c =
    let inside : c.loop-i.i < length c.args.spot.now.support = omega (arith, c.loop-i-test.true, c.requires.inside) in
    let rows = walk_rows c.args.walk.now.sets.now c.args.walk.now.left.now c.args.walk.now.set c.dimension-k.ensures.rows c.dimension-k.ensures.independent c.requires.set c.requires.left in
    let few = (walk_entries c.args.walk.now.sets.now c.args.walk.now.left.now c.args.walk.now.set c.args.spot.now rows c.requires.message).few in
    c.loop-i.invariant.long (c.loop-i.i + 1) (omega (arith, inside, few, c.loop-i.invariant.many))

pub loop-i-preserved : goal.loop-i-preserved
loop-i-preserved c =
    let C = c.args.walk.now.sets.now in
    let inside : c.loop-i.i < length c.args.spot.now.support = omega (arith, c.loop-i-test.true, c.requires.inside) in
    let rows = walk_rows C c.args.walk.now.left.now c.args.walk.now.set c.dimension-k.ensures.rows c.dimension-k.ensures.independent c.requires.set c.requires.left in
    let e = walk_entries C c.args.walk.now.left.now c.args.walk.now.set c.args.spot.now rows c.requires.message in
    walk_put (walk_matrix C c.args.walk.now.left.now c.args.walk.now.set) c.args.spot.now c.loop-i.i c.loop-i.sums c.extend.new.sums rows.words e inside c.loop-i.invariant c.extend.ensures.is

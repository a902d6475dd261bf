use Rattle.std.proofs.Common.{◌-◌, ◌≤◌, length, slice_index, subst, arith}
use Rattle.std.proofs.lemmas.Option.{slice_get_within}
use Rattle.lc_enumeration.specs.Message.{supports_from}
use Rattle.lc_kernel.specs.Packed.{tail_of}
use Rattle.lc_kernel.proofs.SupportLaws.{tails_few}
use Rattle.lc_kernel.proofs.RunLaws.{TripleRead, IsTailAt, triple_read, tail_found}
use Rattle.lc_kernel.proofs.runs.tail_index.Goals.{Else-table-eq2, After-index-2}
use Rattle.lc_kernel.proofs.runs.tail_index.Goals as goal

-- what the code reads at the last three places of the spot
read : (c : Else-table-eq2) → TripleRead c.args.sets.now c.args.spot.now c.args.table.now.pairs.items c.pair_index-pair.result
read c =
    let s = c.args.spot.now in
    let pairs = c.args.table.now.pairs.items in
    let r = c.pair_index-pair.result in
    let from : slice_index pairs (slice_index s.support (length s.support - 2)) ≤ r = subst (λ z. slice_index z (slice_index s.support (length s.support - 2)) ≤ r) c.deref.ensures.value c.pair_index-pair.ensures.from in
    triple_read c.args.sets.now s pairs r c.requires.table.pairs c.requires.message (omega (arith, c.requires.table.least, c.if-table-eq2.false, c.requires.level)) from

-- the tail of the spot is where the code looks for it
found : (c : After-index-2) → TripleRead c.args.sets.now c.args.spot.now c.args.table.now.pairs.items c.pair_index-pair.result → IsTailAt c.args.sets.now c.args.spot.now c.args.table.now.tail c.pair_index-pair.result c.index.result.now c.index-2.result.now
found c r =
    let table = c.args.table.now in
    tail_found c.args.sets.now c.args.spot.now table.pairs.items table.starts.items c.support-support.result.now table.tail c.pair_index-pair.result c.index.result.now c.index-2.result.now c.requires.table.pairs c.requires.table.starts (omega (arith, c.requires.table.least, c.requires.table.most, c.if-table-eq2.false)) r c.requires.level c.support-support.ensures.places c.pair_index-pair.ensures.is c.index.ensures c.index-2.ensures

pub index-requires : goal.index-requires
index-requires c =
    let r = read (goal.at.index-requires c).Else-table-eq2 in
    rw c.support-support.ensures.places (omega (arith, r.inside, c.requires.table.starts.firsts, c.args.table.now.starts.ok.0))

pub overflow_add-first : goal.overflow_add-first
overflow_add-first c =
    let r = read (goal.at.overflow_add-first c).Else-table-eq2 in
    rw c.support-support.ensures.places (omega (arith, r.inside, c.dimension-k.ensures.is, c.dimension-k.ensures.most, c.length-n.ensures.is, c.length-n.ensures.most))

pub index-requires-2 : goal.index-requires-2
index-requires-2 c =
    let r = read (goal.at.index-requires-2 c).Else-table-eq2 in
    rw c.support-support.ensures.places (omega (arith, r.inside, c.requires.table.pairs.firsts, c.args.table.now.pairs.ok.0))

pub overflow_sub-result : goal.overflow_sub-result
overflow_sub-result c =
    let at = goal.at.overflow_sub-result c in
    (found at.After-index-2 (read at.Else-table-eq2)).after

pub overflow_add-result : goal.overflow_add-result
overflow_add-result c =
    let at = goal.at.overflow_add-result c in
    let C = c.args.sets.now in
    let table = c.args.table.now in
    let few = tails_few (length C.rows) table.tail c.requires.table.least c.requires.table.most (omega (arith, c.dimension-k.ensures.is, c.dimension-k.ensures.most, c.length-n.ensures.is, c.length-n.ensures.most)) in
    omega (arith, few, slice_get_within (supports_from 0 (length C.rows) table.tail) _ (tail_of table.tail c.args.spot.now) (found at.After-index-2 (read at.Else-table-eq2)).is)

pub returns-clause-is : goal.returns-clause-is
returns-clause-is c =
    let at = goal.at.returns-clause-is c in
    (found at.After-index-2 (read at.Else-table-eq2)).is

pub returns-clause-inside : goal.returns-clause-inside
returns-clause-inside c =
    let at = goal.at.returns-clause-inside c in
    slice_get_within (supports_from 0 (length c.args.sets.now.rows) c.args.table.now.tail) _ (tail_of c.args.table.now.tail c.args.spot.now) (found at.After-index-2 (read at.Else-table-eq2)).is

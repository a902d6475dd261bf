use Rattle.std.proofs.Common.{length, arith}
use Rattle.std.proofs.lemmas.Option.{slice_get_within}
use Rattle.lc_enumeration.specs.Message.{supports_from}
use Rattle.lc_kernel.specs.Packed.{pair_of}
use Rattle.lc_kernel.proofs.SupportLaws.{pairs_few}
use Rattle.lc_kernel.proofs.RunLaws.{pair_read, index_of_pair}
use Rattle.lc_kernel.proofs.runs.pair_index.Goals as goal

pub bounds-starts-first : goal.bounds-starts-first
bounds-starts-first c =
    let p = pair_read c.args.sets.now c.args.spot.now c.args.starts.now c.requires.starts c.requires.message c.requires.level in
    rw c.support-support.ensures.places (omega (arith, p.started))

pub overflow_sub-result : goal.overflow_sub-result
overflow_sub-result c =
    let p = pair_read c.args.sets.now c.args.spot.now c.args.starts.now c.requires.starts c.requires.message c.requires.level in
    rw c.support-support.ensures.places (omega (arith, p.rises))

pub overflow_sub-result-2 : goal.overflow_sub-result-2
overflow_sub-result-2 c =
    let p = pair_read c.args.sets.now c.args.spot.now c.args.starts.now c.requires.starts c.requires.message c.requires.level in
    rw c.support-support.ensures.places (omega (arith, p.rises))

pub overflow_add-result : goal.overflow_add-result
overflow_add-result c =
    let r = index_of_pair c.args.sets.now c.args.spot.now c.args.starts.now c.requires.starts c.requires.message c.requires.level in
    let few = pairs_few (length c.args.sets.now.rows) (omega (arith, c.dimension-k.ensures.is, c.dimension-k.ensures.most, c.length-n.ensures.is, c.length-n.ensures.most)) in
    rw c.support-support.ensures.places (omega (arith, few, slice_get_within (supports_from 0 (length c.args.sets.now.rows) 2) _ (pair_of c.args.spot.now) r))

pub returns-clause-is : goal.returns-clause-is
returns-clause-is c = rw c.support-support.ensures.places (index_of_pair c.args.sets.now c.args.spot.now c.args.starts.now c.requires.starts c.requires.message c.requires.level)

pub returns-clause-inside : goal.returns-clause-inside
returns-clause-inside c =
    let r = index_of_pair c.args.sets.now c.args.spot.now c.args.starts.now c.requires.starts c.requires.message c.requires.level in
    rw c.support-support.ensures.places (slice_get_within (supports_from 0 (length c.args.sets.now.rows) 2) _ (pair_of c.args.spot.now) r)

pub offset_bounds-starts-first : goal.offset_bounds-starts-first
offset_bounds-starts-first c =
    let p = pair_read c.args.sets.now c.args.spot.now c.args.starts.now c.requires.starts c.requires.message c.requires.level in
    rw c.support-support.ensures.places (omega (arith, p.started, c.requires.starts.firsts, c.dimension-k.ensures.is, c.dimension-k.ensures.most, c.length-n.ensures.is, c.length-n.ensures.most))

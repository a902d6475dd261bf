use Rattle.std.proofs.Common.{◌<◌, ◌^◌, length, refl, ap, ◌∙◌, arith, rules}
use Rattle.lc_enumeration.specs.Search.{block_words}
use Rattle.lc_kernel.proofs.BlockLaws.{phase_in_plan}
use Rattle.lc_kernel.proofs.FrontLaws.{entries_are}
use Rattle.lc_enumeration.proofs.SearchLaws.{few_in_block}
use Rattle.lc_kernel.proofs.ScanLaws.{phase_same}
use Rattle.lc_kernel.proofs.RoomLaws.{written_length}
use Rattle.lc_kernel.proofs.TailLaws.{least_of_block}
use Rattle.lc_kernel.proofs.tails.by_tails.Goals as goal

pub overflow_mul-result : goal.overflow_mul-result
overflow_mul-result c =
    let few = (entries_are c.args.block.now.sets.now c.args.room.now.spot c.requires.at.message).few in
    omega (arith, c.least_words-least.ensures.few, few, ap length c.support.ensures.places, c.args.block.now.few)

pub overflow_add-result-2 : goal.overflow_add-result-2
overflow_add-result-2 c =
    let at : c.least_words-least.result.1 < 4096 = omega (arith, c.least_words-least.ensures.is.inside, few_in_block c.args.block.now.sets.now c.args.block.now.plan.now.m c.args.block.now.number) in
    omega (arith, at, c.args.block.now.small)

pub overflow_add-result-3 : goal.overflow_add-result-3
overflow_add-result-3 c =
    let C = c.args.block.now.sets.now in
    let few = (entries_are C c.args.room.now.spot c.requires.at.message).few in
    let at : c.least_words-least.result.1 < 4096 = omega (arith, c.least_words-least.ensures.is.inside, few_in_block C c.args.block.now.plan.now.m c.args.block.now.number) in
    omega (arith, c.least_words-least.ensures.few, at, few, ap length c.support.ensures.places, c.args.block.now.few, c.args.block.now.small)

pub returns-clause-is : goal.returns-clause-is
returns-clause-is c =
    let C = c.args.block.now.sets.now in
    let plan = c.args.block.now.plan.now in
    let b = c.args.block.now.number in
    let found = phase_in_plan c.args.block.now in
    let phase = phase_same C plan found.0 b c.args.block.now.planned found.1 in
    let small : b < 2 ^ 40 = c.args.block.now.small in
    least_of_block C plan found.0 b (length c.support.result.now) (length (block_words C plan.m b)) c.least_words-least.result.0 c.least_words-least.result.1 c.args.room.now.spot c.args.block.now.planned c.args.block.now.rows c.args.block.now.independent c.requires.set phase small c.requires.at (ap length c.support.ensures.places) refl c.least_words-least.ensures.is

pub returns-clause-room : goal.returns-clause-room
returns-clause-room c = record {
  spot = search rules;
  fronts = written_length c.args.room.now.fronts.len c.least_words-least.new.fronts c.args.room.now.fronts.items (c.least_words-least.auto.fronts ∙ ap length c.deref_mut.ensures.value) (omega (arith, c.args.room.now.fronts.ok.0));
  places = written_length c.args.room.now.places.len c.least_words-least.new.places c.args.room.now.places.items (c.least_words-least.auto.places ∙ ap length c.deref_mut-2.ensures.value) (omega (arith, c.args.room.now.places.ok.0));
  tops = written_length c.args.room.now.tops.len c.least_words-least.new.tops c.args.room.now.tops.items (c.least_words-least.auto.tops ∙ ap length c.deref_mut-3.ensures.value) (omega (arith, c.args.room.now.tops.ok.0));
  counts = written_length c.args.room.now.counts.len c.least_words-least.new.counts c.args.room.now.counts.items (c.least_words-least.auto.counts ∙ ap length c.deref_mut-4.ensures.value) (omega (arith, c.args.room.now.counts.ok.0));
}

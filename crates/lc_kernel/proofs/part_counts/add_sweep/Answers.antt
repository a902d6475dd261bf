use Rattle.std.proofs.Common.{rules, ◌≡◌, ◌+◌, ◌-◌, ◌≤◌, length, ap, ◌∙◌, arith}
use Rattle.lc_algebra.specs.Field.{size}
use Rattle.lc_algebra.proofs.FieldLaws.{one_inside}
use Rattle.lc_enumeration.specs.Search.{block_words}
use Rattle.lc_kernel.specs.Packed.{others}
use Rattle.lc_kernel.specs.Sweeps.{list_count}
use Rattle.lc_distances.proofs.LeastLaws.{piece_long}
use Rattle.lc_distances.proofs.PartLaws.{part_start, part_end, part_piece, part_joined}
use Rattle.lc_kernel.proofs.SweepLaws.{listed_start, lists_few, lists_there}
use Rattle.lc_kernel.proofs.part_counts.add_sweep.Goals as goal

pub list_of-list-requires-clause-few : goal.list_of-list-requires-clause-few
list_of-list-requires-clause-few c = lists_few (size c.args.block.now.sets.now.field - 1) (length c.args.spot.now.support) c.requires.level (omega (arith, one_inside c.args.block.now.sets.now.field)) (omega (arith, c.nonzero-elements.ensures.is, c.nonzero-elements.ensures.most)) (omega (arith, c.requires.many, c.requires.few))

pub make_heads-requires-clause-rises : goal.make_heads-requires-clause-rises
make_heads-requires-clause-rises c = (listed_start _ _ _ 0 _ _ _ c.args.spot.now c.set-set.ensures (c.copy_from_slice.ensures.after ∙ c.support.ensures.places) c.requires.at c.requires.level c.list_of-list.ensures.is).rises

pub loop-counts-init : goal.loop-counts-init
loop-counts-init c =
    let C = c.args.block.now.sets.now in
    let s = c.args.spot.now in
    let same : c.copy_from_slice.new.self ≡ s.support = c.copy_from_slice.ensures.after ∙ c.support.ensures.places in
    record {
      inside = c.requires.some;
      at = listed_start _ _ _ 0 _ _ _ s c.set-set.ensures same c.requires.at c.requires.level c.list_of-list.ensures.is;
      lists = ap (λ u. list_count C (length u)) same ∙ lists_there C (length s.support) (length c.make_heads.new.heads) c.nonzero-elements.result c.requires.level (c.make_heads.auto.heads ∙ c.requires.many) c.nonzero-elements.ensures.is;
      heads = c.make_heads.ensures.heads;
      counted = rw c.set-set.ensures (part_start (others C s.set) c.args.table.now.part (length c.args.counts.now) (block_words C c.args.block.now.plan.now.m c.args.block.now.number) c.args.counts.now c.requires.counted);
    }

pub add_support-requires-clause-lists : goal.add_support-requires-clause-lists
add_support-requires-clause-lists c =
    let done = c.loop-counts.done in
    let end = done + c.words_left-count.result in
    let within : end ≤ length c.loop-counts.counts = omega (arith, c.words_left-count.ensures.within, c.loop-counts.auto.counts, c.loop-counts.invariant.inside) in
    omega (arith, c.loop-counts.invariant.lists, piece_long done end c.loop-counts.counts within, c.words_left-count.ensures.lists)

pub add_support-requires-clause-words : goal.add_support-requires-clause-words
add_support-requires-clause-words c =
    let done = c.loop-counts.done in
    let end = done + c.words_left-count.result in
    let within : end ≤ length c.loop-counts.counts = omega (arith, c.words_left-count.ensures.within, c.loop-counts.auto.counts, c.loop-counts.invariant.inside) in
    omega (arith, piece_long done end c.loop-counts.counts within, within, c.loop-counts.auto.counts, c.requires.words)

pub add_support-requires-clause-counted : goal.add_support-requires-clause-counted
add_support-requires-clause-counted c =
    part_piece (others c.args.block.now.sets.now c.set-set.result) c.args.table.now.part c.loop-counts.done (c.loop-counts.done + c.words_left-count.result) (length c.args.counts.now) (block_words c.args.block.now.sets.now c.args.block.now.plan.now.m c.args.block.now.number) c.loop-counts.counts c.loop-counts.invariant.counted c.loop-counts.auto.counts
    (omega (arith, c.words_left-count.ensures.within, c.loop-counts.auto.counts, c.loop-counts.invariant.inside))

pub turn-requires-clause-end : goal.turn-requires-clause-end
turn-requires-clause-end c = omega (arith, c.loop-counts.invariant.lists, c.words_left-count.ensures.end, c.if-end-counts.false, c.add_support.auto.counts, c.loop-counts.auto.counts, c.words_left-count.ensures.lists, c.words_left-count.ensures.within)

pub returns-then-end-counts : goal.returns-then-end-counts
returns-then-end-counts c =
    let C = c.args.block.now.sets.now in
    let ws = block_words C c.args.block.now.plan.now.m c.args.block.now.number in
    let end = c.loop-counts.done + c.words_left-count.result in
    let within : end ≤ length c.args.counts.now = omega (arith, c.words_left-count.ensures.within, c.loop-counts.auto.counts, c.loop-counts.invariant.inside) in
    let next = part_joined (others C c.set-set.result) c.args.table.now.part c.loop-counts.done end (length c.args.counts.now) ws c.loop-counts.counts c.add_support.new.counts c.loop-counts.invariant.counted c.loop-counts.auto.counts (omega arith) within c.add_support.ensures.counted c.add_support.auto.counts in
    record { counted = rw (← c.set-set.ensures) (part_end (others C c.set-set.result) c.args.table.now.part end (length c.args.counts.now) ws _ (omega (arith, c.if-end-counts.true, c.loop-counts.auto.counts)) next) }

pub loop-counts-preserved : goal.loop-counts-preserved
loop-counts-preserved c =
    let C = c.args.block.now.sets.now in
    let ws = block_words C c.args.block.now.plan.now.m c.args.block.now.number in
    let end = c.loop-counts.done + c.words_left-count.result in
    let within : end ≤ length c.args.counts.now = omega (arith, c.words_left-count.ensures.within, c.loop-counts.auto.counts, c.loop-counts.invariant.inside) in
    record {
      inside = search rules;
      at = search rules;
      lists = search rules;
      heads = search rules;
      counted = part_joined (others C c.set-set.result) c.args.table.now.part c.loop-counts.done end (length c.args.counts.now) ws c.loop-counts.counts c.add_support.new.counts c.loop-counts.invariant.counted c.loop-counts.auto.counts (omega arith) within c.add_support.ensures.counted c.add_support.auto.counts;
    }

use Rattle.std.proofs.Common.{rules, ◌≡◌, ◌-◌, [], ℕ, length, slice_index_or, ap, ◌∙◌, arith}
use Rattle.std.proofs.lemmas.List.{length-take}
use Rattle.lc_algebra.specs.Field.{size}
use Rattle.lc_algebra.specs.Word.{weight}
use Rattle.lc_algebra.specs.SpanLaws.{restrict}
use Rattle.lc_algebra.proofs.FieldLaws.{one_inside}
use Rattle.lc_enumeration.specs.Search.{block_words}
use Rattle.lc_kernel.specs.Packed.{others}
use Rattle.lc_kernel.specs.Sweeps.{list_count}
use Rattle.lc_distances.proofs.LeastLaws.{below_none, below_joined}
use Rattle.lc_kernel.proofs.SweepLaws.{listed_start, lists_few, lists_there}
use Rattle.lc_kernel.proofs.sweeps.least_sweeps.Goals as goal

pub list_of-list-requires-clause-few : goal.list_of-list-requires-clause-few
list_of-list-requires-clause-few c = lists_few (size c.args.block.now.sets.now.field - 1) (length c.args.spot.now.support) c.requires.level (omega (arith, one_inside c.args.block.now.sets.now.field)) (omega (arith, c.nonzero-elements.ensures.is, c.nonzero-elements.ensures.most)) (omega (arith, c.requires.many, c.requires.few))

pub make_heads-requires-clause-rises : goal.make_heads-requires-clause-rises
make_heads-requires-clause-rises c = (listed_start _ _ _ 0 _ _ _ c.args.spot.now c.set-set.ensures (c.copy_from_slice.ensures.after ∙ c.support.ensures.places) c.requires.at c.requires.level c.list_of-list.ensures.is).rises

pub loop-counts-init : goal.loop-counts-init
loop-counts-init c =
    let C = c.args.block.now.sets.now in
    let s = c.args.spot.now in
    let same : c.copy_from_slice.new.self ≡ s.support = c.copy_from_slice.ensures.after ∙ c.support.ensures.places in
    record {
      inside = c.requires.some;
      at = listed_start _ _ _ 0 _ _ _ s c.set-set.ensures same c.requires.at c.requires.level c.list_of-list.ensures.is;
      lists = ap (λ u. list_count C (length u)) same ∙ lists_there C (length s.support) (length c.make_heads.new.heads) c.nonzero-elements.result c.requires.level (c.make_heads.auto.heads ∙ c.requires.many) c.nonzero-elements.ensures.is;
      heads = c.make_heads.ensures.heads;
      first = below_none _ 256;
    }

pub least_support-other-requires-clause-lists : goal.least_support-other-requires-clause-lists
least_support-other-requires-clause-lists c = omega (arith, c.loop-counts.invariant.lists, length-take c.words_left-count.result c.loop-counts.counts, c.words_left-count.ensures.lists)

pub turn-requires-clause-end : goal.turn-requires-clause-end
turn-requires-clause-end c = omega (arith, c.loop-counts.invariant.lists, c.words_left-count.ensures.end, c.if-done-count.false, c.words_left-count.ensures.lists, c.words_left-count.ensures.within)

pub returns-then-done-count : goal.returns-then-done-count
returns-then-done-count c =
    let f : ℕ → ℕ = λ i. weight (restrict (others c.args.block.now.sets.now c.set-set.result) (slice_index_or (block_words c.args.block.now.sets.now c.args.block.now.plan.now.m c.args.block.now.number) i [])) in
    record { is = rw (← c.set-set.ensures) (below_joined _ _ _ f 256 _ _ _ _ _ _ c.loop-counts.invariant.first c.least_support-other.ensures.is c.joined-best.ensures.taken c.joined-best.ensures.kept (omega (arith, length-take c.words_left-count.result c.loop-counts.counts, c.words_left-count.ensures.within, c.if-done-count.true, c.loop-counts.auto.counts, c.loop-counts.invariant.inside))) }

pub loop-counts-preserved : goal.loop-counts-preserved
loop-counts-preserved c = record {
  inside = search rules;
  at = search rules;
  lists = search rules;
  heads = search rules;
  first = below_joined _ _ _ _ 256 _ _ _ _ _ _ c.loop-counts.invariant.first c.least_support-other.ensures.is c.joined-best.ensures.taken c.joined-best.ensures.kept (omega (arith, length-take c.words_left-count.result c.loop-counts.counts, c.words_left-count.ensures.within, c.loop-counts.auto.counts, c.loop-counts.invariant.inside));
}

use Rattle.std.proofs.Common.{◌≡◌, ◌++◌, ◌≤◌, ◌<◌, ◌^◌, length, take, drop, slice_index, sym, ap, subst, ◌∙◌, arith}
use Rattle.std.proofs.Math.Seq.{take-append_seam}
use Rattle.std.proofs.lemmas.List.{length-take, length-take-le}
use Rattle.lc_enumeration.specs.Search.{block_words}
use Rattle.lc_kernel.specs.Packed.{others}
use Rattle.lc_distances.specs.Least.{IsFirstLeast, AreCounted}
use Rattle.lc_kernel.proofs.BlockLaws.{phase_in_plan}
use Rattle.lc_kernel.proofs.FrontLaws.{entries_are}
use Rattle.lc_kernel.proofs.PackLaws.{others_few}
use Rattle.lc_kernel.proofs.ScanLaws.{phase_same, words_of_block}
use Rattle.lc_distances.proofs.LeastLaws.{counted_first}
use Rattle.lc_kernel.proofs.RunLaws.{counted_few}
use Rattle.lc_kernel.proofs.TailLaws.{least_of_block}
use Rattle.lc_kernel.proofs.runs.by_runs.Goals.{After-count_block}
use Rattle.lc_kernel.proofs.runs.by_runs.Goals as goal

pub count_block-requires-clause-words : goal.count_block-requires-clause-words
count_block-requires-clause-words c =
    let found = phase_in_plan c.args.block.now in
    let long = words_of_block c.args.block.now.sets.now c.args.block.now.plan.now found.0 c.args.block.now.number c.block_len-len.result c.args.block.now.planned found.1 (c.block_len-len.ensures.exact found.0 found.1) in
    length-take-le c.block_len-len.result c.args.counts.now (omega (arith, c.block_len-len.ensures.few, c.requires.room)) ∙ sym long

-- the counts that the code searches are those that it made
same_counts : (c : After-count_block) → take c.block_len-len.result (c.count_block.new.counts ++ drop c.block_len-len.result c.args.counts.now) ≡ c.count_block.new.counts
same_counts c =
    let n = c.block_len-len.result in
    let old = c.args.counts.now in
    let new = c.count_block.new.counts in
    let long : length (take n old) ≡ n = length-take-le n old (omega (arith, c.block_len-len.ensures.few, c.requires.room)) in
    ap (λ z. take z (new ++ drop n old)) (sym (c.count_block.auto.counts ∙ long)) ∙ take-append_seam new (drop n old)

pub first_least-least-requires-clause-few : goal.first_least-least-requires-clause-few
first_least-least-requires-clause-few c i l =
    let C = c.args.block.now.sets.now in
    let cols = others C c.args.spot.now.set in
    let same = same_counts (goal.at.first_least-least-requires-clause-few c).After-count_block in
    let few : length cols ≤ 255 = omega (arith, others_few C c.args.spot.now.set, c.args.block.now.short) in
    rw same (counted_few C c.args.block.now.plan.now.m c.args.block.now.number 0 (length (take c.block_len-len.result c.args.counts.now)) cols c.count_block.new.counts few c.count_block.ensures.counted i (omega (arith, l, ap length same, c.count_block.auto.counts)))

pub overflow_mul-result : goal.overflow_mul-result
overflow_mul-result c =
    let few = (entries_are c.args.block.now.sets.now c.args.spot.now c.requires.at.message).few in
    omega (arith, c.first_least-least.ensures.few, few, ap length c.support.ensures.places, c.args.block.now.few)

pub overflow_add-result-3 : goal.overflow_add-result-3
overflow_add-result-3 c =
    let few = (entries_are c.args.block.now.sets.now c.args.spot.now c.requires.at.message).few in
    let L = take c.block_len-len.result (c.count_block.new.counts ++ drop c.block_len-len.result c.args.counts.now) in
    let inside : c.first_least-least.result.1 < length L = c.first_least-least.ensures.inside in
    let short = length-take c.block_len-len.result (c.count_block.new.counts ++ drop c.block_len-len.result c.args.counts.now) in
    let at : c.first_least-least.result.1 < 4096 = omega (arith, inside, short, c.block_len-len.ensures.few) in
    omega (arith, c.first_least-least.ensures.few, at, few, ap length c.support.ensures.places, c.args.block.now.few, c.args.block.now.small)

pub returns-clause-is : goal.returns-clause-is
returns-clause-is c =
    let C = c.args.block.now.sets.now in
    let plan = c.args.block.now.plan.now in
    let b = c.args.block.now.number in
    let n = c.block_len-len.result in
    let old = c.args.counts.now in
    let new = c.count_block.new.counts in
    let found = phase_in_plan c.args.block.now in
    let phase = phase_same C plan found.0 b c.args.block.now.planned found.1 in
    let small : b < 2 ^ 40 = c.args.block.now.small in
    let words : length (block_words C plan.m b) ≡ n = words_of_block C plan found.0 b n c.args.block.now.planned found.1 (c.block_len-len.ensures.exact found.0 found.1) in
    let long : length (take n old) ≡ n = length-take-le n old (omega (arith, c.block_len-len.ensures.few, c.requires.room)) in
    let same = same_counts (goal.at.returns-clause-is c).After-count_block in
    let cols = others C c.args.spot.now.set in
    let ws = block_words C plan.m b in
    let counted : AreCounted cols ws 0 (length new) new = subst (λ x. AreCounted cols ws 0 x new) (sym c.count_block.auto.counts) c.count_block.ensures.counted in
    let first : IsFirstLeast (length new) (λ i. slice_index new i) c.first_least-least.result.0 c.first_least-least.result.1 = subst (λ x. IsFirstLeast (length x) (λ i. slice_index x i) c.first_least-least.result.0 c.first_least-least.result.1) same c.first_least-least.ensures.is in
    least_of_block C plan found.0 b (length c.support.result.now) (length new) c.first_least-least.result.0 c.first_least-least.result.1 c.args.spot.now c.args.block.now.planned c.args.block.now.rows c.args.block.now.independent c.requires.set phase small c.requires.at (ap length c.support.ensures.places) (c.count_block.auto.counts ∙ long ∙ sym words) (counted_first (length new) cols ws new c.first_least-least.result.0 c.first_least-least.result.1 counted first)

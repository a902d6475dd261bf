use Rattle.std.proofs.Common.{◌≤◌, ◌≡◌, ◌<◌, [], ℕ, length, take, slice_index_or, subst, ◌∙◌, arith}
use Rattle.std.proofs.lemmas.List.{length-take-le}
use Rattle.lc_algebra.specs.Word.{weight}
use Rattle.lc_algebra.specs.SpanLaws.{restrict}
use Rattle.lc_enumeration.specs.Search.{block_words}
use Rattle.lc_distances.specs.Least.{IsFirstLeast}
use Rattle.lc_kernel.specs.Packed.{others}
use Rattle.lc_distances.proofs.LeastLaws.{below_whole}
use Rattle.lc_kernel.proofs.BlockLaws.{phase_of_block}
use Rattle.lc_kernel.proofs.ScanLaws.{counts_cut}
use Rattle.lc_kernel.proofs.TailLaws.{outside_few}
use Rattle.lc_kernel.proofs.fronts.least_words.Goals.{After-block_len-len}
use Rattle.lc_kernel.proofs.fronts.least_words.Goals as goal

-- there is a count for each word of the block
cut : (c : After-block_len-len) → length (take c.block_len-len.result c.args.counts.now) ≡ length (block_words c.args.at.now.block.now.sets.now c.args.at.now.block.now.plan.now.m c.args.at.now.block.now.number)
cut c = counts_cut c.args.at.now.block.now.sets.now c.args.at.now.block.now.plan.now c.args.at.now.block.now.number c.block_len-len.result c.args.counts.now c.args.at.now.block.now.planned (phase_of_block c.args.at.now.block.now) c.block_len-len.ensures.exact c.block_len-len.ensures.few c.requires.counts

-- there is one
some : (c : After-block_len-len) → 0 < length (take c.block_len-len.result c.args.counts.now)
some c = omega (arith, length-take-le c.block_len-len.result c.args.counts.now (omega (arith, c.block_len-len.ensures.few, c.requires.counts)), c.block_len-len.ensures.some)

-- the number of nonzero symbols, outside the basis of a set, of word i of the block
abbrev outside : After-block_len-len → ℕ → ℕ → ℕ
outside c j i = weight (restrict (others c.args.at.now.block.now.sets.now j) (slice_index_or (block_words c.args.at.now.block.now.sets.now c.args.at.now.block.now.plan.now.m c.args.at.now.block.now.number) i []))

pub count_fronts-requires-clause-words : goal.count_fronts-requires-clause-words
count_fronts-requires-clause-words c = cut (goal.at.count_fronts-requires-clause-words c).After-block_len-len

pub returns-in_default-clause-is : goal.returns-in_default-clause-is
returns-in_default-clause-is c =
    let a = (goal.at.returns-in_default-clause-is c).After-block_len-len in
    let r = c.first_counted.result in
    let of_set : IsFirstLeast (length c.count_fronts.new.counts) (outside a c.args.spot.now.set) r.0 r.1 = subst (λ j. IsFirstLeast (length c.count_fronts.new.counts) (outside a j) r.0 r.1) c.set-set.ensures c.first_counted.ensures.is in
    subst (λ n. IsFirstLeast n (outside a c.args.spot.now.set) r.0 r.1) (c.count_fronts.auto.counts ∙ cut a) of_set

pub least_sweeps-requires-clause-words : goal.least_sweeps-requires-clause-words
least_sweeps-requires-clause-words c = cut (goal.at.least_sweeps-requires-clause-words c).After-block_len-len

pub returns-then-len-eq1-clause-is : goal.returns-then-len-eq1-clause-is
returns-then-len-eq1-clause-is c =
    let a = (goal.at.returns-then-len-eq1-clause-is c).After-block_len-len in
    let C = c.args.at.now.block.now.sets.now in
    let j = c.args.spot.now.set in
    let n = length (take c.block_len-len.result c.args.counts.now) in
    let r = c.least_sweeps.result in
    let few : (i : ℕ) → outside a j i ≤ 255 = λ i. outside_few C j (slice_index_or (block_words C c.args.at.now.block.now.plan.now.m c.args.at.now.block.now.number) i []) (omega (arith, c.args.at.now.block.now.short)) in
    let first : IsFirstLeast n (outside a j) r.0 r.1 = below_whole n (outside a j) 256 r.0 r.1 (some a) (λ i l. omega (arith, few i)) c.least_sweeps.ensures.is in
    subst (λ n. IsFirstLeast n (outside a j) r.0 r.1) (cut a) first

pub returns-then-len-eq1-clause-few : goal.returns-then-len-eq1-clause-few
returns-then-len-eq1-clause-few c =
    let a = (goal.at.returns-then-len-eq1-clause-few c).After-block_len-len in
    let C = c.args.at.now.block.now.sets.now in
    let j = c.args.spot.now.set in
    let w = slice_index_or (block_words C c.args.at.now.block.now.plan.now.m c.args.at.now.block.now.number) 0 [] in
    omega (arith, c.least_sweeps.ensures.is.low 0 (some a), outside_few C j w (omega (arith, c.args.at.now.block.now.short)))

pub count_sweeps-requires-clause-words : goal.count_sweeps-requires-clause-words
count_sweeps-requires-clause-words c = cut (goal.at.count_sweeps-requires-clause-words c).After-block_len-len

pub returns-clause-is : goal.returns-clause-is
returns-clause-is c =
    let a = (goal.at.returns-clause-is c).After-block_len-len in
    let r = c.first_counted-2.result in
    let of_set : IsFirstLeast (length c.count_sweeps.new.counts) (outside a c.args.spot.now.set) r.0 r.1 = subst (λ j. IsFirstLeast (length c.count_sweeps.new.counts) (outside a j) r.0 r.1) c.set-set.ensures c.first_counted-2.ensures.is in
    subst (λ n. IsFirstLeast n (outside a c.args.spot.now.set) r.0 r.1) (c.count_sweeps.auto.counts ∙ cut a) of_set

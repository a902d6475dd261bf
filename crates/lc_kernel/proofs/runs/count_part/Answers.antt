use Rattle.std.proofs.Common.{◌≡◌, ℕ, ◌+◌, ◌-◌, ◌*◌, ◌<◌, ◌≤◌, List, [], length, take, drop, bit_xor, count_ones, slice_index, slice_index_or, sym, ap, ◌∙◌, arith}
use Rattle.std.proofs.lemmas.List.{length-take}
use Rattle.lc_algebra.specs.Word.{weight}
use Rattle.lc_algebra.specs.SpanLaws.{restrict}
use Rattle.lc_enumeration.specs.Search.{block_words}
use Rattle.lc_distances.specs.Least.{AreCounted}
use Rattle.lc_kernel.specs.Packed.{others, IsPart}
use Rattle.lc_planes.specs.Planes.{part_at}
use Rattle.lc_kernel.proofs.BlockLaws.{phase_of_block}
use Rattle.lc_kernel.proofs.PackLaws.{others_few}
use Rattle.lc_kernel.proofs.SupportLaws.{tails_few}
use Rattle.lc_kernel.proofs.RunLaws.{run_at, part_counted, counted_few}
use Rattle.lc_kernel.proofs.TableLaws.{one_part}
use Rattle.lc_kernel.proofs.runs.count_part.Goals.{After-as_slice-sums}
use Rattle.lc_kernel.proofs.runs.count_part.Goals as goal

-- the part of the table that the code reads
part_read : (c : After-as_slice-sums) → IsPart c.args.block.now.sets.now c.args.run.now.spot.now.set c.args.table.now.tail (part_at (others c.args.block.now.sets.now c.args.run.now.spot.now.set) c.args.part) c.index.result.now.rows.items c.index.result.now.sums.items
part_read c = one_part c.args.block.now.sets.now c.args.run.now.spot.now.set c.args.table.now.tail c.args.part c.args.table.now.parts.items c.index.result.now c.requires.table.are c.requires.part c.index.ensures

-- the counts with this part, from those without it
with_part : (c : After-as_slice-sums) (old new : List ℕ)
    → ((i : ℕ) → i < length c.args.counts.now → slice_index new i ≡ slice_index old i + count_ones (bit_xor (slice_index (take (c.args.run.now.start + length c.args.counts.now - c.args.run.now.start) (drop c.args.run.now.start c.as_slice-sums.result.now)) i) c.head_bits-prefix.result))
    → AreCounted (take (64 * c.args.part) (others c.args.block.now.sets.now c.args.run.now.spot.now.set)) (block_words c.args.block.now.sets.now c.args.block.now.plan.now.m c.args.block.now.number) c.args.run.now.done (length c.args.counts.now) old
    → AreCounted (take (64 * (c.args.part + 1)) (others c.args.block.now.sets.now c.args.run.now.spot.now.set)) (block_words c.args.block.now.sets.now c.args.block.now.plan.now.m c.args.block.now.number) c.args.run.now.done (length c.args.counts.now) new
with_part c old new is counted =
    let C = c.args.block.now.sets.now in
    let s = c.args.run.now.spot.now in
    let m = c.args.block.now.plan.now.m in
    let t = c.args.table.now.tail in
    let cols = others C s.set in
    let start = c.args.run.now.start in
    let many = length c.args.counts.now in
    let table = c.index.result.now in
    let run = run_at C (part_at cols c.args.part) t m c.args.block.now.number c.args.run.now.done s table.rows.items table.sums.items c.head_bits-prefix.result start c.args.block.now.rows c.args.block.now.independent c.requires.set c.requires.at (omega (arith, c.requires.table.least)) c.requires.level (part_read c) c.head_bits-prefix.ensures.is c.requires.start in
    let n : start + many - start ≡ many = omega arith in
    let piece : take (start + many - start) (drop start c.as_slice-sums.result.now) ≡ take many (drop start table.sums.items) = ap (λ z. take z (drop start c.as_slice-sums.result.now)) n ∙ ap (λ z. take many (drop start z)) c.as_slice-sums.ensures.value in
    part_counted C cols t m (phase_of_block c.args.block.now).0 c.args.block.now.number c.args.run.now.done start c.args.part many s table.rows.items table.sums.items old new (take (start + many - start) (drop start c.as_slice-sums.result.now)) c.head_bits-prefix.result (phase_of_block c.args.block.now).1 c.requires.at run c.requires.tails c.requires.words piece is counted

pub add_ones-requires-clause-few : goal.add_ones-requires-clause-few
add_ones-requires-clause-few c =
    let cols = take (64 * c.args.part) (others c.args.block.now.sets.now c.args.run.now.spot.now.set) in
    let few : length cols ≤ 255 = omega (arith, length-take (64 * c.args.part) (others c.args.block.now.sets.now c.args.run.now.spot.now.set), others_few c.args.block.now.sets.now c.args.run.now.spot.now.set, c.args.block.now.short) in
    counted_few c.args.block.now.sets.now c.args.block.now.plan.now.m c.args.block.now.number c.args.run.now.done (length c.args.counts.now) cols c.args.counts.now few (c.requires.counted (omega (arith, c.if-part-eq0.false)))

pub offset_bounds-sums-start-2 : goal.offset_bounds-sums-start-2
offset_bounds-sums-start-2 c =
    let few = tails_few (length c.args.block.now.sets.now.rows) c.args.table.now.tail c.requires.table.least c.requires.table.most (omega (arith, c.args.block.now.few)) in
    omega (arith, c.requires.tails, few)

pub slice_bounds-add_ones-end : goal.slice_bounds-add_ones-end
slice_bounds-add_ones-end c = omega (arith, c.requires.tails, (part_read (goal.at.slice_bounds-add_ones-end c).After-as_slice-sums).tails.long, ap length c.as_slice-sums.ensures.value)

pub returns-then-part-eq0 : goal.returns-then-part-eq0
returns-then-part-eq0 c =
    let cols = others c.args.block.now.sets.now c.args.run.now.spot.now.set in
    let words = block_words c.args.block.now.sets.now c.args.block.now.plan.now.m c.args.block.now.number in
    let zero : c.args.part ≡ 0 = omega (arith, c.if-part-eq0.true) in
    let plus : (x : ℕ) → x ≡ 0 + x = λ x. omega arith in
    let none : AreCounted (take (64 * c.args.part) cols) words c.args.run.now.done (length c.args.counts.now) [] = λ i l. sym (ap (λ z. weight (restrict (take (64 * z) cols) (slice_index_or words (c.args.run.now.done + i) []))) zero) in
    record { counted = with_part (goal.at.returns-then-part-eq0 c).After-as_slice-sums [] c.put_ones.new.counts (λ i l. c.put_ones.ensures.is i l ∙ plus _) none }

pub returns : goal.returns
returns c = record { counted = with_part (goal.at.returns c).After-as_slice-sums c.args.counts.now c.add_ones.new.counts c.add_ones.ensures.is (c.requires.counted (omega (arith, c.if-part-eq0.false))) }

use Rattle.std.proofs.Common.{◌≡◌, ◌+◌, ◌-◌, ◌*◌, ◌≤◌, List, ℕ, length, take, drop, refl, sym, ap, subst, ◌∙◌, mul_assoc, arith}
use Rattle.std.proofs.lemmas.List.{length-take}
use Rattle.lc_enumeration.specs.Search.{block_words}
use Rattle.lc_planes.specs.Planes.{part_at}
use Rattle.lc_distances.specs.Least.{AreCounted}
use Rattle.lc_distances.proofs.LeastLaws.{piece_long}
use Rattle.lc_distances.proofs.PartLaws.{part_piece, part_joined}
use Rattle.lc_kernel.specs.Packed.{others}
use Rattle.lc_kernel.specs.Sums.{front_word}
use Rattle.lc_kernel.specs.Grid.{tail_count, AreTailPlanes}
use Rattle.lc_kernel.specs.Grids.{IsGridPart}
use Rattle.lc_kernel.proofs.BlockLaws.{phase_of_block}
use Rattle.lc_kernel.proofs.GridLaws.{IsTailRun, tail_run_room}
use Rattle.lc_kernel.proofs.PackLaws.{others_few}
use Rattle.lc_kernel.proofs.RunLaws.{counted_few}
use Rattle.lc_kernel.proofs.TailLaws.{tails_counted}
use Rattle.lc_kernel.proofs.TableLaws.{one_grid_part}
use Rattle.lc_kernel.proofs.fronts.one_front.Goals.{After-as_slice-tails}
use Rattle.lc_kernel.proofs.fronts.one_front.Goals as goal

-- the counts of the run
abbrev piece : After-as_slice-tails → List ℕ
piece c = take (c.args.done + c.min-count.result - c.args.done) (drop c.args.done c.args.counts.now)

-- it ends within the block
within : (c : After-as_slice-tails) → c.args.done + c.min-count.result ≤ length c.args.counts.now
within c = omega (arith, c.min-count.ensures, c.requires.some)

-- where the planes of its tails begin
abbrev start : After-as_slice-tails → ℕ
start c = c.pair_index.result * c.nonzero-elements.result * c.nonzero-elements.result + c.tail_of-tail.result

-- the run that the code counts
run : (c : After-as_slice-tails) → IsTailRun c.args.block.now.sets.now c.args.block.now.plan.now.m c.args.block.now.number c.args.spot.now (front_word c.args.block.now.sets.now c.args.spot.now (length c.args.spot.now.support - 2)) c.args.done (start c) (length (piece c))
run c =
    let C = c.args.block.now.sets.now in
    let e = c.nonzero-elements.result in
    let r = c.pair_index.result in
    let square : e * e ≡ tail_count C = ap (λ z. z * z) c.nonzero-elements.ensures.is in
    let long : length (piece c) ≡ c.min-count.result = piece_long c.args.done (c.args.done + c.min-count.result) c.args.counts.now (within c) ∙ omega arith in
    record {
      phase = phase_of_block c.args.block.now;
      rows_are = c.args.block.now.rows;
      free = c.args.block.now.independent;
      set = c.requires.set;
      at = c.requires.at;
      level = c.requires.level;
      head_is = refl;
      pair = (r, c.pair_index.ensures.is, ap (λ z. z + c.tail_of-tail.result) (mul_assoc r e e ∙ ap (λ z. r * z) square) ∙ ap (λ z. r * tail_count C + z) c.tail_of-tail.ensures.is);
      inside = omega (arith, long, square, c.min-count.ensures, c.tail_of-tail.ensures.is, c.tail_of-tail.ensures.inside);
      words = omega (arith, long, within c, c.requires.words);
    }

-- the part of the table that the code reads
part_read : (c : After-as_slice-tails) → IsGridPart c.args.block.now.sets.now c.args.spot.now.set (part_at (others c.args.block.now.sets.now c.args.spot.now.set) c.args.table.now.part) c.args.table.now.grid.now.planes c.index-part.result.now.rows.items c.index-part.result.now.bits.items
part_read c = one_grid_part c.args.block.now.sets.now c.args.spot.now.set c.args.table.now.grid.now.planes c.args.table.now.part c.args.table.now.grid.now.parts.items c.index-part.result.now c.requires.grid.parts c.requires.part c.index-part.ensures

-- what the parts before it have
counted : (c : After-as_slice-tails) → AreCounted (take (64 * c.args.table.now.part) (others c.args.block.now.sets.now c.args.spot.now.set)) (block_words c.args.block.now.sets.now c.args.block.now.plan.now.m c.args.block.now.number) c.args.done (length (piece c)) (piece c)
counted c = part_piece (others c.args.block.now.sets.now c.args.spot.now.set) c.args.table.now.part c.args.done (c.args.done + c.min-count.result) (length c.args.counts.now) (block_words c.args.block.now.sets.now c.args.block.now.plan.now.m c.args.block.now.number) c.args.counts.now c.requires.counted refl (within c)

pub add_apart-requires-clause-long : goal.add_apart-requires-clause-long
add_apart-requires-clause-long c =
    let part = part_read (goal.at.add_apart-requires-clause-long c).After-as_slice-tails in
    ap length c.as_slice-tails.ensures.value ∙ part.planes.long ∙ ap (λ z. c.args.table.now.grid.now.planes * z) (sym c.requires.grid.count)

pub add_apart-requires-clause-room : goal.add_apart-requires-clause-room
add_apart-requires-clause-room c =
    let a = (goal.at.add_apart-requires-clause-room c).After-as_slice-tails in
    omega (arith, tail_run_room c.args.block.now.sets.now c.args.block.now.plan.now.m c.args.block.now.number c.args.done (start a) (length (piece a)) c.args.spot.now _ (run a), c.requires.grid.count)

pub add_apart-requires-clause-few : goal.add_apart-requires-clause-few
add_apart-requires-clause-few c =
    let a = (goal.at.add_apart-requires-clause-few c).After-as_slice-tails in
    let all = others c.args.block.now.sets.now c.args.spot.now.set in
    let few : length (take (64 * c.args.table.now.part) all) ≤ 255 = omega (arith, length-take (64 * c.args.table.now.part) all, others_few c.args.block.now.sets.now c.args.spot.now.set, c.args.block.now.short) in
    counted_few c.args.block.now.sets.now c.args.block.now.plan.now.m c.args.block.now.number c.args.done (length (piece a)) (take (64 * c.args.table.now.part) all) (piece a) few (counted a)

pub returns-clause-counted : goal.returns-clause-counted
returns-clause-counted c =
    let a = (goal.at.returns-clause-counted c).After-as_slice-tails in
    let C = c.args.block.now.sets.now in
    let m = c.args.block.now.plan.now.m in
    let b = c.args.block.now.number in
    let s = c.args.spot.now in
    let n = c.args.table.now.grid.now.planes in
    let all = others C s.set in
    let planes : AreTailPlanes C s.set (part_at all c.args.table.now.part) n c.as_slice-tails.result.now = subst (AreTailPlanes C s.set (part_at all c.args.table.now.part) n) (sym c.as_slice-tails.ensures.value) (part_read a).planes in
    let more = tails_counted C m b c.args.done (start a) (length (piece a)) n c.args.table.now.part c.args.table.now.grid.now.tails s _ all (piece a) c.add_apart.new.counts c.args.head.now c.as_slice-tails.result.now (run a) c.requires.grid.planes c.requires.grid.count planes c.requires.head c.add_apart.ensures.is (counted a) in
    part_joined all c.args.table.now.part c.args.done (c.args.done + c.min-count.result) (length c.args.counts.now) (block_words C m b) c.args.counts.now c.add_apart.new.counts c.requires.counted refl (omega arith) (within a) more c.add_apart.auto.counts

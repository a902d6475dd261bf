use Rattle.std.proofs.Common.{◌≡◌, ℕ, ◌+◌, ◌-◌, ◌*◌, ◌<◌, ◌≤◌, [], length, take, drop, slice_index_or, arith}
use Rattle.lc_distances.specs.Halves.{tail_apart, symbols_apart}
use Rattle.lc_distances.proofs.LeastLaws.{below_same, piece_long, searched_more}
use Rattle.lc_distances.proofs.PartLaws.{word_at, next_row}
use Rattle.lc_distances.proofs.halves.nearest_by_heads.Goals as goal

pub loop-done-preserved : goal.loop-done-preserved
loop-done-preserved c =
    let a = c.args.halves.now in
    let T = a.tails in
    let first = c.args.head * T + c.args.tail in
    let done = c.loop-done.done in
    let end = c.min-end.result in
    let old = c.loop-done.counts in
    let row = c.loop-done.row in
    let from = c.loop-done.from in
    let f : ℕ → ℕ = λ i. symbols_apart a (first + i) in
    let low = c.loop-done.invariant.low in
    let more : done < length c.args.counts.now = omega (arith, c.loop-done-test.true, c.loop-done.auto.counts) in
    let place : row * T + from ≡ first + done = c.loop-done.invariant.place more in
    let inside : end ≤ length old = omega (arith, c.min-end.ensures) in
    let same : (j : ℕ) → j < length (take (end - done) (drop done old)) → tail_apart a (slice_index_or a.heads.now row []) (from + j) ≡ f (done + j) = λ j l. word_at a first done row from j place (omega (arith, l, piece_long done end old inside, c.min-end.ensures, low)) in
    record {
      low = c.requires.halves.some;
      place = λ l. omega (arith, next_row row T, place, l, c.min-end.ensures, c.loop-done.auto.counts, low);
      searched = searched_more _ done end f _ _ _ _ _ _ _ old c.loop-done.auto.counts (omega (arith, c.min-end.ensures, low, c.loop-done-test.true)) (omega (arith, inside, c.loop-done.auto.counts)) c.loop-done.invariant.searched (below_same _ _ (λ j. f (done + j)) _ _ _ same c.first_below-other.ensures.is) c.joined-best.ensures.taken c.joined-best.ensures.kept;
    }

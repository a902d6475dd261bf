use Rattle.std.proofs.Common.{◌≡◌, ℕ, ◌+◌, ◌*◌, ◌<◌, length, ap, arith}
use Rattle.lc_distances.specs.Halves.{symbols_apart}
use Rattle.lc_distances.proofs.LeastLaws.{below_same, searched_more}
use Rattle.lc_distances.proofs.PartLaws.{next_heads}
use Rattle.lc_distances.proofs.halves.nearest.Goals as goal

pub loop-done-preserved : goal.loop-done-preserved
loop-done-preserved c =
    let a = c.args.halves.now in
    let T = a.tails in
    let first = c.args.first in
    let done = c.loop-done.done in
    let many = c.part_of-heads.result.1 in
    let old = c.loop-done.counts in
    let head = c.loop-done.head in
    let tail = c.loop-done.tail in
    let f : ℕ → ℕ = λ i. symbols_apart a (first + i) in
    let of_part = c.part_of-heads.ensures in
    let more : done < length c.args.counts.now = omega (arith, c.loop-done-test.true, c.loop-done.auto.counts) in
    let place : head * T + tail ≡ first + done = c.loop-done.invariant.place more in
    let on : (j : ℕ) → head * T + tail + j ≡ first + (done + j) = λ j. omega (arith, place) in
    record {
      low = c.requires.halves.some;
      place = λ l. omega (arith, place, next_heads head tail c.part_of-heads.result.0 many _ c.max-head.result T of_part.whole of_part.part c.max-head.ensures c.loop-done.invariant.low (omega (arith, l, c.loop-done.auto.counts)));
      searched = searched_more _ done (done + many) f _ _ _ _ _ _ _ old c.loop-done.auto.counts (omega arith) (omega (arith, of_part.within, c.loop-done.auto.counts, c.loop-done-test.true)) c.loop-done.invariant.searched (below_same _ _ (λ j. f (done + j)) _ _ _ (λ j _. ap (symbols_apart a) (on j)) c.nearest_in-other.ensures.is) c.joined-best.ensures.taken c.joined-best.ensures.kept;
    }

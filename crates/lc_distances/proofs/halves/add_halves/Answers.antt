use Rattle.std.proofs.Common.{◌≡◌, ℕ, ◌+◌, ◌-◌, ◌*◌, ◌<◌, ◌≤◌, length, take, drop, slice_index, refl, ap, ◌∙◌, arith}
use Rattle.std.proofs.Math.Nat.{mod-lt}
use Rattle.std.proofs.lemmas.Nat.{div-add-mod'}
use Rattle.std.proofs.lemmas.List.{get_or-take, get_or-drop}
use Rattle.lc_distances.specs.Halves.{symbols_apart}
use Rattle.lc_distances.proofs.LeastLaws.{piece_long}
use Rattle.lc_distances.proofs.RowLaws.{row_there}
use Rattle.lc_distances.proofs.PartLaws.{added_piece, halves_at, next_row}
use Rattle.lc_distances.proofs.halves.add_halves.Goals as goal

pub loop-done-init : goal.loop-done-init
loop-done-init c = record {
  low = mod-lt c.args.first c.requires.halves.some;
  inside = omega arith;
  place = λ _. omega (arith, div-add-mod' c.args.first c.args.halves.now.tails);
  done = λ i l. absurd (omega (arith, l));
  left = λ i l. refl;
}

pub bounds-heads-head : goal.bounds-heads-head
bounds-heads-head c =
    let a = c.args.halves.now in
    let more : c.loop-done.done < length c.args.counts.now = omega (arith, c.loop-done-test.true, c.loop-done.auto.counts) in
    let place = c.loop-done.invariant.place more in
    row_there c.loop-done.head c.loop-done.tail (length a.heads.now) a.tails c.loop-done.invariant.low (omega (arith, place, more, c.requires.inside))

pub add_apart-requires-clause-room : goal.add_apart-requires-clause-room
add_apart-requires-clause-room c =
    let a = c.args.halves.now in
    let done = c.loop-done.done in
    let end = c.min-end.result in
    let old = c.loop-done.counts in
    let piece : length (take (end - done) (drop done old)) ≡ end - done = piece_long done end old (omega (arith, c.min-end.ensures)) in
    omega (arith, piece, c.min-end.ensures, c.loop-done.invariant.low, c.requires.halves.room)

pub add_apart-requires-clause-few : goal.add_apart-requires-clause-few
add_apart-requires-clause-few c i l =
    let done = c.loop-done.done in
    let end = c.min-end.result in
    let old = c.loop-done.counts in
    let piece : length (take (end - done) (drop done old)) ≡ end - done = piece_long done end old (omega (arith, c.min-end.ensures)) in
    let inside : i < end - done = omega (arith, l, piece) in
    let read : slice_index (take (end - done) (drop done old)) i ≡ slice_index c.args.counts.now (done + i) = get_or-take (end - done) (drop done old) i 0 inside ∙ get_or-drop done old i 0 ∙ c.loop-done.invariant.left (done + i) (omega arith) in
    omega (arith, read, c.requires.few (done + i) (omega (arith, inside, c.min-end.ensures, c.loop-done.auto.counts)))

pub loop-done-preserved : goal.loop-done-preserved
loop-done-preserved c =
    let a = c.args.halves.now in
    let first = c.args.first in
    let T = a.tails in
    let done = c.loop-done.done in
    let end = c.min-end.result in
    let old = c.loop-done.counts in
    let head = c.loop-done.head in
    let tail = c.loop-done.tail in
    let more : done < length c.args.counts.now = omega (arith, c.loop-done-test.true, c.loop-done.auto.counts) in
    let place : head * T + tail ≡ first + done = c.loop-done.invariant.place more in
    let low = c.loop-done.invariant.low in
    let order : done ≤ end = omega (arith, c.min-end.ensures, low, c.loop-done-test.true) in
    let within : end ≤ length old = omega (arith, c.min-end.ensures) in
    let piece : length (take (end - done) (drop done old)) ≡ end - done = piece_long done end old within in
    let f : ℕ → ℕ = λ i. symbols_apart a (first + i) in
    let next = added_piece f c.args.counts.now old c.add_apart.new.counts done end (record { done = c.loop-done.invariant.done; left = c.loop-done.invariant.left }) order within
    (λ i l. c.add_apart.ensures.is i l ∙ ap (λ z. slice_index (take (end - done) (drop done old)) i + z) (halves_at a first done head tail i place (omega (arith, l, piece, c.min-end.ensures, low)))) c.add_apart.auto.counts in
    record {
      low = c.requires.halves.some;
      inside = omega (arith, within, c.loop-done.auto.counts);
      place = λ l. omega (arith, next_row head T, place, l, c.min-end.ensures, c.loop-done.auto.counts, low);
      done = next.done;
      left = next.left;
    }

pub returns : goal.returns
returns c = record { is = λ i l. c.loop-done.invariant.done i (omega (arith, l, c.loop-done-test.false, c.loop-done.auto.counts)) }

use Rattle.std.proofs.Common.{◌≡◌, ◌+◌, ◌<◌, ℕ, List, length, count_ones, slice_index, ap, ◌∙◌, arith}
use Rattle.lc_distances.specs.declared.halves.Halves.{Halves}
use Rattle.lc_distances.specs.Planes.{bits_apart}
use Rattle.lc_distances.specs.Halves.{tail_apart}
use Rattle.lc_distances.proofs.LeastLaws.{counted_least, none_below, found_below}
use Rattle.lc_distances.proofs.halves.first_below.Goals as goal

-- counts of the words from that of a tail on
added_on : (a : Halves) (head : List ℕ) (tail : ℕ) (zeros counts : List ℕ) → ((i : ℕ) → i < length zeros → slice_index counts i ≡ slice_index zeros i + count_ones (bits_apart a.planes head a.bits.now a.words (a.start + tail + i))) → (i : ℕ) → i < length zeros → slice_index counts i ≡ slice_index zeros i + tail_apart a head (tail + i)
added_on a head tail zeros counts h i l =
    let place : a.start + tail + i ≡ a.start + (tail + i) = omega arith in
    h i l ∙ ap (λ z. slice_index zeros i + count_ones (bits_apart a.planes head a.bits.now a.words z)) place

pub returns-then-least-bound : goal.returns-then-least-bound
returns-then-least-bound c =
    let here = counted_least (length c.args.counts.now) _ c.args.bound c.least_count-least.result _ _ (c.fill.ensures.after (λ y e. e)) c.add_apart.auto.counts (added_on c.args.halves.now c.args.head.now c.args.tail _ _ c.add_apart.ensures.is) c.least_count-least.ensures.is in
    record { is = none_below _ _ _ _ here.least c.if-least-bound.true }

pub returns : goal.returns
returns c =
    let here = counted_least (length c.args.counts.now) _ c.args.bound c.least_count-least.result _ _ (c.fill.ensures.after (λ y e. e)) c.add_apart.auto.counts (added_on c.args.halves.now c.args.head.now c.args.tail _ _ c.add_apart.ensures.is) c.least_count-least.ensures.is in
    let same = c.add_apart.auto.counts ∙ c.fill.ensures.len in
    record { is = found_below _ _ _ _ _ _ here (omega (arith, c.if-least-bound.false)) (omega (arith, c.place_of.ensures.inside, same)) (λ l. c.place_of.ensures.is (omega (arith, l, same))) c.place_of.ensures.before }

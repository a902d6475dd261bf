use Rattle.std.proofs.Common.{◌≡◌, ℕ, ◌+◌, ◌*◌, ◌<◌, ◌≤◌, length, ap, ⊎_elim, arith}
use Rattle.std.proofs.lemmas.Bool.{cases_lt}
use Rattle.lc_distances.specs.Halves.{symbols_apart}
use Rattle.lc_distances.proofs.LeastLaws.{beyond_none}
use Rattle.lc_distances.proofs.RowLaws.{row_below}
use Rattle.lc_distances.proofs.halves.nearest_in.Goals as goal

pub are_beyond-requires-clause-inside : goal.are_beyond-requires-clause-inside
are_beyond-requires-clause-inside c =
    let a = c.args.halves.now in
    let words : c.args.heads * a.tails ≤ length c.args.counts.now = ⊎_elim
    (λ some. omega (arith, (c.requires.whole some).1))
    (λ (none : c.args.heads ≤ 0).
    let same : c.args.heads ≡ 0 = omega (arith, none) in
    rw same (omega arith))
    (cases_lt 0 c.args.heads) in
    row_below (c.args.head + c.args.heads) 0 (length a.heads.now) a.tails c.requires.halves.some (omega (arith, words, c.requires.inside))

pub returns-then-are_beyond : goal.returns-then-are_beyond
returns-then-are_beyond c =
    let a = c.args.halves.now in
    let start = c.args.head * a.tails in
    let whole = c.requires.whole (c.are_beyond.ensures.some c.if-are_beyond.true) in
    let low : (i : ℕ) → i < length c.args.counts.now → c.args.bound ≤ symbols_apart a (start + c.args.tail + i) = λ i l.
    let place : start + c.args.tail + i ≡ start + i = omega (arith, whole.0) in
    omega (arith, c.are_beyond.ensures.low c.if-are_beyond.true i (omega (arith, l, whole.1)), ap (symbols_apart a) place) in
    record { is = beyond_none (length c.args.counts.now) _ c.args.bound low }

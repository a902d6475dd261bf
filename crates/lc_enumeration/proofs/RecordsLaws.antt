-- Rounds keep the best word: from the best after some blocks each round goes to the best after its blocks.
--   numbers_append          the numbers from i on, cut in two
--   least_append            the least of two lists
--   found_append            what is found in some blocks and in those after them
--   best_after              the best after some blocks more
--   round_is_best           a round keeps the best word
--   rounds_are_best         so do all rounds of a search
--   last_is_best            and so the last state
--   search_is_best, end_is_best      the same of the rounds of a search
--   first_is_best           the word at place 0 is the best after no blocks
use Rattle.std.proofs.Common.{◌≡◌, ℕ, zero, suc, ◌+◌, ◌-◌, if◌then◌else◌, Bool, true, false, List, [], ◌∷◌, ◌++◌, All, Option, Some, None, refl, sym, ap, ◌∙◌, arith}
use Rattle.std.proofs.lemmas.List.Elements.{All-nil, All-cons, All-head, All-tail}
use Rattle.std.proofs.lemmas.Grind.{flat_map-append}
use Rattle.lc_algebra.specs.Matrix.{Matrix}
use Rattle.lc_enumeration.specs.Message.{numbers_from}
use Rattle.lc_enumeration.specs.Search.{Found, set_count, beats, found_in_block, found_from, least_of, found_first, found_below, best, finished}
use Rattle.lc_enumeration.specs.Records.{Progress, Rounds, found_of, progress_of, first_progress, round_length, after_round, is_used_up, state_first, no_round, less_slice, rounds_within, rounds, last_state, IsBestAt}

pub numbers_append : (i n count : ℕ) → numbers_from i (n + count) ≡ numbers_from i n ++ numbers_from (i + n) count
unfolding numbers_from
numbers_append i zero count = let e : zero + count ≡ count = omega arith in let f : i + zero ≡ i = omega arith in rw (e, f) refl
numbers_append i (suc n) count =
    let e : suc n + count ≡ suc (n + count) = omega arith in
    let f : i + suc n ≡ suc i + n = omega arith in
    rw (e, f) (ap (λ xs. i ∷ xs) (numbers_append (suc i) n count))

pub least_append : (xs : List Found) (a : Found) (ys : List Found) → least_of a (xs ++ ys) ≡ least_of (least_of a xs) ys
unfolding least_of
least_append [] a ys = refl
least_append (x ∷ xs) a ys = least_append xs (if beats x a then x else a) ys

pub found_append : (C : Matrix) (m first n count : ℕ) → found_from C m first (n + count) ≡ found_from C m first n ++ found_from C m (first + n) count
unfolding found_from
found_append C m first n count = rw (numbers_append first n count) (flat_map-append (found_in_block C m) (numbers_from first n) (numbers_from (first + n) count))

pub best_after : (C : Matrix) (m l count : ℕ) → best C m (l + count) ≡ least_of (best C m l) (found_from C m l count)
unfolding best found_below
best_after C m l count =
    let e : 0 + l ≡ l = omega arith in
    let both : found_from C m 0 (l + count) ≡ found_from C m 0 l ++ found_from C m l count = found_append C m 0 l count ∙ ap (λ b. found_from C m 0 l ++ found_from C m b count) e in
    rw both (least_append (found_first C m ∷ found_from C m 0 l) (found_first C m) (found_from C m l count))

pub round_is_best : (C : Matrix) (s : Progress) (count : ℕ) → IsBestAt C s → IsBestAt C (after_round C s count)
unfolding after_round found_of progress_of
round_is_best C s count h = ap (λ (a : Found). least_of a (found_from C (set_count C) s.blocks count)) h ∙ sym (best_after C (set_count C) s.blocks count)

either_answered : {X : Type 0} (P : Rounds → Type 0) (o : Option X) (x y : Rounds) → P x → P y → P (elim o as (λ _. Rounds) [ Some _ ↦ x | None ↦ y ])
either_answered P (Some a) x y p q = p
either_answered P None x y p q = q

either_used : (P : Rounds → Type 0) (b : Bool) (x y : Rounds) → P x → P y → P (elim b as (λ _. Rounds) [ true ↦ x | false ↦ y ])
either_used P true x y p q = p
either_used P false x y p q = q

abbrev AreBest : Matrix → Rounds → Type 0
AreBest C r = All (IsBestAt C) r.states

pub rounds_are_best : (most d : ℕ) (C : Matrix) (budget longest : ℕ) (slice : Option ℕ) (s : Progress) → IsBestAt C s → All (IsBestAt C) (rounds_within most d C budget longest slice s).states
unfolding rounds_within state_first no_round
rounds_are_best zero d C budget longest slice s h = All-nil (IsBestAt C)
rounds_are_best (suc most) d C budget longest slice s h =
    let next = after_round C s (round_length C budget longest slice s.blocks) in
    let rest = rounds_within most d C budget longest (less_slice slice (round_length C budget longest slice s.blocks)) next in
    let best_next = round_is_best C s (round_length C budget longest slice s.blocks) h in
    either_answered (AreBest C) (finished d C budget s.blocks (found_of s)) (no_round slice false)
    (elim (is_used_up slice) as (λ _. Rounds) [ true ↦ no_round slice true | false ↦ state_first next rest ])
    (All-nil (IsBestAt C))
    (either_used (AreBest C) (is_used_up slice) (no_round slice true) (state_first next rest)
    (All-nil (IsBestAt C))
    (All-cons (IsBestAt C) next rest.states best_next (rounds_are_best most d C budget longest (less_slice slice (round_length C budget longest slice s.blocks)) next best_next)))

pub last_is_best : (C : Matrix) (states : List Progress) (s : Progress) → IsBestAt C s → All (IsBestAt C) states → IsBestAt C (last_state s states)
unfolding last_state
last_is_best C [] s h all = h
last_is_best C (t ∷ states) s h all = last_is_best C states t (All-head (IsBestAt C) t states all) (All-tail (IsBestAt C) t states all)

pub first_is_best : (C : Matrix) → IsBestAt C (first_progress C)
unfolding first_progress found_of progress_of best found_below found_from numbers_from least_of
first_is_best C = sym (same_or_not (beats (found_first C (set_count C)) (found_first C (set_count C))))
  where
    same_or_not : (b : Bool) → (if b then found_first C (set_count C) else found_first C (set_count C)) ≡ found_first C (set_count C)
    same_or_not true = refl
    same_or_not false = refl

pub search_is_best : (d : ℕ) (C : Matrix) (budget longest : ℕ) (slice : Option ℕ) (s : Progress) → IsBestAt C s → All (IsBestAt C) (rounds d C budget longest slice s).states
unfolding rounds
search_is_best d C budget longest slice s h = rounds_are_best (suc (budget - s.blocks)) d C budget longest slice s h

pub end_is_best : (d : ℕ) (C : Matrix) (budget longest : ℕ) (slice : Option ℕ) (s : Progress) → IsBestAt C s → IsBestAt C (last_state s (rounds d C budget longest slice s).states)
end_is_best d C budget longest slice s h = last_is_best C (rounds d C budget longest slice s).states s h (search_is_best d C budget longest slice s h)

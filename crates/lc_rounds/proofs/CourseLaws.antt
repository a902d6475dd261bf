-- The rounds of a search, one after the other.
--   IsPassed all first d C budget longest slice s past      these states were passed, and the others are those of the rounds from here
--   passed_none, passed_more       before the first round, and after one more
--   passed_front           the states passed and the next one are the first of all
--   passed_all, passed_up          once the search is answered, and once the slice is used up
use Rattle.std.proofs.Common.{◌≡◌, ℕ, zero, suc, ◌-◌, ◌<◌, ◌≤◌, Bool, true, false, List, [], ◌∷◌, ◌++◌, refl, sym, ap, ◌∙◌, append_assoc, arith}
use Rattle.std.specs.Prelude.{Option, Some, None}
use Rattle.std.proofs.lemmas.List.{append-nil}
use Rattle.lc_algebra.specs.Matrix.{Matrix}
use Rattle.lc_enumeration.specs.Search.{Answer, finished}
use Rattle.lc_enumeration.specs.Records.{Progress, Rounds, found_of, round_length, after_round, is_used_up, state_first, no_round, less_slice, rounds_within, rounds, last_state}

pub record IsPassed (all : Rounds) (first : Progress) (d : ℕ) (C : Matrix) (budget longest : ℕ) (slice : Option ℕ) (s : Progress) (past : List Progress) : Type 0 where
  pub most : ℕ
  pub enough : budget - s.blocks < most
  pub states : all.states ≡ past ++ (rounds_within most d C budget longest slice s).states
  pub left : all.left ≡ (rounds_within most d C budget longest slice s).left
  pub stopped : all.is_stopped ≡ (rounds_within most d C budget longest slice s).is_stopped
  pub last : last_state first past ≡ s

pub passed_none : (d : ℕ) (C : Matrix) (budget longest : ℕ) (slice : Option ℕ) (s : Progress) → IsPassed (rounds d C budget longest slice s) s d C budget longest slice s []
unfolding rounds last_state
passed_none d C budget longest slice s = record { most = suc (budget - s.blocks); enough = omega arith; states = refl; left = refl; stopped = refl; last = refl }

-- after an answer there are no rounds
answered : (most d : ℕ) (C : Matrix) (budget longest : ℕ) (slice : Option ℕ) (s : Progress) (a : Answer) → finished d C budget s.blocks (found_of s) ≡ Some a → rounds_within most d C budget longest slice s ≡ no_round slice false
unfolding rounds_within
answered zero d C budget longest slice s a e = refl
answered (suc most) d C budget longest slice s a e =
    let count = round_length C budget longest slice s.blocks in
    let next = after_round C s count in
    let rest = rounds_within most d C budget longest (less_slice slice count) next in
    ap (λ (b : Option Answer). elim b as (λ _. Rounds) [ Some _ ↦ no_round slice false | None ↦ elim (is_used_up slice) as (λ _. Rounds) [ true ↦ no_round slice true | false ↦ state_first next rest ] ]) e

-- and none once the slice is used up
used : (most d : ℕ) (C : Matrix) (budget longest : ℕ) (slice : Option ℕ) (s : Progress) → finished d C budget s.blocks (found_of s) ≡ None → is_used_up slice ≡ true → rounds_within (suc most) d C budget longest slice s ≡ no_round slice true
unfolding rounds_within
used most d C budget longest slice s e u =
    let count = round_length C budget longest slice s.blocks in
    let next = after_round C s count in
    let rest = rounds_within most d C budget longest (less_slice slice count) next in
    let go = λ (b : Bool). elim b as (λ _. Rounds) [ true ↦ no_round slice true | false ↦ state_first next rest ] in
    ap (λ (b : Option Answer). elim b as (λ _. Rounds) [ Some _ ↦ no_round slice false | None ↦ go (is_used_up slice) ]) e ∙ ap go u

-- else there is one more
one_more : (most d : ℕ) (C : Matrix) (budget longest : ℕ) (slice : Option ℕ) (s : Progress) → finished d C budget s.blocks (found_of s) ≡ None → is_used_up slice ≡ false
    → rounds_within (suc most) d C budget longest slice s ≡ state_first (after_round C s (round_length C budget longest slice s.blocks)) (rounds_within most d C budget longest (less_slice slice (round_length C budget longest slice s.blocks)) (after_round C s (round_length C budget longest slice s.blocks)))
unfolding rounds_within
one_more most d C budget longest slice s e u =
    let count = round_length C budget longest slice s.blocks in
    let next = after_round C s count in
    let rest = rounds_within most d C budget longest (less_slice slice count) next in
    let go = λ (b : Bool). elim b as (λ _. Rounds) [ true ↦ no_round slice true | false ↦ state_first next rest ] in
    ap (λ (b : Option Answer). elim b as (λ _. Rounds) [ Some _ ↦ no_round slice false | None ↦ go (is_used_up slice) ]) e ∙ ap go u

last-append : (s : Progress) (past : List Progress) (t : Progress) → last_state s (past ++ t ∷ []) ≡ t
unfolding last_state
last-append s [] t = refl
last-append s (u ∷ past) t = last-append u past t

module _ (all : Rounds) (first : Progress) (d : ℕ) (C : Matrix) (budget longest : ℕ) (slice : Option ℕ) (s : Progress) (past : List Progress) where
  more : (most : ℕ) → budget - s.blocks < most → all.states ≡ past ++ (rounds_within most d C budget longest slice s).states → all.left ≡ (rounds_within most d C budget longest slice s).left → all.is_stopped ≡ (rounds_within most d C budget longest slice s).is_stopped
      → finished d C budget s.blocks (found_of s) ≡ None → is_used_up slice ≡ false → s.blocks < (after_round C s (round_length C budget longest slice s.blocks)).blocks → (after_round C s (round_length C budget longest slice s.blocks)).blocks ≤ budget
      → IsPassed all first d C budget longest (less_slice slice (round_length C budget longest slice s.blocks)) (after_round C s (round_length C budget longest slice s.blocks)) (past ++ after_round C s (round_length C budget longest slice s.blocks) ∷ [])
  unfolding state_first
  more zero few states left stopped going open_yet further within = absurd (omega (arith, few))
  more (suc most) few states left stopped going open_yet further within =
      let next = after_round C s (round_length C budget longest slice s.blocks) in
      let rest = rounds_within most d C budget longest (less_slice slice (round_length C budget longest slice s.blocks)) next in
      let one = one_more most d C budget longest slice s going open_yet in
      record {
        most = most;
        enough = omega (arith, few, further, within);
        states = states ∙ ap (λ (r : Rounds). past ++ r.states) one ∙ sym (append_assoc past (next ∷ []) rest.states);
        left = left ∙ ap (λ (r : Rounds). r.left) one;
        stopped = stopped ∙ ap (λ (r : Rounds). r.is_stopped) one;
        last = last-append first past next;
      }

  pub passed_more : IsPassed all first d C budget longest slice s past → finished d C budget s.blocks (found_of s) ≡ None → is_used_up slice ≡ false → s.blocks < (after_round C s (round_length C budget longest slice s.blocks)).blocks → (after_round C s (round_length C budget longest slice s.blocks)).blocks ≤ budget
      → IsPassed all first d C budget longest (less_slice slice (round_length C budget longest slice s.blocks)) (after_round C s (round_length C budget longest slice s.blocks)) (past ++ after_round C s (round_length C budget longest slice s.blocks) ∷ [])
  passed_more h going open_yet further within = more h.most h.enough h.states h.left h.stopped going open_yet further within

  front_at : (most : ℕ) → budget - s.blocks < most → all.states ≡ past ++ (rounds_within most d C budget longest slice s).states → finished d C budget s.blocks (found_of s) ≡ None → is_used_up slice ≡ false
      → (rest : List Progress) × (all.states ≡ (past ++ after_round C s (round_length C budget longest slice s.blocks) ∷ []) ++ rest)
  unfolding state_first
  front_at zero few states going open_yet = absurd (omega (arith, few))
  front_at (suc most) few states going open_yet =
      let next = after_round C s (round_length C budget longest slice s.blocks) in
      let rest = rounds_within most d C budget longest (less_slice slice (round_length C budget longest slice s.blocks)) next in
      (rest.states, states ∙ ap (λ (r : Rounds). past ++ r.states) (one_more most d C budget longest slice s going open_yet) ∙ sym (append_assoc past (next ∷ []) rest.states))

  pub passed_front : IsPassed all first d C budget longest slice s past → finished d C budget s.blocks (found_of s) ≡ None → is_used_up slice ≡ false → (rest : List Progress) × (all.states ≡ (past ++ after_round C s (round_length C budget longest slice s.blocks) ∷ []) ++ rest)
  passed_front h going open_yet = front_at h.most h.enough h.states going open_yet

  pub passed_all : (a : Answer) → IsPassed all first d C budget longest slice s past → finished d C budget s.blocks (found_of s) ≡ Some a → (all.states ≡ past) × (all.left ≡ slice) × (all.is_stopped ≡ false)
  unfolding no_round
  passed_all a h e =
      let none = answered h.most d C budget longest slice s a e in
      (h.states ∙ ap (λ (r : Rounds). past ++ r.states) none ∙ append-nil past, h.left ∙ ap (λ (r : Rounds). r.left) none, h.stopped ∙ ap (λ (r : Rounds). r.is_stopped) none)

  up_at : (most : ℕ) → budget - s.blocks < most → all.states ≡ past ++ (rounds_within most d C budget longest slice s).states → all.is_stopped ≡ (rounds_within most d C budget longest slice s).is_stopped → finished d C budget s.blocks (found_of s) ≡ None → is_used_up slice ≡ true
      → (all.states ≡ past) × (all.is_stopped ≡ true)
  unfolding no_round
  up_at zero few states stopped going up = absurd (omega (arith, few))
  up_at (suc most) few states stopped going up =
      let none = used most d C budget longest slice s going up in
      (states ∙ ap (λ (r : Rounds). past ++ r.states) none ∙ append-nil past, stopped ∙ ap (λ (r : Rounds). r.is_stopped) none)

  pub passed_up : IsPassed all first d C budget longest slice s past → finished d C budget s.blocks (found_of s) ≡ None → is_used_up slice ≡ true → (all.states ≡ past) × (all.is_stopped ≡ true)
  passed_up h going up = up_at h.most h.enough h.states h.stopped going up

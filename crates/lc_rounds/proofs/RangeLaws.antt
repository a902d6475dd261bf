-- The numbers of a session are in range.
--   last_within          a search has at most its budget of blocks
--   none_left_over       a session without a slice goes on without one
--   record_ranged        the record of a search is in range
use Rattle.std.proofs.Common.{◌≡◌, ◌≤◌, ◌<◌, ◌-◌, ◌*◌, ◌^◌, min, ℕ, zero, suc, Bool, true, false, ◌==◌, ◌&&◌, ◌||◌, Option, Some, None, refl, arith}
use Rattle.lc_algebra.specs.Matrix.{Matrix, AreRows}
use Rattle.lc_algebra.specs.Span.{AreIndependent}
use Rattle.lc_enumeration.specs.Search.{Answer, finished, fits, set_count}
use Rattle.lc_enumeration.specs.Records.{Progress, Rounds, found_of, progress_of, within_slice, end_of_phase, round_length, after_round, is_used_up, state_first, no_round, less_slice, rounds_within, rounds, last_state}
use Rattle.lc_enumeration.proofs.SearchLaws.{fitting_place_small}
use Rattle.lc_formats.specs.Checkpoint.{IsProgress}
use Rattle.lc_search.proofs.FitLaws.{fitting_word}
use Rattle.lc_search.proofs.StateLaws.{light_word}

slice_within : (slice : Option ℕ) (n : ℕ) → within_slice slice n ≤ n
unfolding within_slice
slice_within None n = omega arith
slice_within (Some left) n = omega arith

next_within : (C : Matrix) (budget longest : ℕ) (slice : Option ℕ) (s : Progress) → s.blocks ≤ budget → (after_round C s (round_length C budget longest slice s.blocks)).blocks ≤ budget
unfolding after_round progress_of round_length
next_within C budget longest slice s l =
    let n = slice_within slice (min longest (min (end_of_phase C s.blocks - s.blocks) (budget - s.blocks))) in
    omega (arith, n, l)

step_within : (most d : ℕ) (C : Matrix) (budget longest : ℕ) (slice : Option ℕ) (s : Progress) → s.blocks ≤ budget → ((slice : Option ℕ) (t : Progress) → t.blocks ≤ budget → (last_state t (rounds_within most d C budget longest slice t).states).blocks ≤ budget) → (last_state s (rounds_within (suc most) d C budget longest slice s).states).blocks ≤ budget
unfolding rounds_within no_round state_first last_state
step_within most d C budget longest slice s l later = by (finished d C budget s.blocks (found_of s)) (is_used_up slice)
  where
    count : ℕ
    count = round_length C budget longest slice s.blocks

    by : (a : Option Answer) (b : Bool) → (last_state s (elim a as (λ _. Rounds) [ Some _ ↦ no_round slice false | None ↦ elim b as (λ _. Rounds) [ true ↦ no_round slice true | false ↦ state_first (after_round C s count) (rounds_within most d C budget longest (less_slice slice count) (after_round C s count)) ] ]).states).blocks ≤ budget
    by (Some x) b = l
    by None true = l
    by None false = later (less_slice slice count) (after_round C s count) (next_within C budget longest slice s l)

ends_within : (most d : ℕ) (C : Matrix) (budget longest : ℕ) (slice : Option ℕ) (s : Progress) → s.blocks ≤ budget → (last_state s (rounds_within most d C budget longest slice s).states).blocks ≤ budget
unfolding rounds_within no_round last_state
ends_within zero d C budget longest slice s l = l
ends_within (suc most) d C budget longest slice s l = step_within most d C budget longest slice s l (λ sl t k. ends_within most d C budget longest sl t k)

pub last_within : (d : ℕ) (C : Matrix) (budget longest : ℕ) (slice : Option ℕ) (s : Progress) → s.blocks ≤ budget → (last_state s (rounds d C budget longest slice s).states).blocks ≤ budget
unfolding rounds
last_within d C budget longest slice s l = ends_within (suc (budget - s.blocks)) d C budget longest slice s l

none_step : (most d : ℕ) (C : Matrix) (budget longest : ℕ) (s : Progress) → ((t : Progress) → (rounds_within most d C budget longest None t).left ≡ None) → (rounds_within (suc most) d C budget longest None s).left ≡ None
unfolding rounds_within no_round state_first is_used_up less_slice
none_step most d C budget longest s later = by (finished d C budget s.blocks (found_of s))
  where
    count : ℕ
    count = round_length C budget longest None s.blocks

    by : (a : Option Answer) → (elim a as (λ _. Rounds) [ Some _ ↦ no_round None false | None ↦ state_first (after_round C s count) (rounds_within most d C budget longest None (after_round C s count)) ]).left ≡ None
    by (Some x) = refl
    by None = later (after_round C s count)

none_within : (most d : ℕ) (C : Matrix) (budget longest : ℕ) (s : Progress) → (rounds_within most d C budget longest None s).left ≡ None
unfolding rounds_within no_round
none_within zero d C budget longest s = refl
none_within (suc most) d C budget longest s = none_step most d C budget longest s (λ t. none_within most d C budget longest t)

-- a session without a slice goes on without one
pub none_left_over : (d : ℕ) (C : Matrix) (budget longest : ℕ) (s : Progress) → (rounds d C budget longest None s).left ≡ None
unfolding rounds
none_left_over d C budget longest s = none_within (suc (budget - s.blocks)) d C budget longest s

pub record_ranged : (C : Matrix) (budget : ℕ) (s : Progress) → AreRows C.field C.columns C.rows → AreIndependent C.field C.columns C.rows → C.columns ≤ 255 → 1 ≤ set_count C → fits C s.blocks (found_of s) ≡ true → s.blocks ≤ budget → budget ≤ 2 ^ 40 → IsProgress budget s
unfolding found_of
record_ranged C budget s rows free long some f few small =
    let h = fitting_word C s.blocks (found_of s) rows free f in
    let light = light_word C s.place h.word.0 rows free long some h.word.1 in
    record {
      done = few;
      nonzero = omega (arith, h.nonzero);
      light = omega (arith, light, h.word.3);
      near = fitting_place_small C s.blocks (found_of s) f (omega (arith, few, small));
    }

-- The course of a search over its rounds.
--   first_true       the state of a search that starts is true
--   round_true       so is the state after a round of a true one, at more blocks
--   reached_true     so are the states after any rounds
--   answer_true      what a true state answers is the answer
--   answer_holds, whole_exact      it is true, and exact if the budget is great enough
use Rattle.std.proofs.Common.{◌≡◌, ℕ, zero, suc, ◌-◌, ◌*◌, ◌/◌, ◌^◌, ◌<◌, ◌≤◌, false, length, Option, Some, None, unwrap_or, Contains, sym, ap, subst, ◌∙◌, arith}
use Rattle.lc_algebra.specs.Matrix.{Matrix}
use Rattle.lc_algebra.specs.Divisor.{divisor_of}
use Rattle.lc_algebra.proofs.SpanLaws.{contains_head}
use Rattle.lc_algebra.specs.Field.{size}
use Rattle.lc_algebra.specs.Span.{AreIndependent}
use Rattle.lc_algebra.specs.Matrix.{AreRows}
use Rattle.lc_enumeration.specs.Search.{Found, Answer, exact, set_count, answer, finished}
use Rattle.lc_enumeration.specs.Records.{Progress, Rounds, found_of, default_round, round_length, after_round, is_used_up, state_first, no_round, less_slice, rounds_within, rounds, last_state}
use Rattle.lc_enumeration.specs.Truth.{IsSettled, AnswerHolds}
use Rattle.lc_infoset.proofs.SearchTruth.{own_answer}
use Rattle.lc_infoset.proofs.PlanCount.{whole_budget}
use Rattle.lc_infoset.proofs.SessionLaws.{first_underway, rounds_underway, rounds_settle}
use Rattle.lc_search.specs.State.{SearchState, first_state, answer_in, after_search_round}
use Rattle.lc_search.specs.Course.{IsTrueState, IsReached, no_round as same_state, one_round}

pub first_true : (C : Matrix) (budget : ℕ) → IsTrueState (first_state C budget)
unfolding first_state
first_true C budget = first_underway (divisor_of C) C budget

-- the first of the rounds from a state that isn't finished
first_round : (d : ℕ) (C : Matrix) (budget longest limit : ℕ) (s : Progress) → finished d C budget s.blocks (found_of s) ≡ None → 1 ≤ limit → Contains (rounds d C budget longest (Some limit) s).states (after_round C s (round_length C budget longest (Some limit) s.blocks))
unfolding rounds rounds_within state_first no_round is_used_up
first_round d C budget longest zero s e l = absurd (omega (arith, l))
first_round d C budget longest (suc limit) s e l =
    let count = round_length C budget longest (Some (suc limit)) s.blocks in
    let next = after_round C s count in
    let rest = rounds_within (budget - s.blocks) d C budget longest (less_slice (Some (suc limit)) count) next in
    let on = λ (a : Option Answer). elim a as (λ _. Rounds) [ Some _ ↦ no_round (Some (suc limit)) false | None ↦ state_first next rest ] in
    subst (λ (a : Option Answer). Contains (on a).states next) (sym e) (contains_head next rest.states)

pub round_true : (s : SearchState) (longest limit : ℕ) → 0 < length s.code.rows → s.budget ≤ 2 ^ 40 → IsTrueState s → answer_in s ≡ None → 1 ≤ longest → 1 ≤ limit
    → IsTrueState (after_search_round s longest limit) × (s.progress.blocks < (after_search_round s longest limit).progress.blocks)
unfolding after_search_round
round_true s longest limit rows small h going long l =
    rounds_underway (divisor_of s.code) s.code s.budget longest (Some limit) s.progress (after_round s.code s.progress (round_length s.code s.budget longest (Some limit) s.progress.blocks)) rows small long h
    (first_round (divisor_of s.code) s.code s.budget longest limit s.progress going l)

pub reached_true : (s t : SearchState) → 0 < length s.code.rows → s.budget ≤ 2 ^ 40 → IsTrueState s → IsReached s t → IsTrueState t
unfolding after_search_round
reached_true s t rows small h (same_state _) = h
reached_true s t rows small h (one_round _ _ longest limit long l going r) = reached_true (after_search_round s longest limit) t rows small (round_true s longest limit rows small h going long l).0 r

-- there are no rounds after an answer
no_more : (d : ℕ) (C : Matrix) (budget : ℕ) (s : Progress) (a : Answer) → finished d C budget s.blocks (found_of s) ≡ Some a → rounds d C budget default_round None s ≡ no_round None false
unfolding rounds rounds_within is_used_up
no_more d C budget s a e =
    let count = round_length C budget default_round None s.blocks in
    let next = after_round C s count in
    let rest = rounds_within (budget - s.blocks) d C budget default_round (less_slice None count) next in
    ap (λ (b : Option Answer). elim b as (λ _. Rounds) [ Some _ ↦ no_round None false | None ↦ state_first next rest ]) e

pub answer_true : (s : SearchState) (a : Answer) → 0 < length s.code.rows → s.budget ≤ 2 ^ 40 → IsTrueState s → answer_in s ≡ Some a → a ≡ answer (divisor_of s.code) s.code s.budget
unfolding no_round last_state default_round
answer_true s a rows small h e =
    let d = divisor_of s.code in
    let none = no_more d s.code s.budget s.progress a e in
    let settled : IsSettled d s.code s.budget (last_state s.progress (rounds d s.code s.budget default_round None s.progress).states) = rounds_settle d s.code s.budget default_round None s.progress rows small (omega arith) h (ap (λ (r : Rounds). r.is_stopped) none) in
    let here : IsSettled d s.code s.budget s.progress = subst (λ (r : Rounds). IsSettled d s.code s.budget (last_state s.progress r.states)) none settled in
    ap (λ (o : Option Answer). unwrap_or o a) (sym e ∙ here)

pub answer_holds : (s : SearchState) (a : Answer) → AreRows s.code.field s.code.columns s.code.rows → AreIndependent s.code.field s.code.columns s.code.rows → 0 < length s.code.rows → s.budget ≤ 2 ^ 40 → IsTrueState s → answer_in s ≡ Some a → AnswerHolds s.code a
answer_holds s a words independent rows small h e = subst (AnswerHolds s.code) (sym (answer_true s a rows small h e)) (own_answer s.code s.budget words independent)

pub whole_exact : (s : SearchState) (a : Answer) → 0 < length s.code.rows → s.code.columns ≤ 255 → s.budget ≤ 2 ^ 40 → set_count s.code * ((size s.code.field ^ length s.code.rows - 1) / (size s.code.field - 1)) ≤ s.budget → IsTrueState s → answer_in s ≡ Some a
    → (x : Found) × (l : ℕ) × (a ≡ exact x l)
whole_exact s a rows long small enough h e =
    let t = whole_budget (divisor_of s.code) s.code s.budget rows long small enough in
    (t.0, t.1, answer_true s a rows small h e ∙ t.2)

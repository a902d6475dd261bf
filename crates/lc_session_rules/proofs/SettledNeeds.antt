-- At the end of a session that started truly, and that nothing stopped, each need is settled by the answer of the search.
--   unless_stopped       a session that a slice didn't stop went on
--   session_settles      the states that settle the needs
--   settled_answers      the answers that they give are those of the search
use Rattle.std.proofs.Common.{◌⊎◌, ◌≡◌, ◌+◌, ◌≤◌, ℕ, zero, suc, Bool, true, false, cond, List, [], ◌∷◌, ◌++◌, length, map, drop, refl, sym, ap, subst, ◌∙◌, arith}
use Rattle.std.specs.Prelude.{Option, Some, None, slice_get, unwrap_or}
use Rattle.std.proofs.lemmas.List.{length-append}
use Rattle.lc_algebra.specs.Matrix.{Matrix}
use Rattle.lc_algebra.specs.Divisor.{divisor_of}
use Rattle.lc_enumeration.specs.Search.{Answer, answer, finished}
use Rattle.lc_enumeration.specs.Records.{Progress, found_of, first_progress, last_state, rounds, step_of, no_steps, steps_first, session_from, SessionRounds, IsBestAt}
use Rattle.lc_enumeration.specs.Truth.{answer_blocks, IsSettled}
use Rattle.lc_formats.specs.Truth.{divisor_in}
use Rattle.lc_session_rules.specs.Answers.{Settle, answers_of}
use Rattle.lc_session_rules.specs.Slots.{turn_after}
use Rattle.lc_session_rules.specs.Chain.{EndsAtAnswer}
use Rattle.lc_session_rules.proofs.TrueSteps.{AreSettled, settled_one, need_at, blocks_more, need_true, IsTrueStart, starts_next}

unless_stopped : (stopped : Bool) (settled : List Progress) (left : Option ℕ) (later : SessionRounds) → (cond stopped (no_steps settled left true) later).is_stopped ≡ false → (stopped ≡ false) × (cond stopped (no_steps settled left true) later ≡ later)
unfolding no_steps
unless_stopped true settled left later is = absurd (let e = is in cc)
unless_stopped false settled left later is = (refl, refl)

-- as many records as needs, and each settles its need
abbrev pub AreAllSettled : ℕ → ℕ → List Matrix → List Progress → Type 0
AreAllSettled version budget needs states = AreSettled (divisor_in version) budget needs states × (length states ≡ length needs)

one_less : (needs : List Matrix) (k : ℕ) (C : Matrix) (left : List Matrix) → drop k needs ≡ C ∷ left → k + 1 ≤ length needs
one_less [] zero C left is = absurd (let e = is in cc)
one_less [] (suc k) C left is = absurd (let e = is in cc)
one_less (D ∷ needs) zero C left is = omega arith
one_less (D ∷ needs) (suc k) C left is = (let l = one_less needs k C left is in omega (arith, l))

none_left : (needs : List Matrix) (k : ℕ) → drop k needs ≡ [] → length needs ≤ k
none_left [] k is = omega arith
none_left (D ∷ needs) zero is = absurd (let e = is in cc)
none_left (D ∷ needs) (suc k) is = (let l = none_left needs k is in omega (arith, l))

pub session_settles : (version : ℕ) (needs : List Matrix) (digest : List ℕ) (budget longest : ℕ) → (version ≡ 1) ⊎ (version ≡ 2)
    → ((i : ℕ) (C : Matrix) → slice_get needs i ≡ Some C → (slice : Option ℕ) (s : Progress) → IsBestAt C s → s.blocks ≤ answer_blocks (answer (divisor_in version C) C budget) → EndsAtAnswer (divisor_in version C) C budget longest slice s)
    → (left : List Matrix) (slice : Option ℕ) (settled : List Progress) (current : Option Progress) (turn : ℕ) → drop (length settled) needs ≡ left → length settled ≤ length needs → IsTrueStart version needs budget settled current turn
    → (session_from (divisor_in version) left budget longest slice settled current).is_stopped ≡ false → AreAllSettled version budget needs (session_from (divisor_in version) left budget longest slice settled current).settled
unfolding session_from steps_first no_steps
session_settles version needs digest budget longest known ends [] slice settled current turn is within start unstopped =
    (start.done, (let l = none_left needs (length settled) is in omega (arith, l, within)))
session_settles version needs digest budget longest known ends (C ∷ left) slice settled current turn is within start unstopped =
    let s = unwrap_or current (first_progress C) in
    let at = need_at needs (length settled) C left is in
    let r = rounds (divisor_in version C) C budget longest slice s in
    let e = ends (length settled) C at slice s (start.best C at).0 (start.best C at).1 in
    let last = last_state s r.states in
    let steps = map (step_of (divisor_in version C) C settled) r.states in
    let n = need_true version needs digest budget known settled C start.done at r.states s turn e.rises (start.early C at) in
    let later = session_from (divisor_in version) left budget longest r.left (settled ++ last ∷ []) None in
    let u = unless_stopped r.is_stopped settled r.left later unstopped in
    let one = settled_one (divisor_in version) budget needs settled C left last start.done is (e.ends u.0) in
    let few : length (settled ++ last ∷ []) ≤ length needs = (let a = length-append settled (last ∷ []) in let b = one_less needs (length settled) C left is in omega (arith, a, b)) in
    let all = session_settles version needs digest budget longest known ends left r.left (settled ++ last ∷ []) None (turn_after turn steps) one.1 few
    (starts_next version needs budget (settled ++ last ∷ []) (turn_after turn steps) one.0 (omega (arith, n.1, blocks_more settled last)))
    (sym (ap (λ (x : SessionRounds). x.is_stopped) u.1) ∙ unstopped) in
    subst (λ (x : SessionRounds). AreAllSettled version budget needs x.settled) (sym u.1) all

pub settled_answers : (budget : ℕ) (needs : List Matrix) (states : List Progress) (answers : List Answer)
    → ((i : ℕ) (C : Matrix) → slice_get needs i ≡ Some C → (s : Progress) → IsSettled (divisor_of C) C budget s → finished (divisor_of C) C budget s.blocks (found_of s) ≡ Some (answer (divisor_of C) C budget))
    → AreSettled divisor_of budget needs states → length states ≡ length needs → Settle budget needs states answers → answers ≡ answers_of needs budget
settled_answers budget [] [] answers answered all size settle = settle
settled_answers budget [] (s ∷ states) answers answered all size settle = absurd settle
settled_answers budget (C ∷ needs) [] answers answered all size settle = absurd settle
settled_answers budget (C ∷ needs) (s ∷ states) answers answered all size (a, (left, split, is, rest)) =
    let mine : Some a ≡ Some (answer (divisor_of C) C budget) = sym is ∙ answered 0 C refl s all.0 in
    let first : a ≡ answer (divisor_of C) C budget = (let e = mine in cc) in
    let others = settled_answers budget needs states left (λ i D at t h. answered (suc i) D at t h) all.1 (omega (arith, size)) rest in
    split ∙ ap (λ (b : Answer). b ∷ left) first ∙ ap (λ (l : List Answer). answer (divisor_of C) C budget ∷ l) others

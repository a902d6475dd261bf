-- The steps of a session that starts truly have true checkpoints.
--   AreSettled, settled_reads     records that settle the first needs, one after another
--   settled_one, settled_take          one record more, and the first ones alone
--   AreTrueSteps, true_append, true_front       steps whose checkpoints are true, the first one with a turn
--   need_true                          the steps of one search
--   session_true                       those of a session
use Rattle.std.proofs.Common.{◌≡◌, ◌+◌, ◌≤◌, ◌<◌, ℕ, zero, suc, Bool, true, false, cond, List, [], ◌∷◌, ◌++◌, length, map, take, drop, refl, sym, ap, subst, ◌∙◌, ◌⊎◌, arith}
use Rattle.std.specs.Prelude.{Option, Some, None, slice_get, sum, unwrap_or}
use Rattle.std.proofs.lemmas.List.Sums.{sum_by-append}
use Rattle.std.proofs.lemmas.List.{map-append, take-append-drop}
use Rattle.lc_algebra.specs.Matrix.{Matrix}
use Rattle.lc_enumeration.specs.Search.{answer}
use Rattle.lc_enumeration.specs.Records.{Progress, SessionStep, progress_of, first_progress, last_state, rounds, step_of, no_steps, steps_first, session_from, SessionRounds, IsBestAt}
use Rattle.lc_enumeration.proofs.RecordsLaws.{first_is_best}
use Rattle.lc_formats.specs.Checkpoint.{Checkpoint, current_of}
use Rattle.lc_enumeration.specs.Truth as truth
use Rattle.lc_enumeration.specs.Truth.{answer_blocks, IsSettled, IsUnderway, IsUnderwayNext}
use Rattle.lc_formats.specs.Truth.{divisor_in, whole_start, turn_allowance, IsTrueFor}
use Rattle.lc_session_rules.specs.Slots.{next_turn, turn_after, point_of}
use Rattle.lc_session_rules.specs.Chain.{Rises, EndsAtAnswer}

-- the first needs are settled by these records
abbrev pub AreSettled : (Matrix → ℕ) → ℕ → List Matrix → List Progress → Type 0
AreSettled divisor budget needs [] = Unit {0}
AreSettled divisor budget [] (s ∷ settled) = ⊥
AreSettled divisor budget (C ∷ needs) (s ∷ settled) = IsSettled (divisor C) C budget s × AreSettled divisor budget needs settled

-- one of them settles its need
abbrev pub IsSettledAt : (Matrix → ℕ) → ℕ → List Matrix → ℕ → Progress → Type 0
IsSettledAt divisor budget needs i s = (C : Matrix) × (slice_get needs i ≡ Some C) × IsSettled (divisor C) C budget s

pub settled_reads : (divisor : Matrix → ℕ) (budget : ℕ) (needs : List Matrix) (settled : List Progress) → AreSettled divisor budget needs settled → (i : ℕ) (s : Progress) → slice_get settled i ≡ Some s → IsSettledAt divisor budget needs i s
settled_reads divisor budget needs [] all i s is = absurd (let e = is in cc)
settled_reads divisor budget [] (t ∷ settled) all i s is = absurd all
settled_reads divisor budget (C ∷ needs) (t ∷ settled) all zero s is = (C, refl, subst (λ (x : Progress). IsSettled (divisor C) C budget x) (let e = is in cc) all.0)
settled_reads divisor budget (C ∷ needs) (t ∷ settled) all (suc i) s is = settled_reads divisor budget needs settled all.1 i s is

pub settled_one : (divisor : Matrix → ℕ) (budget : ℕ) (needs : List Matrix) (settled : List Progress) (C : Matrix) (rest : List Matrix) (s : Progress) → AreSettled divisor budget needs settled → drop (length settled) needs ≡ C ∷ rest → IsSettled (divisor C) C budget s
    → AreSettled divisor budget needs (settled ++ s ∷ []) × (drop (length (settled ++ s ∷ [])) needs ≡ rest)
settled_one divisor budget [] [] C rest s all is h = absurd (let e = is in cc)
settled_one divisor budget (D ∷ needs) [] C rest s all is h = ((subst (λ (E : Matrix). IsSettled (divisor E) E budget s) (let e = is in cc) h, tt), let e = is in cc)
settled_one divisor budget [] (t ∷ settled) C rest s all is h = absurd all
settled_one divisor budget (D ∷ needs) (t ∷ settled) C rest s all is h = (let r = settled_one divisor budget needs settled C rest s all.1 is h in ((all.0, r.0), r.1))

pub settled_take : (divisor : Matrix → ℕ) (budget : ℕ) (needs : List Matrix) (settled : List Progress) (i : ℕ) → AreSettled divisor budget needs settled → AreSettled divisor budget needs (take i settled)
settled_take divisor budget needs settled zero all = tt
settled_take divisor budget needs [] (suc i) all = tt
settled_take divisor budget [] (s ∷ settled) (suc i) all = absurd all
settled_take divisor budget (C ∷ needs) (s ∷ settled) (suc i) all = (all.0, settled_take divisor budget needs settled i all.1)

pub need_at : (needs : List Matrix) (i : ℕ) (C : Matrix) (rest : List Matrix) → drop i needs ≡ C ∷ rest → slice_get needs i ≡ Some C
need_at [] zero C rest is = absurd (let e = is in cc)
need_at [] (suc i) C rest is = absurd (let e = is in cc)
need_at (D ∷ needs) zero C rest is = (let e = is in cc)
need_at (D ∷ needs) (suc i) C rest is = need_at needs i C rest is

-- what a true checkpoint says, need by need
pub record TrueParts (needs : List Matrix) (budget : ℕ) (p : Checkpoint) : Type 0 where
  pub settled : AreSettled (divisor_in p.version) budget needs p.settled
  pub current : (C : Matrix) × (slice_get needs (length p.settled) ≡ Some C) × (1 ≤ p.blocks) × (p.blocks ≤ answer_blocks (answer (divisor_in p.version C) C budget)) × IsBestAt C (current_of p)

parts_split : (divisor : Matrix → ℕ) (budget : ℕ) (before after : List Matrix) (settled : List Progress) (s : Progress) → truth.AreSettled divisor budget before settled → IsUnderwayNext divisor budget after (Some s)
    → AreSettled divisor budget (before ++ after) settled × ((C : Matrix) × (slice_get (before ++ after) (length settled) ≡ Some C) × IsUnderway (divisor C) C budget s)
parts_split divisor budget [] [] [] s all next = absurd next
parts_split divisor budget [] (C ∷ after) [] s all next = (tt, (C, refl, next))
parts_split divisor budget [] after (t ∷ settled) s all next = absurd all
parts_split divisor budget (C ∷ before) after [] s all next = absurd all
parts_split divisor budget (C ∷ before) after (t ∷ settled) s all next = (let r = parts_split divisor budget before after settled s all.1 next in ((all.0, r.0), r.1))

pub parts_of : (needs : List Matrix) (digest : List ℕ) (budget : ℕ) (p : Checkpoint) → IsTrueFor needs digest budget p → TrueParts needs budget p
unfolding whole_start current_of
parts_of needs digest budget p holds =
    let start = holds.start in
    let r = parts_split (divisor_in p.version) budget start.before start.after p.settled (current_of p) start.settled start.current in
    record {
      settled = subst (λ (all : List Matrix). AreSettled (divisor_in p.version) budget all p.settled) (sym start.split) r.0;
      current = (r.1.0, subst (λ (all : List Matrix). slice_get all (length p.settled) ≡ Some r.1.0) (sym start.split) r.1.1, holds.begun, r.1.2.few, r.1.2.best);
    }

-- records that settle the first needs settle just as many of them
settled_before : (divisor : Matrix → ℕ) (budget : ℕ) (needs : List Matrix) (settled : List Progress) → AreSettled divisor budget needs settled → truth.AreSettled divisor budget (take (length settled) needs) settled
settled_before divisor budget needs [] all = tt
settled_before divisor budget [] (s ∷ settled) all = absurd all
settled_before divisor budget (C ∷ needs) (s ∷ settled) all = (all.0, settled_before divisor budget needs settled all.1)

-- how many blocks the records have
abbrev pub blocks_of : List Progress → ℕ
blocks_of settled = sum (map (λ s. s.blocks) settled)

pub blocks_more : (settled : List Progress) (s : Progress) → blocks_of (settled ++ s ∷ []) ≡ blocks_of settled + s.blocks
blocks_more settled s = ap sum (map-append (λ (t : Progress). t.blocks) settled (s ∷ [])) ∙ sum_by-append (λ x. x) (map (λ t. t.blocks) settled) (s.blocks ∷ []) ∙ omega arith

-- steps whose checkpoints are true, the first one with this turn
abbrev pub AreTrueSteps : ℕ → List Matrix → List ℕ → ℕ → ℕ → List SessionStep → Type 0
AreTrueSteps version needs digest budget turn [] = Unit {0}
AreTrueSteps version needs digest budget turn (s ∷ steps) = IsTrueFor needs digest budget (point_of version digest budget turn s) × AreTrueSteps version needs digest budget (next_turn turn) steps

pub true_append : (version : ℕ) (needs : List Matrix) (digest : List ℕ) (budget turn : ℕ) (steps others : List SessionStep) → AreTrueSteps version needs digest budget turn steps → AreTrueSteps version needs digest budget (turn_after turn steps) others → AreTrueSteps version needs digest budget turn (steps ++ others)
true_append version needs digest budget turn [] others h k = k
true_append version needs digest budget turn (s ∷ steps) others h k = (h.0, true_append version needs digest budget (next_turn turn) steps others h.1 k)

pub true_front : (version : ℕ) (needs : List Matrix) (digest : List ℕ) (budget turn : ℕ) (steps others : List SessionStep) → AreTrueSteps version needs digest budget turn (steps ++ others) → AreTrueSteps version needs digest budget turn steps
true_front version needs digest budget turn [] others h = tt
true_front version needs digest budget turn (s ∷ steps) others h = (h.0, true_front version needs digest budget (next_turn turn) steps others h.1)

next_at_most : (turn : ℕ) → next_turn turn ≤ turn + 1
unfolding next_turn
next_at_most turn = omega arith

need_first : (needs : List Matrix) (i : ℕ) (C : Matrix) → slice_get needs i ≡ Some C → drop i needs ≡ C ∷ drop (suc i) needs
need_first [] i C at = absurd (let e = at in cc)
need_first (D ∷ needs) zero C at = (let e = at in cc)
need_first (D ∷ needs) (suc i) C at = need_first needs i C at

step_true : (version : ℕ) (needs : List Matrix) (digest : List ℕ) (budget : ℕ) → (version ≡ 1) ⊎ (version ≡ 2) → (settled : List Progress) (C : Matrix) → AreSettled (divisor_in version) budget needs settled → slice_get needs (length settled) ≡ Some C
    → (t : Progress) (turn : ℕ) → 1 ≤ t.blocks → t.blocks ≤ answer_blocks (answer (divisor_in version C) C budget) → IsBestAt C t → turn < t.blocks + blocks_of settled + turn_allowance version
    → IsTrueFor needs digest budget (point_of version digest budget turn (step_of (divisor_in version C) C settled t))
unfolding point_of step_of current_of whole_start
step_true version needs digest budget known settled C all at t turn some few is_best early = record {
  known = known;
  script = refl;
  budget_is = refl;
  start = record {
    before = take (length settled) needs;
    after = drop (length settled) needs;
    split = sym (take-append-drop (length settled) needs);
    settled = settled_before (divisor_in version) budget needs settled all;
    current = rw (need_first needs (length settled) C at) (record { best = is_best; few = few });
  };
  begun = some;
  turn = early;
}

pub need_true : (version : ℕ) (needs : List Matrix) (digest : List ℕ) (budget : ℕ) → (version ≡ 1) ⊎ (version ≡ 2) → (settled : List Progress) (C : Matrix) → AreSettled (divisor_in version) budget needs settled → slice_get needs (length settled) ≡ Some C
    → (states : List Progress) (s : Progress) (turn : ℕ) → Rises C (answer_blocks (answer (divisor_in version C) C budget)) s.blocks states → turn ≤ s.blocks + blocks_of settled + turn_allowance version
    → AreTrueSteps version needs digest budget turn (map (step_of (divisor_in version C) C settled) states)
    × (turn_after turn (map (step_of (divisor_in version C) C settled) states) ≤ (last_state s states).blocks + blocks_of settled + turn_allowance version)
unfolding last_state
need_true version needs digest budget known settled C all at [] s turn rises l = (tt, l)
need_true version needs digest budget known settled C all at (t ∷ states) s turn rises l =
    let n = next_at_most turn in
    let r = need_true version needs digest budget known settled C all at states t (next_turn turn) rises.3 (omega (arith, l, n, rises.0)) in
    ((step_true version needs digest budget known settled C all at t turn (omega (arith, rises.0)) rises.1 rises.2 (omega (arith, l, rises.0)), r.0), r.1)

-- where a session starts truly, at a turn that isn't too late
pub record IsTrueStart (version : ℕ) (needs : List Matrix) (budget : ℕ) (settled : List Progress) (current : Option Progress) (turn : ℕ) : Type 0 where
  pub done : AreSettled (divisor_in version) budget needs settled
  pub best : (C : Matrix) → slice_get needs (length settled) ≡ Some C → IsBestAt C (unwrap_or current (first_progress C)) × ((unwrap_or current (first_progress C)).blocks ≤ answer_blocks (answer (divisor_in version C) C budget))
  pub early : (C : Matrix) → slice_get needs (length settled) ≡ Some C → turn ≤ (unwrap_or current (first_progress C)).blocks + blocks_of settled + turn_allowance version

-- after a search that the slice didn't stop, the next one starts afresh
unless_stopped : (version : ℕ) (needs : List Matrix) (digest : List ℕ) (budget turn : ℕ) (stopped : Bool) (settled : List Progress) (left : Option ℕ) (later : SessionRounds)
    → (stopped ≡ false → AreTrueSteps version needs digest budget turn later.steps) → AreTrueSteps version needs digest budget turn (cond stopped (no_steps settled left true) later).steps
unfolding no_steps
unless_stopped version needs digest budget turn true settled left later h = tt
unless_stopped version needs digest budget turn false settled left later h = h refl

pub starts_next : (version : ℕ) (needs : List Matrix) (budget : ℕ) (settled : List Progress) (turn : ℕ) → AreSettled (divisor_in version) budget needs settled → turn ≤ blocks_of settled + turn_allowance version → IsTrueStart version needs budget settled None turn
unfolding first_progress progress_of
starts_next version needs budget settled turn all l = record {
  done = all;
  best = λ C is. (first_is_best C, omega arith);
  early = λ C is. omega (arith, l);
}

pub session_true : (version : ℕ) (needs : List Matrix) (digest : List ℕ) (budget longest : ℕ) → (version ≡ 1) ⊎ (version ≡ 2)
    → ((i : ℕ) (C : Matrix) → slice_get needs i ≡ Some C → (slice : Option ℕ) (s : Progress) → IsBestAt C s → s.blocks ≤ answer_blocks (answer (divisor_in version C) C budget) → EndsAtAnswer (divisor_in version C) C budget longest slice s)
    → (left : List Matrix) (slice : Option ℕ) (settled : List Progress) (current : Option Progress) (turn : ℕ) → drop (length settled) needs ≡ left → IsTrueStart version needs budget settled current turn
    → AreTrueSteps version needs digest budget turn (session_from (divisor_in version) left budget longest slice settled current).steps
unfolding session_from steps_first no_steps
session_true version needs digest budget longest known ends [] slice settled current turn is start = tt
session_true version needs digest budget longest known ends (C ∷ left) slice settled current turn is start =
    let s = unwrap_or current (first_progress C) in
    let at = need_at needs (length settled) C left is in
    let r = rounds (divisor_in version C) C budget longest slice s in
    let e = ends (length settled) C at slice s (start.best C at).0 (start.best C at).1 in
    let steps = map (step_of (divisor_in version C) C settled) r.states in
    let n = need_true version needs digest budget known settled C start.done at r.states s turn e.rises (start.early C at) in
    true_append version needs digest budget turn steps _ n.0
    (unless_stopped version needs digest budget (turn_after turn steps) r.is_stopped settled r.left (session_from (divisor_in version) left budget longest r.left (settled ++ last_state s r.states ∷ []) None)
    (λ unstopped.
    let one = settled_one (divisor_in version) budget needs settled C left (last_state s r.states) start.done is (e.ends unstopped) in
    session_true version needs digest budget longest known ends left r.left (settled ++ last_state s r.states ∷ []) None (turn_after turn steps) one.1
    (starts_next version needs budget (settled ++ last_state s r.states ∷ []) (turn_after turn steps) one.0 (omega (arith, n.1, blocks_more settled (last_state s r.states))))))

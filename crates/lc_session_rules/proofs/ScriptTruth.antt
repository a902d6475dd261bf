-- A session that nothing stopped, and that started afresh or from a true checkpoint, prints the text of its script.
--   answers_are          records that settle the needs are answered by the search
--   fresh_answers        a session that started afresh answers so
--   true_over            a true checkpoint is true for the needs of the whole script
--   start_true           where a session starts that resumes it is true
--   true_answers         a session that resumed it answers so
use Rattle.std.proofs.Common.{◌≡◌, ◌≤◌, ◌<◌, ◌^◌, ◌⊎◌, inl, inr, ℕ, zero, suc, false, List, [], ◌∷◌, length, take, drop, Option, Some, refl, sym, ap, subst, ◌∙◌, arith}
use Rattle.std.specs.Prelude.{slice_get}
use Rattle.std.proofs.lemmas.List.{take-append-drop}
use Rattle.std.proofs.lemmas.List.Elements.{All-nil, All-cons}
use Rattle.sha2.specs.Sha256.{sha256}
use Rattle.lc_algebra.specs.Matrix.{Matrix}
use Rattle.lc_algebra.specs.Divisor.{divisor_of}
use Rattle.lc_algebra.proofs.DivisorLaws.{divisor_some}
use Rattle.lc_enumeration.specs.Search.{Answer, answer}
use Rattle.lc_enumeration.specs.Records.{Progress, Start, fresh_start, session_rounds, IsBestAt}
use Rattle.lc_enumeration.specs.Fitting.{used_start}
use Rattle.lc_enumeration.specs.Truth.{answer_blocks, IsSettled, AreSettled, IsUnderway, IsUnderwayNext, IsTrueStart}
use Rattle.lc_infoset.proofs.SessionLaws.{HaveRows as AllRows, fresh_is_true, session_settles}
use Rattle.lc_infoset.proofs.FittingLaws.{used_is_true, used_later}
use Rattle.lc_formats.specs.Checkpoint.{Checkpoint, current_of}
use Rattle.lc_formats.specs.Truth.{divisor_in, whole_start, start_of}
use Rattle.lc_language.specs.declared.Call.{Call}
use Rattle.lc_session_rules.specs.Needs.{MeetsFirst, AgreeAsFar, OneScript, OneStep}
use Rattle.lc_session_rules.specs.Answers.{Settle, answers_of}
use Rattle.lc_session_rules.specs.Slots.{IsTrueCheckpoint}
use Rattle.lc_session_rules.proofs.NeedsLaws.{met_agree}
use Rattle.lc_session_rules.proofs.TrueSteps as steps
use Rattle.lc_session_rules.proofs.TrueSteps.{parts_of}
use Rattle.lc_session_rules.proofs.AskLaws.{HaveRows, met_rows}

pub some_same : {X : Type 0} {a b : X} → Some a ≡ Some b → a ≡ b
some_same e = cc

pub answers_are : (budget : ℕ) (needs : List Matrix) (states : List Progress) (answers : List Answer) → AreSettled divisor_of budget needs states → Settle budget needs states answers → answers ≡ answers_of needs budget
answers_are budget [] [] answers h s = s
answers_are budget [] (t ∷ states) answers h s = absurd h
answers_are budget (C ∷ needs) [] answers h s = absurd h
answers_are budget (C ∷ needs) (t ∷ states) answers h (a, (left, split, e, rest)) =
    let same : a ≡ answer (divisor_of C) C budget = some_same (sym e ∙ h.0) in
    split ∙ ap (λ (l : List Answer). a ∷ l) (answers_are budget needs states left h.1 rest) ∙ ap (λ (x : Answer). x ∷ answers_of needs budget) same

all_rows : (needs : List Matrix) → HaveRows needs → AllRows needs
all_rows [] h = All-nil (λ (C : Matrix). 0 < length C.rows)
all_rows (C ∷ needs) h = All-cons (λ (D : Matrix). 0 < length D.rows) C needs (h 0 C refl) (all_rows needs (λ i D at. h (suc i) D at))

start_answers : (table : List Call) (bytes : List ℕ) (budget longest : ℕ) (needs : List Matrix) (slice : Option ℕ) (start : Start) (answers : List Answer) → budget ≤ 2 ^ 40 → 0 < longest → MeetsFirst table bytes needs → IsTrueStart divisor_of needs budget start → (session_rounds divisor_of needs budget longest slice start).is_stopped ≡ false → Settle budget needs (session_rounds divisor_of needs budget longest slice start).settled answers → answers ≡ answers_of needs budget
start_answers table bytes budget longest needs slice start answers small some met true_start unstopped settle =
    answers_are budget needs (session_rounds divisor_of needs budget longest slice start).settled answers (session_settles divisor_of needs budget longest slice start (all_rows needs (met_rows table bytes needs met)) small some true_start unstopped) settle

pub fresh_answers : (table : List Call) (bytes : List ℕ) (budget longest : ℕ) (needs : List Matrix) (slice : Option ℕ) (answers : List Answer) → budget ≤ 2 ^ 40 → 0 < longest → MeetsFirst table bytes needs → (session_rounds divisor_of needs budget longest slice fresh_start).is_stopped ≡ false → Settle budget needs (session_rounds divisor_of needs budget longest slice fresh_start).settled answers → answers ≡ answers_of needs budget
fresh_answers table bytes budget longest needs slice answers small some met unstopped settle = start_answers table bytes budget longest needs slice fresh_start answers small some met (fresh_is_true divisor_of needs budget) unstopped settle

-- ---- from a true checkpoint

moved : (divisor : Matrix → ℕ) (budget : ℕ) (front needs : List Matrix) (settled : List Progress) → AgreeAsFar front needs → steps.AreSettled divisor budget front settled → length settled ≤ length needs → AreSettled divisor budget (take (length settled) needs) settled
moved divisor budget front needs [] agree h l = tt
moved divisor budget [] needs (s ∷ settled) agree h l = absurd h
moved divisor budget (D ∷ front) [] (s ∷ settled) agree h l = absurd (omega (arith, l))
moved divisor budget (D ∷ front) (C ∷ needs) (s ∷ settled) agree h l =
    let same : D ≡ C = agree 0 D C refl refl in
    (subst (λ (E : Matrix). IsSettled (divisor E) E budget s) same h.0, moved divisor budget front needs settled (λ i E F p q. agree (suc i) E F p q) h.1 (omega (arith, l)))

at_drop : (needs : List Matrix) (n : ℕ) → n < length needs → (C : Matrix) × (rest : List Matrix) × (drop n needs ≡ C ∷ rest) × (slice_get needs n ≡ Some C)
at_drop [] n l = absurd (omega (arith, l))
at_drop (C ∷ needs) zero l = (C, needs, refl, refl)
at_drop (C ∷ needs) (suc n) l = at_drop needs n (omega (arith, l))

underway_by : (p : Checkpoint) (C : Matrix) (budget : ℕ) → p.blocks ≤ answer_blocks (answer (divisor_in p.version C) C budget) → IsBestAt C (current_of p) → IsUnderway (divisor_in p.version C) C budget (current_of p)
unfolding current_of
underway_by p C budget few best = record { best = best; few = few }

pub true_over : (table : List Call) (bytes : List ℕ) (budget : ℕ) (needs : List Matrix) (p : Checkpoint) → OneScript bytes → OneStep table → MeetsFirst table bytes needs → length p.settled < length needs → IsTrueCheckpoint table bytes budget p → IsTrueStart (divisor_in p.version) needs budget (whole_start p)
unfolding whole_start
true_over table bytes budget needs p script one met long holds =
    let d = divisor_in p.version in
    let agree = met_agree table bytes script one holds.0 needs holds.1 met in
    let parts = parts_of holds.0 (sha256 bytes) budget p holds.2 in
    let at = at_drop needs (length p.settled) long in
    let same : parts.current.0 ≡ at.0 = agree (length p.settled) parts.current.0 at.0 parts.current.1 at.3 in
    let under : IsUnderway (d at.0) at.0 budget (current_of p) = subst (λ (D : Matrix). IsUnderway (d D) D budget (current_of p)) same (underway_by p parts.current.0 budget parts.current.3 parts.current.4) in
    record {
      before = take (length p.settled) needs;
      after = drop (length p.settled) needs;
      split = sym (take-append-drop (length p.settled) needs);
      settled = moved d budget holds.0 needs p.settled agree parts.settled (omega (arith, long));
      current = subst (λ (ns : List Matrix). IsUnderwayNext d budget ns (Some (current_of p))) (sym at.2) under;
    }

used_true : (version : ℕ) (needs : List Matrix) (budget : ℕ) (settled : List Progress) (current : Progress) → (version ≡ 1) ⊎ (version ≡ 2) → IsTrueStart (divisor_in version) needs budget (record { settled = settled; current = Some current }) → IsTrueStart divisor_of needs budget (used_start divisor_of needs version settled current)
unfolding divisor_in
used_true version needs budget settled current (inl e) h =
    subst (λ (v : ℕ). IsTrueStart (divisor_in v) needs budget (record { settled = settled; current = Some current }) → IsTrueStart divisor_of needs budget (used_start divisor_of needs v settled current)) (sym e)
    (used_is_true divisor_of needs budget settled current divisor_some) h
used_true version needs budget settled current (inr e) h =
    subst (λ (v : ℕ). IsTrueStart (divisor_in v) needs budget (record { settled = settled; current = Some current }) → IsTrueStart divisor_of needs budget (used_start divisor_of needs v settled current)) (sym e)
    (λ k. subst (IsTrueStart divisor_of needs budget) (sym (used_later divisor_of needs settled current)) k) h

-- where a session starts that resumes it is true
pub start_true : (table : List Call) (bytes : List ℕ) (budget : ℕ) (needs : List Matrix) (p : Checkpoint) → OneScript bytes → OneStep table → MeetsFirst table bytes needs → length p.settled < length needs → IsTrueCheckpoint table bytes budget p → IsTrueStart divisor_of needs budget (start_of needs p)
unfolding start_of whole_start
start_true table bytes budget needs p script one met long holds = used_true p.version needs budget p.settled (current_of p) holds.2.known (true_over table bytes budget needs p script one met long holds)

pub rows_all : (table : List Call) (bytes : List ℕ) (needs : List Matrix) → MeetsFirst table bytes needs → AllRows needs
rows_all table bytes needs met = all_rows needs (met_rows table bytes needs met)

pub true_answers : (table : List Call) (bytes : List ℕ) (budget longest : ℕ) (needs : List Matrix) (slice : Option ℕ) (answers : List Answer) (p : Checkpoint) → OneScript bytes → OneStep table → budget ≤ 2 ^ 40 → 0 < longest → MeetsFirst table bytes needs → length p.settled < length needs → IsTrueCheckpoint table bytes budget p
    → (session_rounds divisor_of needs budget longest slice (start_of needs p)).is_stopped ≡ false → Settle budget needs (session_rounds divisor_of needs budget longest slice (start_of needs p)).settled answers → answers ≡ answers_of needs budget
true_answers table bytes budget longest needs slice answers p script one small some met long holds unstopped settle =
    start_answers table bytes budget longest needs slice (start_of needs p) answers small some met (start_true table bytes budget needs p script one met long holds) unstopped settle

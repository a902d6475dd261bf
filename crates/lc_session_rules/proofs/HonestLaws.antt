-- The text of a session that starts truly is the text of the script: its answers are those of the search.
--   same_needs           the statements of a script have one list of needs
--   text_by_search       the text by the answers of the search is the text of the script
--   fits_within          records that fit are no more than the needs
--   used_settles         a session that goes on from the records used settles each need
--   chosen_true          over true slots the checkpoint that is taken is true
--   fresh_text, resumed_text      the text of `run`, and that of `resume` from a true checkpoint
use Rattle.std.proofs.Common.{◌≡◌, ◌+◌, ◌≤◌, ⊎_elim, ◌⊎◌, inl, inr, ℕ, zero, suc, Bool, true, false, List, [], ◌∷◌, length, drop, take, refl, sym, ap, subst, ◌∙◌, arith, ◌<◌}
use Rattle.std.specs.Prelude.{Option, Some, None, if◌then◌else◌, ◌==◌, nat_lt}
use Rattle.sha2.specs.Sha256.{sha256}
use Rattle.lc_algebra.specs.Matrix.{Matrix}
use Rattle.lc_algebra.specs.Divisor.{divisor_of}
use Rattle.lc_enumeration.specs.Search.{Answer, fits_settled}
use Rattle.lc_enumeration.specs.Records.{Progress, Start, fresh_start, found_of, session_rounds}
use Rattle.lc_enumeration.specs.Fitting.{Misfit, misfit_at, count_current, too_many, misfit_from, misfit, first_divisible, start_before, used_start}
use Rattle.lc_formats.specs.Checkpoint.{Checkpoint, ReadCheckpoint, point, refused, current_of, checkpoint_in}
use Rattle.lc_formats.specs.Truth.{divisor_in, IsTrueFor, start_of}
use Rattle.lc_grammar.specs.Tree.{Statement}
use Rattle.lc_grammar.specs.Grammar.{Reads, Fault, IsFault}
use Rattle.lc_io.specs.declared.vault.Slot.TheVariants.{Zero, One}
use Rattle.lc_io.specs.Vaults.{Slots}
use Rattle.lc_language.specs.declared.Call.{Call}
use Rattle.lc_language.specs.Value.{Binding}
use Rattle.lc_language.specs.Print.{fault_line}
use Rattle.lc_language.specs.Evaluation.{Step, binds, prints, asks, counts, nears, fails, IsText}
use Rattle.lc_session_rules.specs.Needs.{NeedsOn, Needs, IsNeeds, MeetsFirst, OneScript, OneStep, NoFault}
use Rattle.lc_session_rules.specs.Answers.{RunsBy, IsTextBy, Settle, answers_of}
use Rattle.lc_session_rules.specs.Slots.{next_turn, later_of, chosen, IsTornOr, AreTrueSlots, IsTrueCheckpoint}
use Rattle.lc_session_rules.specs.Options.{Settings}
use Rattle.lc_session_rules.specs.Session.{Course, rounds_of, GoesOnFrom, IsFresh, Fits}
use Rattle.lc_session_rules.specs.Chain.{IsVersion, IsGround}
use Rattle.lc_session_rules.proofs.AnswerLaws.{answered_back, met_whole}
use Rattle.lc_session_rules.proofs.NeedsLaws.{met_agree}
use Rattle.lc_session_rules.proofs.GroundLaws.{searches_end, early_enough}
use Rattle.lc_session_rules.proofs.TrueSteps.{starts_next}
use Rattle.lc_session_rules.proofs.ChainLaws.{IsUsed, start_all, start_some, used_whole, used_first}
use Rattle.lc_session_rules.proofs.SettledNeeds.{AreAllSettled, session_settles, settled_answers}

after_same : (step : Step) (env : List Binding) (Later : List Binding → List Matrix → Type 0) (needs others : List Matrix) → ((later : List Binding) (rest left : List Matrix) → Later later rest → Later later left → rest ≡ left) → NeedsOn env step Later needs → NeedsOn env step Later others → needs ≡ others
after_same (binds b) env Later needs others one p q = one (b ∷ env) needs others p q
after_same (prints l) env Later needs others one p q = one env needs others p q
after_same (asks kind C) env Later needs others one p q = p.2 ∙ ap (λ (l : List Matrix). C ∷ l) (one env p.0 q.0 p.1 q.1) ∙ sym q.2
after_same (counts C) env Later needs others one p q = one env needs others p q
after_same (nears C x) env Later needs others one p q = one env needs others p q
after_same (fails r) env Later needs others one p q = p ∙ sym q

pub same_needs : (table : List Call) → OneStep table → (ss : List Statement) (env : List Binding) (needs others : List Matrix) → Needs table env ss needs → Needs table env ss others → needs ≡ others
same_needs table one [] env needs others p q = p ∙ sym q
same_needs table one (s ∷ ss) env needs others p q =
    let moved = subst (λ (step : Step). NeedsOn env step (λ later. Needs table later ss) needs) (one env s p.0 q.0 p.1 q.1) p.2 in
    after_same q.0 env (λ later. Needs table later ss) needs others (λ later rest left a b. same_needs table one ss later rest left a b) moved q.2

pub text_by_search : (table : List Call) (budget : ℕ) (bytes : List ℕ) (needs : List Matrix) (answers : List Answer) (text : List ℕ) (ends : Bool) → OneScript bytes → OneStep table → NoFault bytes → IsNeeds table bytes needs → answers ≡ answers_of needs budget → IsTextBy table budget bytes answers text ends → IsText table budget bytes text ends
text_by_search table budget bytes needs answers text ends script one sound all same by =
    ⊎_elim
    (λ (a : (ss : List Statement) × Reads bytes ss × RunsBy table budget [] ss answers text ends).
    let back = answered_back table budget [] a.0 answers text ends a.2 in
    ⊎_elim
    (λ (b : (ss : List Statement) × Reads bytes ss × Needs table [] ss needs).
    let mine : Needs table [] a.0 needs = subst (λ (ss : List Statement). Needs table [] ss needs) (script b.0 a.0 b.1 a.1) b.2 in
    let are : back.0 ≡ needs = same_needs table one a.0 [] back.0 needs back.1 mine in
    inl (a.0, a.1, back.2 (same ∙ ap (λ (l : List Matrix). answers_of l budget) (sym are))))
    (λ (b : (fault : Fault) × IsFault bytes fault × (needs ≡ [])). absurd (sound a.0 b.0 a.1 b.1)) all)
    (λ (a : (fault : Fault) × IsFault bytes fault × (text ≡ fault_line fault.number fault.offset []) × (ends ≡ true) × (answers ≡ [])). inr (a.0, a.1, a.2, a.3)) by

-- the needs of a script are met by its session
whole_met : (table : List Call) (bytes : List ℕ) (needs : List Matrix) → IsNeeds table bytes needs → MeetsFirst table bytes needs
whole_met table bytes needs all =
    ⊎_elim (λ (a : (ss : List Statement) × Reads bytes ss × Needs table [] ss needs). met_whole table bytes a.0 needs a.1 a.2) (λ (a : (fault : Fault) × IsFault bytes fault × (needs ≡ [])). inl a.2) all

not_too_many : (need n : ℕ) → too_many need n ≡ None → n ≡ 0
unfolding too_many
not_too_many need zero is = refl
not_too_many need (suc n) is = absurd (let e = is in cc)

goes_by : (b : Bool) (x : Option Misfit) (m : Misfit) → (if b then x else Some m) ≡ None → x ≡ None
goes_by true x m is = is
goes_by false x m is = absurd (let e = is in cc)

fits_from : (divisor : Matrix → ℕ) (need : ℕ) (needs : List Matrix) (budget : ℕ) (settled : List Progress) (current : Option Progress) → misfit_from divisor need needs budget settled current ≡ None → length settled ≤ length needs
unfolding misfit_from
fits_from divisor need [] budget settled current is = (let n = not_too_many need (length settled + count_current current) is in omega (arith, n))
fits_from divisor need (C ∷ needs) budget [] current is = omega arith
fits_from divisor need (C ∷ needs) budget (s ∷ settled) current is =
    let l = fits_from divisor (suc need) needs budget settled current (goes_by (fits_settled (divisor C) C budget s.blocks (found_of s)) (misfit_from divisor (suc need) needs budget settled current) (misfit_at need C s) is) in
    omega (arith, l)

pub fits_within : (divisor : Matrix → ℕ) (needs : List Matrix) (budget : ℕ) (start : Start) → misfit divisor needs budget start ≡ None → length start.settled ≤ length needs
unfolding misfit
fits_within divisor needs budget start is = fits_from divisor 0 needs budget start.settled start.current is

used_settles : (table : List Call) (bytes : List ℕ) (budget longest : ℕ) (needs front : List Matrix) (p : Checkpoint) → 0 < longest → IsGround table bytes budget → MeetsFirst table bytes needs → MeetsFirst table bytes front → IsTrueFor front (sha256 bytes) budget p → (slice o : Option ℕ) → IsUsed p needs 2 o
    → length (start_before p.settled (current_of p) o).settled ≤ length needs → (session_rounds (divisor_in 2) needs budget longest slice (start_before p.settled (current_of p) o)).is_stopped ≡ false
    → AreAllSettled 2 budget needs (session_rounds (divisor_in 2) needs budget longest slice (start_before p.settled (current_of p) o)).settled
unfolding session_rounds start_before
used_settles table bytes budget longest needs front p long ground met met_front holds slice None used within unstopped =
    let u = used.all refl in
    session_settles 2 needs (sha256 bytes) budget longest (inr refl) (searches_end table bytes budget longest long ground 2 needs met) (drop (length p.settled) needs) slice p.settled (Some (current_of p)) (next_turn p.turn) refl within
    (start_all bytes budget 2 needs front p (met_agree table bytes ground.script ground.step front needs met_front met) holds u.0 u.1 within) unstopped
used_settles table bytes budget longest needs front p long ground met met_front holds slice (Some i) used within unstopped =
    let u = used.some i refl in
    session_settles 2 needs (sha256 bytes) budget longest (inr refl) (searches_end table bytes budget longest long ground 2 needs met) (drop (length (take i p.settled)) needs) slice (take i p.settled) None (next_turn p.turn) refl within
    (start_some bytes budget 2 needs front p i (met_agree table bytes ground.script ground.step front needs met_front met) holds u.0 u.1 u.2 within) unstopped

first_test : (p : Checkpoint) → p.version ≡ 1 → (p.version == 1) ≡ true
first_test p e = rw e refl

second_test : (p : Checkpoint) → p.version ≡ 2 → (p.version == 1) ≡ false
second_test p e = rw e refl

resumed_settles : (table : List Call) (bytes : List ℕ) (budget longest : ℕ) (needs front : List Matrix) (p : Checkpoint) → 0 < longest → IsGround table bytes budget → MeetsFirst table bytes needs → MeetsFirst table bytes front → IsTrueFor front (sha256 bytes) budget p → IsVersion p.version → (slice : Option ℕ)
    → length (start_of needs p).settled ≤ length needs → (session_rounds divisor_of needs budget longest slice (start_of needs p)).is_stopped ≡ false → AreAllSettled 2 budget needs (session_rounds divisor_of needs budget longest slice (start_of needs p)).settled
unfolding start_of used_start divisor_in
resumed_settles table bytes budget longest needs front p long ground met met_front holds (inl first) slice =
    rw (first_test p first) (used_settles table bytes budget longest needs front p long ground met met_front holds slice (first_divisible divisor_of (take (suc (length p.settled)) needs)) (used_first p needs 2 first (inr refl) (early_enough table bytes budget p ground first (front, met_front, holds))))
resumed_settles table bytes budget longest needs front p long ground met met_front holds (inr second) slice =
    rw (second_test p second) (used_settles table bytes budget longest needs front p long ground met met_front holds slice None (used_whole p needs 2 second))

fresh_settles : (table : List Call) (bytes : List ℕ) (budget longest : ℕ) (needs : List Matrix) → 0 < longest → IsGround table bytes budget → MeetsFirst table bytes needs → (slice : Option ℕ) → (session_rounds divisor_of needs budget longest slice fresh_start).is_stopped ≡ false → AreAllSettled 2 budget needs (session_rounds divisor_of needs budget longest slice fresh_start).settled
unfolding session_rounds fresh_start divisor_in
fresh_settles table bytes budget longest needs long ground met slice unstopped =
    session_settles 2 needs (sha256 bytes) budget longest (inr refl) (searches_end table bytes budget longest long ground 2 needs met) needs slice [] None 0 refl (omega arith) (starts_next 2 needs budget [] 0 tt (omega arith)) unstopped

-- what settles each need gives the answers of the search
by_search : (table : List Call) (bytes : List ℕ) (budget : ℕ) (needs : List Matrix) (states : List Progress) (answers : List Answer) → IsGround table bytes budget → MeetsFirst table bytes needs → AreAllSettled 2 budget needs states → Settle budget needs states answers → answers ≡ answers_of needs budget
unfolding divisor_in
by_search table bytes budget needs states answers ground met all settle = settled_answers budget needs states answers (λ i C at s h. h) all.0 all.1 settle

pub fresh_text : (table : List Call) (asked : Settings) (course : Course) → 1 ≤ asked.round → IsGround table course.bytes asked.budget → NoFault course.bytes → IsFresh course → IsNeeds table course.bytes course.needs → (rounds_of asked course).is_stopped ≡ false
    → (answers : List Answer) → Settle asked.budget course.needs (rounds_of asked course).settled answers → IsTextBy table asked.budget course.bytes answers course.text course.is_faulty → IsText table asked.budget course.bytes course.text course.is_faulty
fresh_text table asked course long ground sound fresh all unstopped answers settle by =
    let met = whole_met table course.bytes course.needs all in
    let over = λ (t : Start). session_rounds divisor_of course.needs asked.budget asked.round asked.slice t in
    let settled = fresh_settles table course.bytes asked.budget asked.round course.needs long ground met asked.slice (sym (ap (λ (t : Start). (over t).is_stopped) fresh.start) ∙ unstopped) in
    let mine : Settle asked.budget course.needs (over fresh_start).settled answers = subst (λ (t : Start). Settle asked.budget course.needs (over t).settled answers) fresh.start settle in
    text_by_search table asked.budget course.bytes course.needs answers course.text course.is_faulty ground.script ground.step sound all (by_search table course.bytes asked.budget course.needs (over fresh_start).settled answers ground met settled mine) by

-- the checkpoint that is taken is one of the two
taken_from : (a b : ReadCheckpoint) (p : Checkpoint) → later_of a b ≡ Some p → (a ≡ point p) ⊎ (b ≡ point p)
unfolding later_of
taken_from (refused r) (refused s) p is = absurd (let e = is in cc)
taken_from (refused r) (point q) p is = inr (let e = is in cc)
taken_from (point q) (refused s) p is = inl (let e = is in cc)
taken_from (point q) (point r) p is = by_turn (nat_lt q.turn r.turn) is
  where
    by_turn : (b : Bool) → (if b then Some r else Some q) ≡ Some p → (point q ≡ point p) ⊎ (point r ≡ point p)
    by_turn true e = inr (let f = e in cc)
    by_turn false e = inl (let f = e in cc)

-- over true slots it is true
pub chosen_true : (table : List Call) (bytes : List ℕ) (budget : ℕ) (slots : Slots) (p : Checkpoint) → AreTrueSlots table bytes budget slots → chosen slots ≡ Some p → IsTrueCheckpoint table bytes budget p
unfolding chosen
chosen_true table bytes budget slots p both is =
    ⊎_elim
    (λ (e : checkpoint_in slots.zero_slot ≡ point p). (let h : IsTornOr Zero table bytes budget (point p) = rw e at both.0 in h.0))
    (λ (e : checkpoint_in slots.one_slot ≡ point p). (let h : IsTornOr One table bytes budget (point p) = rw e at both.1 in h.0))
    (taken_from (checkpoint_in slots.zero_slot) (checkpoint_in slots.one_slot) p is)

pub resumed_text : (table : List Call) (asked : Settings) (held : Option Slots) (course : Course) (p : Checkpoint) → 1 ≤ asked.round → IsGround table course.bytes asked.budget → NoFault course.bytes → GoesOnFrom asked held course p → IsTrueCheckpoint table course.bytes asked.budget p → Fits asked course
    → IsNeeds table course.bytes course.needs → (rounds_of asked course).is_stopped ≡ false
    → (answers : List Answer) → Settle asked.budget course.needs (rounds_of asked course).settled answers → IsTextBy table asked.budget course.bytes answers course.text course.is_faulty → IsText table asked.budget course.bytes course.text course.is_faulty
resumed_text table asked held course p long ground sound from (front, met_front, holds) fits all unstopped answers settle by =
    let met = whole_met table course.bytes course.needs all in
    let over = λ (t : Start). session_rounds divisor_of course.needs asked.budget asked.round asked.slice t in
    let few : length (start_of course.needs p).settled ≤ length course.needs = subst (λ (t : Start). length t.settled ≤ length course.needs) from.start (fits_within divisor_of course.needs asked.budget course.start fits) in
    let settled = resumed_settles table course.bytes asked.budget asked.round course.needs front p long ground met met_front holds holds.known asked.slice few (sym (ap (λ (t : Start). (over t).is_stopped) from.start) ∙ unstopped) in
    let mine : Settle asked.budget course.needs (over (start_of course.needs p)).settled answers = subst (λ (t : Start). Settle asked.budget course.needs (over t).settled answers) from.start settle in
    text_by_search table asked.budget course.bytes course.needs answers course.text course.is_faulty ground.script ground.step sound all (by_search table course.bytes asked.budget course.needs (over (start_of course.needs p)).settled answers ground met settled mine) by

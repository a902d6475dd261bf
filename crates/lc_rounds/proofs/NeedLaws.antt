-- The answer of one need of a session.
--   uncut_stands, cut_stands      how the records stand if the session goes on to a need, with or without what is left of them
--   next_with            the session is about to answer the need
--   answered_more        the answers of the needs so far, and that of one more
--   has_passed, has_not_passed      it passes over a settled need; or the record of that need doesn't fit
--   no_room              memory is refused before a search begins
--   at_search            it begins a search
--   went_on, went_stopped, went_starved      the search is answered; the session stops in it; memory is refused once it is answered
--   starving             memory is refused between two needs
--   passes_on, passes_not, begins_not, stops_so, starves_so, goes_so, anew, not_anew      the same, as the calls of the program say it
use Rattle.std.proofs.Common.{◌≡◌, ◌≤◌, ◌<◌, ◌+◌, ◌⊎◌, inl, inr, ℕ, zero, suc, Bool, true, false, ◌==◌, ◌&&◌, ◌^◌, IfSome, nat_lt, is_some, Result, Ok, Err, is_err, is_ok, if◌then◌else◌, List, [], ◌∷◌, ◌++◌, length, map, take, All, Option, Some, None, option_map, unwrap_or, refl, sym, ap, subst, ◌∙◌, arith}
use Rattle.std.specs.Prelude.{slice_get, slice_index_or, ◌-◌}
use Rattle.std.proofs.lemmas.Option.{slice_get_within, slice_get-map, slice_get-get_or}
use Rattle.std.proofs.lemmas.List.Elements.{All-append, All-cons, All-nil, All-head, All-tail, All-take}
use Rattle.std.proofs.lemmas.Bool.{and_parts}
use Rattle.std.proofs.lemmas.List.{append-nil, append_assoc, length-append, length-map, map-append, take-map}
use Rattle.lc_algebra.specs.Matrix.{Matrix, AreRows}
use Rattle.lc_algebra.specs.Span.{AreIndependent}
use Rattle.lc_algebra.specs.Divisor.{divisor_of}
use Rattle.lc_enumeration.specs.Search.{Found, Answer, answer, finished, fits, fits_settled, weight_at}
use Rattle.lc_enumeration.specs.Records.{Progress, Start, SessionStep, SessionRounds, found_of, first_progress, progress_of, Rounds, rounds, last_state, step_of, no_steps}
use Rattle.lc_enumeration.specs.Fitting.{misfit_at, misfit}
use Rattle.lc_enumeration.specs.Truth.{AnswerHolds, answer_blocks}
use Rattle.lc_infoset.proofs.FittingLaws.{answer_found, finished_state}
use Rattle.lc_infoset.proofs.SearchTruth.{own_answer}
use Rattle.lc_search.specs.State.{SearchState, answer_in, answer_of}
use Rattle.lc_search.specs.declared.answer.Answer.{Answer as Answered}
use Rattle.lc_search.specs.declared.answer.Answer.TheVariants.{Exact, Bracket}
use Rattle.lc_search.proofs.FitLaws.{fitting_word}
use Rattle.lc_rounds.specs.declared.pace.Pace.{Pace}
use Rattle.lc_rounds.specs.declared.rounds.Stop.{Stop}
use Rattle.lc_rounds.specs.declared.rounds.Stop.TheVariants.{Paused, VaultFault, NoMemory}
use Rattle.lc_rounds.specs.Way.{rounds_left, steps_left, Around, IsOnItsWay, HasStopped, Went}
use Rattle.lc_session_rules.specs.Course.{Beginning, after, begins, Waits, Came, Stands, AtNeed, state_at, steps_at, start_next}
use Rattle.lc_formats.specs.Checkpoint.{IsProgress}
use Rattle.lc_checkpoint.specs.Seen.{settled_of}
use Rattle.lc_checkpoint.specs.declared.checkpoint.Settled.{Settled}
use Rattle.lc_session_rules.proofs.FrontLaws.{ends_here, at_need}
use Rattle.lc_session_rules.proofs.SettleLaws.{settled_more, words_more, answer_word}
use Rattle.lc_session_rules.proofs.PlaceLaws.{goes_to, passes, stumbles, enters, trips, starts_anew, waits_quietly, has_searched}
use Rattle.lc_rounds.specs.declared.course.Course.{Course}
use Rattle.lc_rounds.specs.declared.need.Halt.{Halt}
use Rattle.lc_rounds.specs.declared.need.Halt.TheVariants as halt
use Rattle.lc_rounds.specs.declared.records.Answered.{Answered as Answered_}
use Rattle.lc_rounds.specs.Records.{IsPassed, IsNotPassed, IsBegun, IsNotBegun}
use Rattle.lc_rounds.specs.Going.{World, IsOf, IsRanged, settled_in, rounds_from, AreAnswered, Goes, IsUncut, NextStands, IsNext, Misfits, Stops, IsMisfit, Halts}
use Rattle.lc_infoset.proofs.AnswerLaws.{some_set}
use Rattle.lc_rounds.proofs.RangeLaws.{last_within, record_ranged, none_left_over}
use Rattle.lc_rounds.proofs.PassLaws.{same_way, starved}
use Rattle.lc_rounds.specs.Paces.{IsSame}

found_in : Answered → Found
found_in (Exact weight place blocks) = record { weight = weight; place = place }
found_in (Bracket low weight place blocks) = record { weight = weight; place = place }

blocks_in : Answered → ℕ
blocks_in (Exact weight place blocks) = blocks
blocks_in (Bracket low weight place blocks) = blocks

parts_told : (a : Answered) → (answer_found (answer_of a) ≡ found_in a) × (answer_blocks (answer_of a) ≡ blocks_in a)
unfolding answer_found answer_blocks found_in blocks_in
parts_told (Exact weight place blocks) = (refl, refl)
parts_told (Bracket low weight place blocks) = (refl, refl)

as_progress : (s : SearchState) (a : Answered) → answer_in s ≡ Some (answer_of a) → record { blocks = blocks_in a; weight = (found_in a).weight; place = (found_in a).place } ≡ s.progress
unfolding found_of
as_progress s a e =
    let t = finished_state (divisor_of s.code) s.code s.budget s.progress.blocks (found_of s.progress) (answer_of a) e in
    let p = parts_told a in
    let found : found_in a ≡ found_of s.progress = sym p.0 ∙ t.0 in
    let done : blocks_in a ≡ s.progress.blocks = sym p.1 ∙ t.1 in
    ap (λ (x : Found). record { blocks = blocks_in a; weight = x.weight; place = x.place }) found ∙ ap (λ (n : ℕ). record { blocks = n; weight = s.progress.weight; place = s.progress.place }) done

-- ---- the session goes on to a need

pub uncut_stands : (b : Beginning) (version budget longest : ℕ) (slice : Option ℕ) (needs : List Matrix) (C : Matrix) (told : List SessionStep) (settled : List Progress) (left : Option ℕ) (done : List Progress) (o : Option Progress) → Stands b version budget longest slice needs told settled left done o → (is_some o ≡ true → IsUncut version C) → NextStands b version budget longest slice needs C told settled left done o
uncut_stands b version budget longest slice needs C told settled left done (Some current) h uncut = (h, uncut refl)
uncut_stands b version budget longest slice needs C told settled left done None h uncut = goes_to b budget longest slice needs told settled left done C h

pub cut_stands : (b : Beginning) (version budget longest : ℕ) (slice : Option ℕ) (needs : List Matrix) (C : Matrix) (told : List SessionStep) (settled : List Progress) (left : Option ℕ) (done : List Progress) (o : Option Progress) → Stands b version budget longest slice needs told settled left done o → is_some o ≡ true → (version == 1) ≡ true → nat_lt 1 (divisor_of C) ≡ true → NextStands b version budget longest slice needs C told (take (length needs) settled) left done None
cut_stands b version budget longest slice needs C told settled left done (Some current) h some v divisible = starts_anew b version budget longest slice needs told settled left done current h C v divisible
cut_stands b version budget longest slice needs C told settled left done None h some v divisible = absurd (let e = some in cc)

same_of : (w : World) (p q : Pace) → IsSame p q → IsOf w p → IsOf w q
same_of w p q s h = record { keep = s.keep ∙ h.keep; digest = s.script ∙ h.digest; budget = s.budget ∙ h.budget; longest = s.longest ∙ h.longest }

pub next_with : (w : World) (needs : List Matrix) (C : Matrix) (answers : List Answer) (c d : Course) (now : Around) (h : Goes w needs answers c now) → NextStands w.beginning d.version w.budget w.longest w.slice needs C h.told (settled_in d) d.pace.slice h.done (option_map settled_of d.current) → IsSame c.pace d.pace → d.met ≡ c.met → IsNext w needs C answers d now
next_with w needs C answers c d now h stands same met = record {
  told = h.told;
  done = h.done;
  stands = stands;
  way = same_way w.origin h.told c.pace d.pace now same h.way;
  met = met ∙ h.met;
  of = same_of w c.pace d.pace same h.of;
  answered = h.answered;
}

-- ---- what is answered, once more

more_truth : (budget : ℕ) (needs : List Matrix) (C : Matrix) → All (λ D. AnswerHolds D (answer (divisor_of D) D budget)) needs → AnswerHolds C (answer (divisor_of C) C budget) → All (λ D. AnswerHolds D (answer (divisor_of D) D budget)) (needs ++ C ∷ [])
more_truth budget needs C all one = All-append (λ (D : Matrix). AnswerHolds D (answer (divisor_of D) D budget)) needs (C ∷ []) all (All-cons (λ (D : Matrix). AnswerHolds D (answer (divisor_of D) D budget)) C [] one (All-nil (λ (D : Matrix). AnswerHolds D (answer (divisor_of D) D budget))))

pub answered_more : (budget : ℕ) (needs : List Matrix) (done : List Progress) (answers : List Answer) (C : Matrix) (s : Progress) (a : Answer) → AreAnswered budget needs done answers → finished (divisor_of C) C budget s.blocks (found_of s) ≡ Some a → fits C s.blocks (found_of s) ≡ true → AreRows C.field C.columns C.rows → AreIndependent C.field C.columns C.rows
    → AreAnswered budget (needs ++ C ∷ []) (done ++ s ∷ []) (answers ++ a ∷ [])
answered_more budget needs done answers C s a h e f rows free = record {
  settle = settled_more budget needs done answers C s a h.settle e;
  words = words_more needs answers C a h.words (answer_word (divisor_of C) C budget s.blocks (found_of s) a e (fitting_word C s.blocks (found_of s) rows free f));
  truth = more_truth budget needs C h.truth (own_answer C budget rows free);
}

-- ---- a settled need

pub passed_stands : (b : Beginning) (version budget longest : ℕ) (slice : Option ℕ) (needs : List Matrix) (C : Matrix) (told : List SessionStep) (settled : List Progress) (left : Option ℕ) (done : List Progress) (o : Option Progress) (s : Progress) → NextStands b version budget longest slice needs C told settled left done o → slice_get settled (length needs) ≡ Some s → fits_settled (divisor_of C) C budget s.blocks (found_of s) ≡ true
    → Stands b version budget longest slice (needs ++ C ∷ []) told settled left (done ++ s ∷ []) o
passed_stands b version budget longest slice needs C told settled left done (Some current) s h at fit = passes b version budget longest slice needs told settled left done current h.0 C s at h.1 fit
passed_stands b version budget longest slice needs C told settled left done None s h at fit = absurd (let l = slice_get_within settled (length needs) s at in omega (arith, l, h.as_many))

pub has_passed : (w : World) (needs : List Matrix) (C : Matrix) (answers : List Answer) (c d : Course) (now : Around) (s : Progress) (a : Answer) → IsNext w needs C answers c now → slice_get (settled_in c) (length needs) ≡ Some s → fits_settled (divisor_of C) C w.budget s.blocks (found_of s) ≡ true → fits C s.blocks (found_of s) ≡ true → finished (divisor_of C) C w.budget s.blocks (found_of s) ≡ Some a
    → AreRows C.field C.columns C.rows → AreIndependent C.field C.columns C.rows → d ≡ record c { met = c.met + 1 } → Goes w (needs ++ C ∷ []) (answers ++ a ∷ []) d now
has_passed w needs C answers c d now s a h at fit fit_so e rows free same =
    subst (λ (x : Course). Goes w (needs ++ C ∷ []) (answers ++ a ∷ []) x now) (sym same) (record {
      told = h.told;
      done = h.done ++ s ∷ [];
      stands = passed_stands w.beginning c.version w.budget w.longest w.slice needs C h.told (settled_in c) c.pace.slice h.done _ s h.stands at fit;
      way = h.way;
      met = ap (λ (n : ℕ). n + 1) h.met ∙ sym (length-append needs (C ∷ []));
      of = h.of;
      answered = answered_more w.budget needs h.done answers C s a h.answered e fit_so rows free;
    })

quiet_steps : (w : World) (needs : List Matrix) (c : Course) (told : List SessionStep) (done : List Progress) (current : Progress) → Waits w.beginning c.version w.budget w.slice needs told (settled_in c) c.pace.slice done current → (rounds_from w needs).steps ≡ told ++ []
unfolding no_steps
quiet_steps w needs c told done current h = ap (λ (r : SessionRounds). r.steps) (waits_quietly w.beginning c.version w.budget w.longest w.slice needs told (settled_in c) c.pace.slice done current h) ∙ sym (append-nil told ∙ h.silent)

quiet_stands : (w : World) (needs : List Matrix) (C : Matrix) (c : Course) (now : Around) (told : List SessionStep) (done : List Progress) (o : Option Progress) → NextStands w.beginning c.version w.budget w.longest w.slice needs C told (settled_in c) c.pace.slice done o → IsOnItsWay w.origin told c.pace now → IsOf w c.pace → Stops w needs c now NoMemory ⊎ Stops w (needs ++ C ∷ []) c now NoMemory
quiet_stands w needs C c now told done (Some current) h way of = inl (record {
  told = told;
  left = [];
  front = quiet_steps w needs c told done current h.0;
  stopped = starved w.origin told [] _ c.pace now way;
  of = of;
  fitting = inl (refl, h.0.silent);
})
quiet_stands w needs C c now told done None h way of = inr (record {
  told = told;
  left = steps_at divisor_of w.budget w.longest C c.pace.slice (record { settled = settled_in c; current = None });
  front = (at_need divisor_of w.budget w.longest (begins w.beginning) w.slice needs C told (record { settled = settled_in c; current = None }) c.pace.slice h.goes h.as_many).0;
  stopped = starved w.origin told _ _ c.pace now way;
  of = of;
  fitting = inr (h.fits []);
})

-- memory is refused before a search begins
pub no_room : (w : World) (needs : List Matrix) (C : Matrix) (answers : List Answer) (c : Course) (now : Around) → IsNext w needs C answers c now → Halts w needs C c now (halt.Stop NoMemory)
no_room w needs C answers c now h = quiet_stands w needs C c now h.told h.done _ h.stands h.way h.of

silent_way : (w : World) (c : Course) (now : Around) (told : List SessionStep) → told ≡ [] → IsOnItsWay w.origin told c.pace now → IsOnItsWay w.origin [] c.pace now
silent_way w c now told e way = subst (λ (l : List SessionStep). IsOnItsWay w.origin l c.pace now) e way

misfit_by : (need : ℕ) (C : Matrix) (s : Progress) (told found : ℕ) → told ≡ s.weight → found ≡ weight_at C s.place → Some (misfit_at need C s) ≡ Some (record { need = need; told = told; found = found })
unfolding misfit_at
misfit_by need C s told found e f = ap (λ (t : ℕ). Some (record { need = need; told = t; found = weight_at C s.place })) (sym e) ∙ ap (λ (t : ℕ). Some (record { need = need; told = told; found = t })) (sym f)

untrue : (b : Beginning) (version budget : ℕ) (settled : List Progress) (current : Progress) (needs : List Matrix) (C : Matrix) → b ≡ after version settled current → Misfits (after version settled current) budget needs C → Misfits b budget needs C
untrue b version budget settled current needs C e h = subst (λ (x : Beginning). Misfits x budget needs C) (sym e) h

stumbled : (w : World) (needs : List Matrix) (C : Matrix) (c : Course) (now : Around) (told : List SessionStep) (done : List Progress) (o : Option Progress) (s : Progress) (t f : ℕ) → NextStands w.beginning c.version w.budget w.longest w.slice needs C told (settled_in c) c.pace.slice done o → IsOnItsWay w.origin told c.pace now → IsOf w c.pace → slice_get (settled_in c) (length needs) ≡ Some s
    → fits_settled (divisor_of C) C w.budget s.blocks (found_of s) ≡ false → t ≡ s.weight → f ≡ weight_at C s.place
    → IsMisfit w (needs ++ C ∷ []) c now (length needs) t f × Misfits w.beginning w.budget needs C
stumbled w needs C c now told done (Some current) s t f h way of at unfit et ef = (
  record {
    first = stumbles w.beginning c.version w.budget w.longest w.slice needs told (settled_in c) c.pace.slice done current h.0 C s at h.1 unfit ∙ misfit_by (length needs) C s t f et ef;
    way = silent_way w c now told h.0.silent way;
    of = of;
  },
  untrue w.beginning c.version w.budget (settled_in c) current needs C h.0.begun (h.1, inl (s, at, unfit)),
)
stumbled w needs C c now told done None s t f h way of at unfit et ef = absurd (let l = slice_get_within (settled_in c) (length needs) s at in omega (arith, l, h.as_many))

pub has_not_passed : (w : World) (needs : List Matrix) (C : Matrix) (answers : List Answer) (c : Course) (now : Around) (s : Progress) (x : Halt) → IsNext w needs C answers c now → slice_get (settled_in c) (length needs) ≡ Some s → IsNotPassed C w.budget s x → Halts w needs C c now x
has_not_passed w needs C answers c now s (halt.Stop Paused) h at n = absurd n
has_not_passed w needs C answers c now s (halt.Stop VaultFault) h at n = absurd n
has_not_passed w needs C answers c now s (halt.Stop NoMemory) h at n = no_room w needs C answers c now h
has_not_passed w needs C answers c now s (halt.Unfit told found) h at n =
    let r = stumbled w needs C c now h.told h.done _ s told found h.stands h.way h.of at n.0 n.1 n.2 in
    (r.0, r.1, h.met)

-- ---- a search

tripped : (w : World) (needs : List Matrix) (C : Matrix) (c : Course) (now : Around) (told : List SessionStep) (done : List Progress) (o : Option Progress) (t f : ℕ) → NextStands w.beginning c.version w.budget w.longest w.slice needs C told (settled_in c) c.pace.slice done o → IsOnItsWay w.origin told c.pace now → IsOf w c.pace → length (settled_in c) ≡ length needs → IsNotBegun C o (halt.Unfit t f)
    → IsMisfit w (needs ++ C ∷ []) c now (length needs) t f × Misfits w.beginning w.budget needs C
tripped w needs C c now told done (Some current) t f h way of e n = (
  record {
    first = trips w.beginning c.version w.budget w.longest w.slice needs told (settled_in c) c.pace.slice done current h.0 C e h.1 n.0 ∙ misfit_by (length needs) C current t f n.1 n.2;
    way = silent_way w c now told h.0.silent way;
    of = of;
  },
  untrue w.beginning c.version w.budget (settled_in c) current needs C h.0.begun (h.1, inr (e, n.0)),
)
tripped w needs C c now told done None t f h way of e n = absurd n

not_begun_as : (w : World) (needs : List Matrix) (C : Matrix) (answers : List Answer) (c : Course) (now : Around) (o : Option Progress) (x : Halt) → (h : IsNext w needs C answers c now) → NextStands w.beginning c.version w.budget w.longest w.slice needs C h.told (settled_in c) c.pace.slice h.done o → length (settled_in c) ≡ length needs → IsNotBegun C o x → Halts w needs C c now x
not_begun_as w needs C answers c now o (halt.Stop Paused) h stands e n = absurd n
not_begun_as w needs C answers c now o (halt.Stop VaultFault) h stands e n = absurd n
not_begun_as w needs C answers c now o (halt.Stop NoMemory) h stands e n = no_room w needs C answers c now h
not_begun_as w needs C answers c now o (halt.Unfit told found) h stands e n =
    let r = tripped w needs C c now h.told h.done o told found stands h.way h.of e n in
    (r.0, r.1, h.met)

pub at_search : (b : Beginning) (version budget longest : ℕ) (slice : Option ℕ) (needs : List Matrix) (C : Matrix) (told : List SessionStep) (settled : List Progress) (left : Option ℕ) (done : List Progress) (o : Option Progress) → NextStands b version budget longest slice needs C told settled left done o → length settled ≡ length needs → fits C (unwrap_or o (first_progress C)).blocks (found_of (unwrap_or o (first_progress C))) ≡ true
    → AtNeed b budget longest slice needs C told (record { settled = settled; current = o }) left done
at_search b version budget longest slice needs C told settled left done (Some current) h e fit = enters b version budget longest slice needs told settled left done current h.0 C e h.1 fit
at_search b version budget longest slice needs C told settled left done None h e fit = h

-- ---- the rounds of a search

-- the search of this need from this start: its rounds
abbrev pub need_rounds : World → Matrix → Option ℕ → Start → Rounds
need_rounds w C left start = rounds (divisor_of C) C w.budget w.longest left (state_at C start)

pub went_on : (w : World) (needs : List Matrix) (C : Matrix) (answers : List Answer) (c d : Course) (now later : Around) (p : Pace) (h : IsNext w needs C answers c now) (start : Start) (told left : List SessionStep) (last : Progress) (a : Answer)
    → AtNeed w.beginning w.budget w.longest w.slice needs C h.told start c.pace.slice h.done → start.settled ≡ settled_in c
    → steps_at divisor_of w.budget w.longest C c.pace.slice start ≡ told ++ left → left ≡ [] → (need_rounds w C c.pace.slice start).is_stopped ≡ false → IsOnItsWay w.origin (h.told ++ told) p later
    → last ≡ last_state (state_at C start) (need_rounds w C c.pace.slice start).states → finished (divisor_of C) C w.budget last.blocks (found_of last) ≡ Some a → fits C last.blocks (found_of last) ≡ true → AreRows C.field C.columns C.rows → AreIndependent C.field C.columns C.rows
    → IsSame p d.pace → IsOf w p → p.slice ≡ (need_rounds w C c.pace.slice start).left → settled_in d ≡ settled_in c ++ last ∷ [] → option_map settled_of d.current ≡ None → d.met ≡ c.met + 1
    → Goes w (needs ++ C ∷ []) (answers ++ a ∷ []) d later
went_on w needs C answers c d now later p h start told left last a at begun front none unstopped way is_last e fit rows free same of slice settled used met =
    let all : told ≡ steps_at divisor_of w.budget w.longest C c.pace.slice start = sym (append-nil told) ∙ ap (λ (l : List SessionStep). told ++ l) (sym none) ∙ sym front in
    let steps = steps_at divisor_of w.budget w.longest C c.pace.slice start in
    let came = has_searched w.beginning w.budget w.longest w.slice needs C h.told start c.pace.slice h.done at unstopped in
    let settled_is : (start_next divisor_of w.budget w.longest C c.pace.slice start).settled ≡ settled_in d =
    ap (λ (t : Progress). start.settled ++ t ∷ []) (sym is_last) ∙ ap (λ (l : List Progress). l ++ last ∷ []) begun ∙ sym settled in
    let slice_is : (need_rounds w C c.pace.slice start).left ≡ d.pace.slice = sym slice ∙ sym same.slice in
    let here : Came w.beginning w.budget w.longest w.slice (needs ++ C ∷ []) (h.told ++ steps) (settled_in d) d.pace.slice (h.done ++ last ∷ []) =
    subst (λ (t : Progress). Came w.beginning w.budget w.longest w.slice (needs ++ C ∷ []) (h.told ++ steps) (settled_in d) d.pace.slice (h.done ++ t ∷ [])) (sym is_last)
    (subst (λ (o : Option ℕ). Came w.beginning w.budget w.longest w.slice (needs ++ C ∷ []) (h.told ++ steps) (settled_in d) o (h.done ++ last_state (state_at C start) (need_rounds w C c.pace.slice start).states ∷ [])) slice_is
    (subst (λ (l : List Progress). Came w.beginning w.budget w.longest w.slice (needs ++ C ∷ []) (h.told ++ steps) l (need_rounds w C c.pace.slice start).left (h.done ++ last_state (state_at C start) (need_rounds w C c.pace.slice start).states ∷ [])) settled_is came)) in
    record {
      told = h.told ++ steps;
      done = h.done ++ last ∷ [];
      stands = subst (λ (o : Option Progress). Stands w.beginning d.version w.budget w.longest w.slice (needs ++ C ∷ []) (h.told ++ steps) (settled_in d) d.pace.slice (h.done ++ last ∷ []) o) (sym used) here;
      way = same_way w.origin (h.told ++ steps) p d.pace later same (subst (λ (l : List SessionStep). IsOnItsWay w.origin (h.told ++ l) p later) all way);
      met = met ∙ ap (λ (n : ℕ). n + 1) h.met ∙ sym (length-append needs (C ∷ []));
      of = same_of w p d.pace same of;
      answered = answered_more w.budget needs h.done answers C last a h.answered e fit rows free;
    }

pub went_stopped : (w : World) (needs : List Matrix) (C : Matrix) (c d : Course) (later : Around) (before told left : List SessionStep) (done : List Progress) (slice : Option ℕ) (start : Start) (stopped : Bool) (stop : Stop)
    → AtNeed w.beginning w.budget w.longest w.slice needs C before start slice done
    → steps_at divisor_of w.budget w.longest C slice start ≡ told ++ left → stopped ≡ (need_rounds w C slice start).is_stopped → HasStopped w.origin (before ++ told) left stopped d.pace later stop → IsOf w d.pace
    → Halts w needs C d later (halt.Stop stop)
went_stopped w needs C c d later before told left done slice start stopped stop at front same h of =
    let all = at_need divisor_of w.budget w.longest (begins w.beginning) w.slice needs C before start slice at.goes at.as_many in
    inr (record {
      told = before ++ told;
      left = left;
      front = all.0 ∙ ap (λ (l : List SessionStep). before ++ l) front ∙ sym (append_assoc before told left);
      stopped = subst (λ (b : Bool). HasStopped w.origin (before ++ told) left b d.pace later stop) (same ∙ sym all.1) h;
      of = of;
      fitting = inr (at.fits []);
    })

-- memory is refused once the search is answered
pub went_starved : (w : World) (needs : List Matrix) (C : Matrix) (c d : Course) (later : Around) (before told left : List SessionStep) (done : List Progress) (slice : Option ℕ) (start : Start)
    → AtNeed w.beginning w.budget w.longest w.slice needs C before start slice done
    → steps_at divisor_of w.budget w.longest C slice start ≡ told ++ left → IsOnItsWay w.origin (before ++ told) d.pace later → IsOf w d.pace
    → Halts w needs C d later (halt.Stop NoMemory)
went_starved w needs C c d later before told left done slice start at front way of =
    went_stopped w needs C c d later before told left done slice start _ NoMemory at front refl (starved w.origin (before ++ told) left _ d.pace later way) of

-- memory is refused between two needs
pub starving : (w : World) (needs : List Matrix) (answers : List Answer) (c : Course) (now : Around) → Goes w needs answers c now → Stops w needs c now NoMemory
starving w needs answers c now h = by (option_map settled_of c.current) h.stands
  where
    by : (o : Option Progress) → Stands w.beginning c.version w.budget w.longest w.slice needs h.told (settled_in c) c.pace.slice h.done o → Stops w needs c now NoMemory
    by (Some current) s = record {
      told = h.told;
      left = [];
      front = quiet_steps w needs c h.told h.done current s;
      stopped = starved w.origin h.told [] _ c.pace now h.way;
      of = h.of;
      fitting = inl (refl, s.silent);
    }
    by None s = record {
      told = h.told;
      left = [];
      front = ap (λ (r : SessionRounds). r.steps) (ends_here divisor_of w.budget w.longest (begins w.beginning) w.slice needs h.told (record { settled = settled_in c; current = None }) c.pace.slice s.goes (omega (arith, s.as_many))) ∙ sym (append-nil h.told);
      stopped = starved w.origin h.told [] _ c.pace now h.way;
      of = h.of;
      fitting = inr (subst (λ (ns : List Matrix). misfit divisor_of ns w.budget (begins w.beginning ns) ≡ None) (append-nil needs) (s.fits []));
    }

-- ---- the record of an answer

pub recorded_exact : (weight place blocks : ℕ) (s : SearchState) → answer_in s ≡ Some (answer_of (Exact weight place blocks)) → settled_of (record { blocks = blocks; weight = weight; place = place }) ≡ s.progress
unfolding settled_of blocks_in found_in
recorded_exact weight place blocks s e = as_progress s (Exact weight place blocks) e

pub recorded_bracket : (low weight place blocks : ℕ) (s : SearchState) → answer_in s ≡ Some (answer_of (Bracket low weight place blocks)) → settled_of (record { blocks = blocks; weight = weight; place = place }) ≡ s.progress
unfolding settled_of blocks_in found_in
recorded_bracket low weight place blocks s e = as_progress s (Bracket low weight place blocks) e

-- ---- what the calls of the program say

-- a need is passed over
pub passes_on : (w : World) (needs : List Matrix) (C : Matrix) (answers : List Answer) (c d : Course) (now : Around) (s : Progress) (x : Answered_) → slice_get (settled_in c) c.met ≡ Some s → IsPassed C c.pace.point.budget s x → {D : Matrix} → D ≡ x.search.code → AreRows D.field D.columns D.rows → AreIndependent D.field D.columns D.rows
    → d ≡ record c { met = c.met + 1 } → IsNext w needs C answers c now → Goes w (needs ++ C ∷ []) (answers ++ answer_of x.answer ∷ []) d now
passes_on w needs C answers c d now s x at p same_code rows free same h =
    let code : x.search.code ≡ C = ap (λ (y : SearchState). y.code) p.state in
    let words = subst (λ (B : Matrix). AreRows B.field B.columns B.rows) (same_code ∙ code) rows in
    let apart = subst (λ (B : Matrix). AreIndependent B.field B.columns B.rows) (same_code ∙ code) free in
    let budget : c.pace.point.budget ≡ w.budget = h.of.budget in
    let fit = subst (λ (n : ℕ). fits_settled (divisor_of C) C n s.blocks (found_of s) ≡ true) budget p.fitting in
    let e : finished (divisor_of C) C w.budget s.blocks (found_of s) ≡ Some (answer_of x.answer) = subst (λ (n : ℕ). finished (divisor_of C) C n s.blocks (found_of s) ≡ Some (answer_of x.answer)) budget (sym (ap answer_in p.state) ∙ p.answered) in
    has_passed w needs C answers c d now s (answer_of x.answer) h (ap (slice_get (settled_in c)) (sym h.met) ∙ at) fit p.fits_so e words apart same

-- or its record doesn't fit
pub passes_not : (w : World) (needs : List Matrix) (C : Matrix) (answers : List Answer) (c : Course) (now : Around) (s : Progress) (x : Halt) → slice_get (settled_in c) c.met ≡ Some s → IsNotPassed C c.pace.point.budget s x → IsNext w needs C answers c now → Halts w needs C c now x
passes_not w needs C answers c now s x at n h =
    has_not_passed w needs C answers c now s x h (ap (slice_get (settled_in c)) (sym h.met) ∙ at) (subst (λ (b : ℕ). IsNotPassed C b s x) h.of.budget n)

-- ---- the records of the program

all_at : {X : Type 0} (P : X → Type 0) (xs : List X) (i : ℕ) (x : X) → All P xs → slice_get xs i ≡ Some x → P x
all_at P [] i x h at = absurd (let e = at in cc)
all_at P (y ∷ xs) zero x h at = subst P (let e = at in cc) (All-head P y xs h)
all_at P (y ∷ xs) (suc i) x h at = all_at P xs i x (All-tail P y xs h) at

pub record_at : (items : List Settled) (i : ℕ) (x : Settled) → i < length items → x ≡ slice_index_or items i x → slice_get (map settled_of items) i ≡ Some (settled_of x)
record_at items i x l e = slice_get-map settled_of items i ∙ ap (option_map settled_of) (slice_get-get_or items i x l ∙ ap Some (sym e))

pub record_within : (budget : ℕ) (items : List Settled) (i : ℕ) (x : Settled) → All (IsProgress budget) (map settled_of items) → i < length items → x ≡ slice_index_or items i x → x.blocks ≤ budget
unfolding settled_of
record_within budget items i x all l e = (all_at (IsProgress budget) (map settled_of items) i (settled_of x) all (record_at items i x l e)).done

-- ---- a search

pub same_rounds : (w : World) (C : Matrix) (c : Course) (o : Option Progress) (s : SearchState) → IsBegun C c.pace.point.budget o s → IsOf w c.pace → rounds_left c.pace s ≡ need_rounds w C c.pace.slice (record { settled = settled_in c; current = o })
same_rounds w C c o s b of =
    ap (rounds_left c.pace) b.state ∙ ap (λ (n : ℕ). rounds (divisor_of C) C n c.pace.longest c.pace.slice (unwrap_or o (first_progress C))) of.budget
    ∙ ap (λ (n : ℕ). rounds (divisor_of C) C w.budget n c.pace.slice (unwrap_or o (first_progress C))) of.longest

pub same_steps : (w : World) (C : Matrix) (c : Course) (o : Option Progress) (s : SearchState) → IsBegun C c.pace.point.budget o s → IsOf w c.pace → steps_left c.pace s ≡ steps_at divisor_of w.budget w.longest C c.pace.slice (record { settled = settled_in c; current = o })
same_steps w C c o s b of =
    ap (steps_left c.pace) b.state ∙ ap (λ (n : ℕ). map (step_of (divisor_of C) C (settled_in c)) (rounds (divisor_of C) C n c.pace.longest c.pace.slice (unwrap_or o (first_progress C))).states) of.budget
    ∙ ap (λ (n : ℕ). map (step_of (divisor_of C) C (settled_in c)) (rounds (divisor_of C) C w.budget n c.pace.slice (unwrap_or o (first_progress C))).states) of.longest

at_search_here : (w : World) (needs : List Matrix) (C : Matrix) (answers : List Answer) (c : Course) (now : Around) (s : SearchState) → IsBegun C c.pace.point.budget (option_map settled_of c.current) s → length (settled_in c) ≡ c.met → (h : IsNext w needs C answers c now) → AtNeed w.beginning w.budget w.longest w.slice needs C h.told (record { settled = settled_in c; current = option_map settled_of c.current }) c.pace.slice h.done
at_search_here w needs C answers c now s b e h = at_search w.beginning c.version w.budget w.longest w.slice needs C h.told (settled_in c) c.pace.slice h.done (option_map settled_of c.current) h.stands (e ∙ h.met) b.fitting

-- the record of the current need doesn't fit, or memory is refused
pub begins_not : (w : World) (needs : List Matrix) (C : Matrix) (answers : List Answer) (c : Course) (now : Around) (x : Halt) → length (settled_in c) ≡ c.met → IsNotBegun C (option_map settled_of c.current) x → IsNext w needs C answers c now → Halts w needs C c now x
begins_not w needs C answers c now x e n h = not_begun_as w needs C answers c now (option_map settled_of c.current) x h h.stands (e ∙ h.met) n

-- two paces of the same world
pub record IsSameWorld (p q : Pace) : Type 0 where
  pub keep : q.keep ≡ p.keep
  pub script : q.point.script ≡ p.point.script
  pub budget : q.point.budget ≡ p.point.budget
  pub longest : q.longest ≡ p.longest

world_same : (w : World) (p q : Pace) → IsSameWorld p q → IsOf w p → IsOf w q
world_same w p q s h = record { keep = s.keep ∙ h.keep; digest = s.script ∙ h.digest; budget = s.budget ∙ h.budget; longest = s.longest ∙ h.longest }

pub stops_so : (w : World) (needs : List Matrix) (C : Matrix) (answers : List Answer) (c d : Course) (now later : Around) (s : SearchState) (stop : Stop) → IsBegun C c.pace.point.budget (option_map settled_of c.current) s → length (settled_in c) ≡ c.met → IsSameWorld c.pace d.pace → (h : IsNext w needs C answers c now)
    → Went h.told (steps_left c.pace s) (λ told left. HasStopped w.origin told left (rounds_left c.pace s).is_stopped d.pace later stop) → Halts w needs C d later (halt.Stop stop)
stops_so w needs C answers c d now later s stop b e same h went =
    let o = option_map settled_of c.current in
    let at = at_search_here w needs C answers c now s b e h in
    went_stopped w needs C c d later h.told went.told went.left h.done c.pace.slice (record { settled = settled_in c; current = o }) (rounds_left c.pace s).is_stopped stop at (sym (same_steps w C c o s b h.of) ∙ went.front) (ap (λ (r : Rounds). r.is_stopped) (same_rounds w C c o s b h.of)) went.ends_so (world_same w c.pace d.pace same h.of)

pub starves_so : (w : World) (needs : List Matrix) (C : Matrix) (answers : List Answer) (c d : Course) (now later : Around) (s : SearchState) (p : Pace) → IsBegun C c.pace.point.budget (option_map settled_of c.current) s → length (settled_in c) ≡ c.met → IsSameWorld c.pace p → IsSame p d.pace → (h : IsNext w needs C answers c now)
    → Went h.told (steps_left c.pace s) (λ told left. (left ≡ []) × ((rounds_left c.pace s).is_stopped ≡ false) × IsOnItsWay w.origin told p later) → Halts w needs C d later (halt.Stop NoMemory)
starves_so w needs C answers c d now later s p b e world same h went =
    let o = option_map settled_of c.current in
    let at = at_search_here w needs C answers c now s b e h in
    went_starved w needs C c d later h.told went.told went.left h.done c.pace.slice (record { settled = settled_in c; current = o }) at (sym (same_steps w C c o s b h.of) ∙ went.front) (same_way w.origin (h.told ++ went.told) p d.pace later same went.ends_so.2) (same_of w p d.pace same (world_same w c.pace p world h.of))

pub goes_so : (w : World) (needs : List Matrix) (C : Matrix) (answers : List Answer) (c d : Course) (now later : Around) (s t : SearchState) (p : Pace) (a : Answered) → IsBegun C c.pace.point.budget (option_map settled_of c.current) s → length (settled_in c) ≡ c.met → IsSameWorld c.pace p → IsSame p d.pace
    → answer_in t ≡ Some (answer_of a) → t.progress ≡ last_state s.progress (rounds_left c.pace s).states → t.code ≡ s.code → t.budget ≡ s.budget → fits t.code t.progress.blocks (found_of t.progress) ≡ true → p.slice ≡ (rounds_left c.pace s).left
    → {D : Matrix} → D ≡ t.code → AreRows D.field D.columns D.rows → AreIndependent D.field D.columns D.rows → settled_in d ≡ settled_in c ++ t.progress ∷ [] → option_map settled_of d.current ≡ None → d.met ≡ c.met + 1 → (h : IsNext w needs C answers c now)
    → Went h.told (steps_left c.pace s) (λ told left. (left ≡ []) × ((rounds_left c.pace s).is_stopped ≡ false) × IsOnItsWay w.origin told p later) → Goes w (needs ++ C ∷ []) (answers ++ answer_of a ∷ []) d later
goes_so w needs C answers c d now later s t p a b e world same answered state code budget fit slice same_code rows free settled used met h went =
    let o = option_map settled_of c.current in
    let start : Start = record { settled = settled_in c; current = o } in
    let at = at_search_here w needs C answers c now s b e h in
    let rs = same_rounds w C c o s b h.of in
    let here : t.code ≡ C = code ∙ ap (λ (x : SearchState). x.code) b.state in
    let funds : t.budget ≡ w.budget = budget ∙ ap (λ (x : SearchState). x.budget) b.state ∙ h.of.budget in
    let is_last : t.progress ≡ last_state (state_at C start) (need_rounds w C c.pace.slice start).states = state ∙ ap (λ (x : SearchState). last_state x.progress (rounds_left c.pace s).states) b.state ∙ ap (λ (r : Rounds). last_state (state_at C start) r.states) rs in
    let words = subst (λ (B : Matrix). AreRows B.field B.columns B.rows) (same_code ∙ here) rows in
    let apart = subst (λ (B : Matrix). AreIndependent B.field B.columns B.rows) (same_code ∙ here) free in
    let f = subst (λ (B : Matrix). fits B t.progress.blocks (found_of t.progress) ≡ true) here fit in
    let g : finished (divisor_of C) C w.budget t.progress.blocks (found_of t.progress) ≡ Some (answer_of a) =
    subst (λ (n : ℕ). finished (divisor_of C) C n t.progress.blocks (found_of t.progress) ≡ Some (answer_of a)) funds (subst (λ (B : Matrix). finished (divisor_of B) B t.budget t.progress.blocks (found_of t.progress) ≡ Some (answer_of a)) here answered) in
    went_on w needs C answers c d now later p h start went.told went.left t.progress (answer_of a) at refl (sym (same_steps w C c o s b h.of) ∙ went.front) went.ends_so.0 (sym (ap (λ (r : Rounds). r.is_stopped) rs) ∙ went.ends_so.1) went.ends_so.2 is_last g f words apart same (world_same w c.pace p world h.of) (slice ∙ ap (λ (r : Rounds). r.left) rs) settled used met

-- ---- where a need is answered

taken_long : {X : Type 0} (n : ℕ) (xs : List X) → n ≤ length xs → length (take n xs) ≡ n
taken_long zero xs l = refl
taken_long (suc n) [] l = absurd (omega (arith, l))
taken_long (suc n) (x ∷ xs) l = ap suc (taken_long n xs (omega (arith, l)))

-- whether the records from a need on aren't used
abbrev pub begins_anew : Course → Matrix → Bool
begins_anew c C = is_some c.current && ((c.version == 1) && nat_lt 1 (divisor_of C))

is_some_map : {A B : Type 0} (f : A → B) (o : Option A) → is_some (option_map f o) ≡ is_some o
is_some_map f None = refl
is_some_map f (Some a) = refl

pub anew : (w : World) (needs : List Matrix) (C : Matrix) (answers : List Answer) (c d : Course) (now : Around) → begins_anew c C ≡ true → d.pace.point.settled.items ≡ take c.met c.pace.point.settled.items → d.current ≡ None → IsSame c.pace d.pace → d.met ≡ c.met → Goes w needs answers c now → IsNext w needs C answers d now
anew w needs C answers c d now b cut none same met h =
    let p = and_parts (is_some c.current) ((c.version == 1) && nat_lt 1 (divisor_of C)) b in
    let q = and_parts (c.version == 1) (nat_lt 1 (divisor_of C)) p.1 in
    let stands = cut_stands w.beginning c.version w.budget w.longest w.slice needs C h.told (settled_in c) c.pace.slice h.done (option_map settled_of c.current) h.stands (is_some_map settled_of c.current ∙ p.0) q.0 q.1 in
    let settled : take (length needs) (settled_in c) ≡ settled_in d = ap (λ (n : ℕ). take n (settled_in c)) (sym h.met) ∙ take-map settled_of c.met c.pace.point.settled.items ∙ ap (map settled_of) (sym cut) in
    next_with w needs C answers c d now h
    (subst (λ (o : Option Settled). NextStands w.beginning d.version w.budget w.longest w.slice needs C h.told (settled_in d) d.pace.slice h.done (option_map settled_of o)) (sym none)
    (subst (λ (o : Option ℕ). AtNeed w.beginning w.budget w.longest w.slice needs C h.told (record { settled = settled_in d; current = None }) o h.done) (sym same.slice)
    (subst (λ (l : List Progress). AtNeed w.beginning w.budget w.longest w.slice needs C h.told (record { settled = l; current = None }) c.pace.slice h.done) settled stands))) same met

uncut_by : (some first divisible : Bool) → (some && (first && divisible)) ≡ false → some ≡ true → first ≡ true → divisible ≡ false
uncut_by true true divisible e f g = e
uncut_by true false divisible e f g = absurd (let h = g in cc)
uncut_by false first divisible e f g = absurd (let h = f in cc)

pub not_anew : (w : World) (needs : List Matrix) (C : Matrix) (answers : List Answer) (c : Course) (now : Around) → begins_anew c C ≡ false → Goes w needs answers c now → IsNext w needs C answers c now
not_anew w needs C answers c now b h =
    next_with w needs C answers c c now h
    (uncut_stands w.beginning c.version w.budget w.longest w.slice needs C h.told (settled_in c) c.pace.slice h.done (option_map settled_of c.current) h.stands (λ some v. uncut_by (is_some c.current) (c.version == 1) (nat_lt 1 (divisor_of C)) b (sym (is_some_map settled_of c.current) ∙ some) v))
    (record { keep = refl; told = refl; last = refl; slice = refl; longest = refl; turn = refl; script = refl; budget = refl }) refl

pub anew_ranged : (c d : Course) → d.pace.point.settled.items ≡ take c.met c.pace.point.settled.items → d.current ≡ None → IsSame c.pace d.pace → d.pace.point.version ≡ c.pace.point.version → d.met ≡ c.met → IsRanged c → IsRanged d
anew_ranged c d cut none same version met h = record {
  version = version ∙ h.version;
  longest = (omega (arith, same.longest, h.longest.0), omega (arith, same.longest, h.longest.1));
  turn = omega (arith, same.turn, h.turn);
  small = omega (arith, same.budget, h.small);
  settled = subst (λ (b : ℕ). All (IsProgress b) (settled_in d)) (sym same.budget)
      (subst (λ (l : List Progress). All (IsProgress c.pace.point.budget) l) (take-map settled_of c.met c.pace.point.settled.items ∙ ap (map settled_of) (sym cut)) (All-take (IsProgress c.pace.point.budget) c.met (settled_in c) h.settled));
  current = subst (λ (o : Option Settled). IfSome o (λ r. IsProgress d.pace.point.budget (settled_of r))) (sym none) tt;
  told = omega (arith, same.told, met, h.told);
  slice = λ e. same.slice ∙ h.slice (sym same.keep ∙ e);
  many = (let l = taken_long c.met c.pace.point.settled.items h.many in omega (arith, met, l, ap (λ (xs : List Settled). length xs) cut));
}

pub anew_long : (c : Course) (items : List Settled) → items ≡ take c.met c.pace.point.settled.items → IsRanged c → length items ≡ c.met
anew_long c items cut h = ap (λ (xs : List Settled). length xs) cut ∙ taken_long c.met c.pace.point.settled.items h.many

-- the session after a search
pub searched_ranged : (c d : Course) (last : Settled) → IsRanged c → IsProgress c.pace.point.budget (settled_of last) → length c.pace.point.settled.items ≡ c.met → d.pace.point.version ≡ 2 → d.pace.point.turn ≤ 2 ^ 60 → d.pace.point.budget ≡ c.pace.point.budget → d.pace.point.settled.items ≡ c.pace.point.settled.items ++ last ∷ [] → d.current ≡ None
    → d.pace.told ≤ c.pace.told + 2 ^ 40 → d.pace.keep ≡ c.pace.keep → d.pace.longest ≡ c.pace.longest → (c.pace.slice ≡ None → d.pace.slice ≡ None) → d.met ≡ c.met + 1 → IsRanged d
searched_ranged c d last h one long version turn funds settled none told keep rounds_same slice met = record {
  version = version;
  longest = (omega (arith, rounds_same, h.longest.0), omega (arith, rounds_same, h.longest.1));
  turn = turn;
  small = omega (arith, funds, h.small);
  settled = subst (λ (b : ℕ). All (IsProgress b) (settled_in d)) (sym funds)
      (subst (λ (l : List Progress). All (IsProgress c.pace.point.budget) l) (sym (ap (map settled_of) settled ∙ map-append settled_of c.pace.point.settled.items (last ∷ [])))
      (All-append (IsProgress c.pace.point.budget) (settled_in c) (settled_of last ∷ []) h.settled (All-cons (IsProgress c.pace.point.budget) (settled_of last) [] one (All-nil (IsProgress c.pace.point.budget)))));
  current = subst (λ (o : Option Settled). IfSome o (λ r. IsProgress d.pace.point.budget (settled_of r))) (sym none) tt;
  told = omega (arith, told, met, h.told);
  slice = λ e. slice (h.slice (sym keep ∙ e));
  many = omega (arith, met, long, ap (λ (xs : List Settled). length xs) settled, length-append c.pace.point.settled.items (last ∷ []));
}

pub settled_long : (c : Course) → length c.pace.point.settled.items ≡ c.met → length (settled_in c) ≡ c.met
settled_long c e = length-map c.pace.point.settled.items settled_of ∙ e

-- ---- what the program keeps of a search

pub on_ok : {A E : Type 0} (r : Result A E) (zs xs ys : List Settled) → is_err r ≡ false → zs ≡ (if is_ok r then xs else ys) → zs ≡ xs
on_ok (Ok a) zs xs ys e h = h
on_ok (Err x) zs xs ys e h = absurd (let f = e in cc)

pub pushed : (c : Course) (p : Pace) (items : List Settled) (last : Settled) (s : Progress) → items ≡ p.point.settled.items ++ last ∷ [] → p.point.settled.items ≡ c.pace.point.settled.items → settled_of last ≡ s → map settled_of items ≡ settled_in c ++ s ∷ []
pushed c p items last s is same e =
    ap (map settled_of) (is ∙ ap (λ (l : List Settled). l ++ last ∷ []) same) ∙ map-append settled_of c.pace.point.settled.items (last ∷ []) ∙ ap (λ (x : Progress). settled_in c ++ x ∷ []) e

begun_within : (C : Matrix) (budget : ℕ) (o : Option Settled) → IfSome o (λ r. IsProgress budget (settled_of r)) → (unwrap_or (option_map settled_of o) (first_progress C)).blocks ≤ budget
unfolding first_progress progress_of
begun_within C budget None h = omega arith
begun_within C budget (Some r) h = h.done

pub few_blocks : (c : Course) (C : Matrix) (s t : SearchState) → IsRanged c → IsBegun C c.pace.point.budget (option_map settled_of c.current) s → t.progress ≡ last_state s.progress (rounds_left c.pace s).states → t.progress.blocks ≤ c.pace.point.budget
few_blocks c C s t h b state =
    let start = unwrap_or (option_map settled_of c.current) (first_progress C) in
    let is : t.progress ≡ last_state start (rounds (divisor_of C) C c.pace.point.budget c.pace.longest c.pace.slice start).states = state ∙ ap (λ (x : SearchState). last_state x.progress (rounds_left c.pace x).states) b.state in
    let l = last_within (divisor_of C) C c.pace.point.budget c.pace.longest c.pace.slice start (begun_within C c.pace.point.budget c.current h.current) in
    omega (arith, l, ap (λ (x : Progress). x.blocks) is)

pub one_ranged : {D : Matrix} (t : SearchState) (budget : ℕ) (last : Settled) → settled_of last ≡ t.progress → D ≡ t.code → AreRows D.field D.columns D.rows → AreIndependent D.field D.columns D.rows → D.columns ≤ 255 → fits t.code t.progress.blocks (found_of t.progress) ≡ true → t.progress.blocks ≤ budget → budget ≤ 2 ^ 40 → IsProgress budget (settled_of last)
one_ranged {D = D} t budget last e same rows free long fit few small =
    subst (IsProgress budget) (sym e)
    (record_ranged D budget t.progress rows free long (some_set D) (subst (λ (B : Matrix). fits B t.progress.blocks (found_of t.progress) ≡ true) (sym same) fit) few small)

pub told_more : (c : Course) (told : ℕ) (s t : SearchState) → IsRanged c → told ≤ c.pace.told + (t.progress.blocks - s.progress.blocks) → t.progress.blocks ≤ c.pace.point.budget → told ≤ c.pace.told + 2 ^ 40
told_more c told s t h l few = omega (arith, l, few, h.small)

pub slice_kept : (c : Course) (C : Matrix) (s : SearchState) (slice : Option ℕ) → slice ≡ (rounds_left c.pace s).left → c.pace.slice ≡ None → slice ≡ None
slice_kept c C s slice is none = is ∙ ap (λ (o : Option ℕ). (rounds (divisor_of s.code) s.code s.budget c.pace.longest o s.progress).left) none ∙ none_left_over (divisor_of s.code) s.code s.budget c.pace.longest s.progress

pub ruleset record_of_laws = (recorded_exact, recorded_bracket)

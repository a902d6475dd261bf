-- A session on its way through the rounds of a search.
--   GoesOn first start entry pace s now      it went on since the search began: these states were passed, and their steps were told
--   goes_first, goes_next      before the first round, and after one more
--   ends_answered              once the search is answered
--   ends_used_up               once the slice is used up
--   ends_stopped               once a step stopped it
use Rattle.std.proofs.Common.{◌≡◌, ℕ, ◌+◌, ◌-◌, ◌^◌, ◌<◌, ◌≤◌, Bool, true, false, List, [], ◌∷◌, ◌++◌, inr, map, refl, sym, ap, subst, ◌∙◌, append_assoc, arith}
use Rattle.std.specs.Prelude.{Option, Some, None}
use Rattle.std.proofs.lemmas.List.{append-nil, map-append}
use Rattle.lc_algebra.specs.Matrix.{Matrix}
use Rattle.lc_algebra.specs.Divisor.{divisor_of}
use Rattle.lc_enumeration.specs.Search.{Answer, fits}
use Rattle.lc_enumeration.specs.Records.{Progress, SessionStep, found_of, step_of, is_used_up, less_slice, last_state}
use Rattle.lc_checkpoint.specs.Seen.{settled_of, point_of}
use Rattle.lc_infoset.proofs.RoundLaws.{used_up}
use Rattle.lc_search.specs.State.{SearchState, answer_in}
use Rattle.lc_rounds.specs.declared.pace.Pace.{Pace}
use Rattle.lc_rounds.specs.declared.rounds.Stop.{Stop}
use Rattle.lc_rounds.specs.declared.rounds.Stop.TheVariants.{Paused, VaultFault, NoMemory}
use Rattle.lc_rounds.specs.Way.{rounds_left, steps_left, Around, Origin, Stored, IsOnItsWay, HasStopped, Went}
use Rattle.lc_rounds.specs.Step.{next_state, next_step, after_next, after_step, IsSameSession, StopsAt}
use Rattle.lc_rounds.proofs.CourseLaws.{IsPassed, passed_none, passed_more, passed_front, passed_all, passed_up}

-- the step of a state
abbrev pub step_at : Pace → SearchState → Progress → SessionStep
step_at pace s = step_of (divisor_of s.code) s.code (map settled_of pace.point.settled.items)

pub record GoesOn (first : Pace) (start : SearchState) (entry : Around) (pace : Pace) (s : SearchState) (now : Around) : Type 0 where
  pub past : List Progress
  pub passed : IsPassed (rounds_left first start) start.progress (divisor_of s.code) s.code s.budget pace.longest pace.slice s.progress past
  pub goes : (o : Origin) (before : List SessionStep) → IsOnItsWay o before first entry → IsOnItsWay o (before ++ map (step_at first start) past) pace now
  pub code : s.code ≡ start.code
  pub budget : s.budget ≡ start.budget
  pub same : IsSameSession first pace
  pub turn : pace.point.turn ≤ 2 ^ 60
  pub fitting : fits s.code s.progress.blocks (found_of s.progress) ≡ true
  pub further : start.progress.blocks ≤ s.progress.blocks
  pub told : pace.told ≤ first.told + (s.progress.blocks - start.progress.blocks)
  pub room : pace.told + (s.budget - s.progress.blocks) ≤ first.told + (start.budget - start.progress.blocks)
  pub kept : pace.keep ≡ false → pace.slice ≡ None

pub goes_first : (pace : Pace) (s : SearchState) (now : Around) → pace.point.turn ≤ 2 ^ 60 → fits s.code s.progress.blocks (found_of s.progress) ≡ true → (pace.keep ≡ false → pace.slice ≡ None) → GoesOn pace s now pace s now
goes_first pace s now turn fitting kept = record {
  past = [];
  passed = passed_none (divisor_of s.code) s.code s.budget pace.longest pace.slice s.progress;
  goes = λ o before h. subst (λ (t : List SessionStep). IsOnItsWay o t pace now) (sym (append-nil before)) h;
  code = refl;
  budget = refl;
  same = record { keep = refl; longest = refl; version = refl; script = refl; budget = refl; settled = refl };
  turn = turn;
  fitting = fitting;
  further = omega arith;
  told = omega arith;
  room = omega arith;
  kept = kept;
}

same_twice : (a b c : Pace) → IsSameSession a b → IsSameSession b c → IsSameSession a c
same_twice a b c g h = record {
  keep = h.keep ∙ g.keep;
  longest = h.longest ∙ g.longest;
  version = h.version ∙ g.version;
  script = h.script ∙ g.script;
  budget = h.budget ∙ g.budget;
  settled = h.settled ∙ g.settled;
}

none_less : (slice : Option ℕ) (n : ℕ) → slice ≡ None → less_slice slice n ≡ None
unfolding less_slice
none_less slice n e = ap (λ (o : Option ℕ). less_slice o n) e

module _ (first : Pace) (start : SearchState) (entry : Around) (pace : Pace) (s : SearchState) (now : Around) (g : GoesOn first start entry pace s now) where
  step_same : step_at pace s ≡ step_at first start
  step_same = ap (λ (C : Matrix). step_of (divisor_of C) C (map settled_of pace.point.settled.items)) g.code ∙ ap (step_of (divisor_of start.code) start.code) (ap (λ v. map settled_of v.items) g.same.settled)

  next_told : map (step_at first start) (g.past ++ next_state pace s ∷ []) ≡ map (step_at first start) g.past ++ next_step pace s ∷ []
  next_told =
      map-append (step_at first start) g.past (next_state pace s ∷ [])
      ∙ ap (λ (f : Progress → SessionStep). map (step_at first start) g.past ++ f (next_state pace s) ∷ []) (sym step_same)

  longer : (before : List SessionStep) → (before ++ map (step_at first start) g.past) ++ next_step pace s ∷ [] ≡ before ++ map (step_at first start) (g.past ++ next_state pace s ∷ [])
  longer before = append_assoc before (map (step_at first start) g.past) (next_step pace s ∷ []) ∙ ap (λ (t : List SessionStep). before ++ t) (sym next_told)

  pub goes_next : (later : Pace) (t : SearchState) (then : Around) → answer_in s ≡ None → is_used_up pace.slice ≡ false → later ≡ after_step pace s → t ≡ after_next pace s → s.progress.blocks < t.progress.blocks → t.progress.blocks ≤ s.budget
      → IsSameSession pace later → later.point.turn ≤ 2 ^ 60 → fits t.code t.progress.blocks (found_of t.progress) ≡ true → later.told ≤ pace.told + (t.progress.blocks - s.progress.blocks)
      → ((o : Origin) (told : List SessionStep) → IsOnItsWay o told pace now → IsOnItsWay o (told ++ next_step pace s ∷ []) later then)
      → GoesOn first start entry later t then
  goes_next later t then going open_yet is at further within same turn fitting told step =
      let passed = passed_more (rounds_left first start) start.progress (divisor_of s.code) s.code s.budget pace.longest pace.slice s.progress g.past g.passed going open_yet (subst (λ (u : SearchState). s.progress.blocks < u.progress.blocks) at further) (subst (λ (u : SearchState). u.progress.blocks ≤ s.budget) at within) in
      record {
        past = g.past ++ next_state pace s ∷ [];
        passed = subst (λ (u : SearchState). IsPassed (rounds_left first start) start.progress (divisor_of u.code) u.code u.budget later.longest later.slice u.progress (g.past ++ next_state pace s ∷ [])) (sym at)
            (subst (λ (p : Pace). IsPassed (rounds_left first start) start.progress (divisor_of s.code) s.code s.budget p.longest p.slice (next_state pace s) (g.past ++ next_state pace s ∷ [])) (sym is) passed);
        goes = λ o before h. subst (λ (l : List SessionStep). IsOnItsWay o l later then) (longer before) (step o (before ++ map (step_at first start) g.past) (g.goes o before h));
        code = ap (λ (u : SearchState). u.code) at ∙ g.code;
        budget = ap (λ (u : SearchState). u.budget) at ∙ g.budget;
        same = same_twice first pace later g.same same;
        turn = turn;
        fitting = fitting;
        further = (let f = g.further in omega (arith, f, further));
        told = (let f = g.further in let n = g.told in omega (arith, f, n, further, told));
        room = (let n = g.room in let b = ap (λ (u : SearchState). u.budget) at in omega (arith, n, further, within, told, b));
        kept = λ k. ap (λ (p : Pace). p.slice) is ∙ none_less pace.slice _ (g.kept (sym same.keep ∙ k));
      }

  pub ends_answered : (a : Answer) → answer_in s ≡ Some a → (o : Origin) (before : List SessionStep) → IsOnItsWay o before first entry
      → Went before (steps_left first start) (λ told left. (left ≡ []) × ((rounds_left first start).is_stopped ≡ false) × IsOnItsWay o told pace now)
  ends_answered a e o before h =
      let done = passed_all (rounds_left first start) start.progress (divisor_of s.code) s.code s.budget pace.longest pace.slice s.progress g.past a g.passed e in
      record {
        told = map (step_at first start) g.past;
        left = [];
        front = ap (map (step_at first start)) done.0 ∙ sym (append-nil (map (step_at first start) g.past));
        ends_so = (refl, done.2, g.goes o before h);
      }

  pub state_answered : (a : Answer) → answer_in s ≡ Some a → (s.progress ≡ last_state start.progress (rounds_left first start).states) × (pace.slice ≡ (rounds_left first start).left)
  state_answered a e =
      let done = passed_all (rounds_left first start) start.progress (divisor_of s.code) s.code s.budget pace.longest pace.slice s.progress g.past a g.passed e in
      (sym g.passed.last ∙ ap (last_state start.progress) (sym done.0), sym done.1)

  pub ends_used_up : answer_in s ≡ None → is_used_up pace.slice ≡ true → (o : Origin) (before : List SessionStep) → IsOnItsWay o before first entry
      → Went before (steps_left first start) (λ told left. HasStopped o told left (rounds_left first start).is_stopped pace now Paused)
  ends_used_up e u o before h =
      let z = used_up pace.slice u in
      let up = passed_up (rounds_left first start) start.progress (divisor_of s.code) s.code s.budget pace.longest pace.slice s.progress g.past g.passed e u in
      let w = g.goes o before h in
      let keep = must_keep pace.keep refl in
      record {
        told = map (step_at first start) g.past;
        left = [];
        front = ap (map (step_at first start)) up.0 ∙ sym (append-nil (map (step_at first start) g.past));
        ends_so = record {
          count = w.count;
          is_paused = w.is_paused;
          heard = w.heard;
          stops = (keep, w.begun z, inr (refl, up.1), subst (λ (b : Bool). Stored b (point_of pace.point).script pace.point.budget o.turn (before ++ map (step_at first start) g.past) o.around.vault now.vault) keep w.stored, w.quiet);
        };
      }
    where
      must_keep : (b : Bool) → pace.keep ≡ b → pace.keep ≡ true
      must_keep true k = k
      must_keep false k = absurd (let n : ◌≡◌ {A = Option ℕ} (Some 0) None = sym (used_up pace.slice u) ∙ g.kept k in cc)

  -- the steps that are left at a further round
  stopped_front : answer_in s ≡ None → is_used_up pace.slice ≡ false
      → (rest : List Progress) × (steps_left first start ≡ map (step_at first start) (g.past ++ next_state pace s ∷ []) ++ map (step_at first start) rest)
  stopped_front going open_yet =
      let f = passed_front (rounds_left first start) start.progress (divisor_of s.code) s.code s.budget pace.longest pace.slice s.progress g.past g.passed going open_yet in
      (f.0, ap (map (step_at first start)) f.1 ∙ map-append (step_at first start) (g.past ++ next_state pace s ∷ []) f.0)

  pub ends_stopped : (later : Pace) (then : Around) (stop : Stop) → answer_in s ≡ None → is_used_up pace.slice ≡ false → ((o : Origin) (told : List SessionStep) → IsOnItsWay o told pace now → StopsAt o told (next_step pace s) later then stop)
      → (o : Origin) (before : List SessionStep) → IsOnItsWay o before first entry → Went before (steps_left first start) (λ told left. HasStopped o told left (rounds_left first start).is_stopped later then stop)
  ends_stopped later then Paused going open_yet stops o before h =
      let f = stopped_front going open_yet in
      record {
        told = map (step_at first start) (g.past ++ next_state pace s ∷ []);
        left = map (step_at first start) f.0;
        front = f.1;
        ends_so = subst (λ (l : List SessionStep). HasStopped o l (map (step_at first start) f.0) (rounds_left first start).is_stopped later then Paused) (longer before)
            (stops o (before ++ map (step_at first start) g.past) (g.goes o before h) (map (step_at first start) f.0) (rounds_left first start).is_stopped);
      }
  ends_stopped later then VaultFault going open_yet stops o before h =
      let f = stopped_front going open_yet in
      record {
        told = map (step_at first start) g.past;
        left = next_step pace s ∷ map (step_at first start) f.0;
        front = f.1 ∙ ap (λ (l : List SessionStep). l ++ map (step_at first start) f.0) next_told ∙ append_assoc (map (step_at first start) g.past) (next_step pace s ∷ []) (map (step_at first start) f.0);
        ends_so = stops o (before ++ map (step_at first start) g.past) (g.goes o before h) (map (step_at first start) f.0) (rounds_left first start).is_stopped;
      }
  ends_stopped later then NoMemory going open_yet stops o before h =
      let f = stopped_front going open_yet in
      record {
        told = map (step_at first start) g.past;
        left = next_step pace s ∷ map (step_at first start) f.0;
        front = f.1 ∙ ap (λ (l : List SessionStep). l ++ map (step_at first start) f.0) next_told ∙ append_assoc (map (step_at first start) g.past) (next_step pace s ∷ []) (map (step_at first start) f.0);
        ends_so = stops o (before ++ map (step_at first start) g.past) (g.goes o before h) (map (step_at first start) f.0) (rounds_left first start).is_stopped;
      }

-- The fault of the grammar is at the token at which the course of the tokens stops; they are a script if it doesn't stop.
--   IsFaultOf all ending f          f is the first fault of the tokens
--   fault_is_course, fault_of_course      the course of tokens comes to their first fault
--   outcome_ending                  only at the script's end does it come to a script
--   script_outcome, outcome_script  the script of the bytes is what the course of their tokens comes to
use Rattle.std.proofs.Common.{◌≡◌, ℕ, zero, suc, ◌+◌, ◌<◌, ◌≤◌, max, Bool, true, false, ◌&&◌, nat_le, List, [], ◌∷◌, ◌++◌, length, take, drop, Option, Some, None, refl, sym, ap, ◌∙◌, subst, ◌⊎◌, inl, inr, append_assoc, arith, length-append, length-take}
use Rattle.std.proofs.lemmas.Bool.{cases_lt}
use Rattle.std.proofs.lemmas.Bool.Decides.{nat_tests}
use Rattle.std.proofs.lemmas.List.{append-nil, take-append-drop, take_at, take_all}
use Rattle.std.proofs.lemmas.List.Elements.{recursion_from_All, All-from_recursion}
use Rattle.std.specs.Prelude.{All}
use Rattle.std.specs.List.{slice_get}
use Rattle.lc_grammar.specs.declared.Token.{Token}
use Rattle.lc_grammar.specs.Token.{scan, Ending, script_end, bad_token, too_wide}
use Rattle.lc_grammar.specs.Tree.{Statement, nesting}
use Rattle.lc_grammar.specs.Grammar.{IsScript, deepest, Reads, MayGoOn, opens, open_signs, IsTooDeep, GoesOn, Fault, IsFaultAtToken, EndsIn}
use Rattle.lc_grammar.proofs.Course.{State, start, begun, want, opened, named, done, level_of, next, Move, goes, stops, moved, move_by, read, fault, at_end, ended_at, outcome_by, state_by, move, reach, course}
use Rattle.lc_grammar.proofs.GrammarLaws.{AreShallow, script_course}
use Rattle.lc_grammar.proofs.ScriptLaws.{script_read}
use Rattle.lc_grammar.proofs.FaultLaws.{course_reach, Reached, reaches, reach-append, may_go_on, moves_on, level_reach}

-- tokens at a place of a list
get_at : (front : List Token) (t : Token) (rest : List Token) → slice_get (front ++ t ∷ rest) (length front) ≡ Some t
get_at [] t rest = refl
get_at (x ∷ front) t rest = get_at front t rest

take_next : (front : List Token) (t : Token) (rest : List Token) → take (suc (length front)) (front ++ t ∷ rest) ≡ front ++ t ∷ []
take_next [] t rest = refl
take_next (x ∷ front) t rest = ap (λ l. x ∷ l) (take_next front t rest)

record Split (all : List Token) (i : ℕ) (t : Token) : Type 0 where
  rest : List Token
  split : all ≡ take i all ++ t ∷ rest
  place : length (take i all) ≡ i

split_at : (all : List Token) (i : ℕ) (t : Token) → slice_get all i ≡ Some t → Split all i t
split_at [] i t h = absurd (cc)
split_at (x ∷ all) zero t h = let e : x ≡ t = cc in record { rest = all; split = ap (λ y. y ∷ all) e; place = refl }
split_at (x ∷ all) (suc i) t h =
    let more_of = split_at all i t h in
    record { rest = more_of.rest; split = ap (λ l. x ∷ l) more_of.split; place = ap suc more_of.place }

-- tests of the limit
allowed_above : (o : Bool) (l lim level : ℕ) → l ≤ lim → (o && nat_le l level) ≡ false → (o && nat_le lim level) ≡ false
allowed_above false l lim level le h = refl
allowed_above true l lim level le h = above l lim level le h
  where
    above : (l lim level : ℕ) → l ≤ lim → nat_le l level ≡ false → nat_le lim level ≡ false
    above l lim level le h = grind (arith, nat_tests)

deep_parts : (o : Bool) (level : ℕ) → (o && nat_le deepest level) ≡ true → (o ≡ true) × (deepest ≤ level)
deep_parts true level h = (refl, grind (arith, nat_tests))
deep_parts false level h = absurd (cc)

deep_whole : (o : Bool) (level : ℕ) → o ≡ true → deepest ≤ level → (o && nat_le deepest level) ≡ true
deep_whole true level e l = grind (arith, nat_tests)
deep_whole false level e l = absurd (cc)

cases_last : (j n : ℕ) → j < suc n → (j < n) ⊎ (j ≡ n)
cases_last j n l = elim (cases_lt j n) [ inl less ↦ inl less | inr more_of ↦ inr (omega arith) ]

-- the deepest nesting of a script
greatest : List Statement → ℕ
greatest [] = 0
greatest (s ∷ ss) = max (nesting s.expr) (greatest ss)

module _ (bytes : List ℕ) where
  within_greatest : (limit : ℕ) (ss : List Statement) → greatest ss ≤ limit → AreShallow bytes limit ss
  unfolding greatest
  within_greatest limit [] l = tt
  within_greatest limit (s ∷ ss) l = (omega arith, within_greatest limit ss (omega arith))

  move_goes : (limit : ℕ) (s : State) (t : Token) (after : State) → (opens t.kind && nat_le limit (level_of s)) ≡ false → next bytes s t ≡ Some after → move bytes limit s t ≡ goes after
  move_goes limit s t after test is = rw (test, is) refl

  raise : (l lim : ℕ) → l ≤ lim → (us : List Token) (s s' : State) → reach bytes l s us ≡ Some s' → reach bytes lim s us ≡ Some s'
  unfolding reach
  raise l lim le [] s s' h = h
  raise l lim le (t ∷ us) s s' h = by_move (λ after. raise l lim le us after s') (move bytes l s t) refl h
    where
      by_move : ((after : State) → reach bytes l after us ≡ Some s' → reach bytes lim after us ≡ Some s') → (m : Move) → move bytes l s t ≡ m → state_by m (λ after. reach bytes l after us) ≡ Some s' → reach bytes lim s (t ∷ us) ≡ Some s'
      by_move again (goes after) e h =
          let step = moves_on bytes l s t after e in
          ap (λ m. state_by m (λ after. reach bytes lim after us)) (move_goes lim s t after (allowed_above (opens t.kind) l lim (level_of s) le step.allowed) step.moves) ∙ again after h
      by_move again (stops n) e h = absurd (cc)

  -- how many signs are open behind tokens that lead to a state
  open_level : (front : List Token) (s : State) → reach bytes deepest (start []) front ≡ Some s → open_signs front ≡ level_of s
  unfolding open_signs
  open_level front s h = omega (arith, level_reach bytes deepest front (start []) s h)

  module _ (all front : List Token) (t : Token) (rest : List Token) (split : all ≡ front ++ t ∷ rest) (s : State) (reached : reach bytes deepest (start []) front ≡ Some s) where
    front_is : take (length front) all ≡ front
    front_is = ap (take (length front)) split ∙ take_at front (t ∷ rest) (length front) refl

    token_is : slice_get all (length front) ≡ Some t
    token_is = ap (λ l. slice_get l (length front)) split ∙ get_at front t rest

    is_deep : (opens t.kind && nat_le deepest (level_of s)) ≡ true → IsTooDeep all (length front)
    is_deep h =
        let parts = deep_parts (opens t.kind) (level_of s) h in
        (t, token_is, parts.0, rw (ap open_signs front_is ∙ open_level front s reached) parts.1)

    deep_test : IsTooDeep all (length front) → (opens t.kind && nat_le deepest (level_of s)) ≡ true
    deep_test (u, token, opens_it, level) =
        let same : u ≡ t = let e = sym token ∙ token_is in cc in
        deep_whole (opens t.kind) (level_of s) (ap (λ (x : Token). opens x.kind) (sym same) ∙ opens_it) (subst (λ n. deepest ≤ n) (ap open_signs front_is ∙ open_level front s reached) level)

    not_deep : (IsTooDeep all (length front) → ⊥) → (opens t.kind && nat_le deepest (level_of s)) ≡ false
    not_deep h = by_test (opens t.kind && nat_le deepest (level_of s)) refl
      where
        by_test : (b : Bool) → (opens t.kind && nat_le deepest (level_of s)) ≡ b → b ≡ false
        by_test false e = refl
        by_test true e = absurd (h (is_deep e))

  -- one more token
  reach_next : (front : List Token) (t : Token) (s after : State) → reach bytes deepest (start []) front ≡ Some s → move bytes deepest s t ≡ goes after → reach bytes deepest (start []) (front ++ t ∷ []) ≡ Some after
  unfolding reach
  reach_next front t s after h e = reach-append bytes deepest front (t ∷ []) (start []) s h ∙ ap (λ m. state_by m (λ after. reach bytes deepest after [])) e

  longer : (front : List Token) (t : Token) → length (front ++ t ∷ []) ≡ suc (length front)
  longer front t = omega (arith, length-append front (t ∷ []))

  -- below a higher limit, and never too deep
  lower : (lim : ℕ) (all : List Token) (us front tail : List Token) (s s' : State) → all ≡ front ++ (us ++ tail) → reach bytes deepest (start []) front ≡ Some s → reach bytes lim s us ≡ Some s' → ((j : ℕ) → j < length front + length us → IsTooDeep all j → ⊥) → reach bytes deepest s us ≡ Some s'
  unfolding reach
  lower lim all [] front tail s s' split reached h shallow = h
  lower lim all (t ∷ us) front tail s s' split reached h shallow = by_move (λ after. lower lim all us (front ++ t ∷ []) tail after s') (move bytes lim s t) refl h
    where
      by_move : ((after : State) → all ≡ (front ++ t ∷ []) ++ (us ++ tail) → reach bytes deepest (start []) (front ++ t ∷ []) ≡ Some after → reach bytes lim after us ≡ Some s' → ((j : ℕ) → j < length (front ++ t ∷ []) + length us → IsTooDeep all j → ⊥) → reach bytes deepest after us ≡ Some s')
          → (m : Move) → move bytes lim s t ≡ m → state_by m (λ after. reach bytes lim after us) ≡ Some s' → reach bytes deepest s (t ∷ us) ≡ Some s'
      by_move again (goes after) e h =
          let test = not_deep all front t (us ++ tail) split s reached (shallow (length front) (omega arith)) in
          let step : move bytes deepest s t ≡ goes after = move_goes deepest s t after test (moves_on bytes lim s t after e).moves in
          ap (λ m. state_by m (λ after. reach bytes deepest after us)) step
          ∙ again after (split ∙ sym (append_assoc front (t ∷ []) (us ++ tail))) (reach_next front t s after reached step) h (λ j l. shallow j (omega (arith, longer front t)))
      by_move again (stops n) e h = absurd (cc)

  goes_on_reach : (all : List Token) (i : ℕ) → GoesOn bytes all i → Reached bytes deepest (start []) (take i all)
  unfolding reach
  goes_on_reach all i goes_on =
      let rest = goes_on.may.0 in
      let ss = goes_on.may.1.0 in
      let lim = deepest + greatest ss in
      let whole = script_course bytes lim ss (take i all ++ rest) goes_on.may.1.1 (within_greatest lim ss (omega arith)) [] 0 in
      let high = reaches bytes lim (take i all) (start []) rest (script_end 0) ss whole in
      record {
        state = high.state;
        is = lower lim all (take i all) [] (drop i all) (start []) high.state (sym (take-append-drop i all)) refl high.is (λ j l. goes_on.shallow j (omega (arith, length-take i all)));
      }

  -- no script begins with tokens of which the last one can't stand there
  no_way_on : (front : List Token) (t : Token) (s : State) → reach bytes deepest (start []) front ≡ Some s → next bytes s t ≡ None → MayGoOn bytes (front ++ t ∷ []) → ⊥
  unfolding reach
  no_way_on front t s reached stuck (rest, (ss, is)) =
      let lim = deepest + greatest ss in
      let whole = script_course bytes lim ss ((front ++ t ∷ []) ++ rest) is (within_greatest lim ss (omega arith)) [] 0 in
      let high = reaches bytes lim (front ++ t ∷ []) (start []) rest (script_end 0) ss whole in
      let last : reach bytes lim s (t ∷ []) ≡ Some high.state = sym (reach-append bytes lim front (t ∷ []) (start []) s (raise deepest lim (omega arith) front (start []) s reached)) ∙ high.is in
      by_test lim (opens t.kind && nat_le lim (level_of s)) (next bytes s t) stuck high.state last
    where
      by_test : (lim : ℕ) (b : Bool) (o : Option State) → o ≡ None → (s' : State) → state_by (move_by b o) (λ after. reach bytes lim after []) ≡ Some s' → ⊥
      by_test lim true o e s' h = cc
      by_test lim false None e s' h = cc
      by_test lim false (Some after) e s' h = cc

  -- a whole script goes through
  script_goes : (all : List Token) (ss : List Statement) (offset : ℕ) → IsScript bytes all ss → (s : State) → reach bytes deepest (start []) all ≡ Some s → at_end s offset ≡ read ss
  unfolding course
  script_goes all ss offset is s reached =
      let lim = deepest + greatest ss in
      sym (course_reach bytes lim all (start []) s [] (script_end offset) (raise deepest lim (omega arith) all (start []) s reached))
      ∙ ap (λ l. course bytes lim (start []) l (script_end offset)) (append-nil all)
      ∙ script_course bytes lim ss all is (within_greatest lim ss (omega arith)) [] offset

  -- tokens that lead to the start of a statement are a script
  ends_script : (all : List Token) (ss : List Statement) (offset : ℕ) → reach bytes deepest (start []) all ≡ Some (start ss) → ((ss : List Statement) → IsScript bytes all ss → ⊥) → ⊥
  unfolding course
  ends_script all ss offset reached no_script =
      let whole = sym (ap (λ l. course bytes deepest (start []) l (script_end offset)) (append-nil all)) ∙ course_reach bytes deepest all (start []) (start ss) [] (script_end offset) reached in
      let found = script_read bytes deepest (length all) all [] offset ss (omega arith) whole in
      no_script found.ss' found.is

  abbrev pub IsFaultOf : List Token → Ending → Fault → Type 0
  IsFaultOf all ending f = ((i : ℕ) × ((t : Token) × IsFaultAtToken bytes all f i t)) ⊎ (GoesOn bytes all (length all) × EndsIn bytes all ending f)

  abbrev fault_by : ℕ → ℕ → Fault
  fault_by n offset = record { number = n; offset = offset }

  end_fault : (all : List Token) (ending : Ending) (s : State) (n offset : ℕ) → reach bytes deepest (start []) all ≡ Some s → ended_at s ending ≡ fault n offset → EndsIn bytes all ending (fault_by n offset)
  end_fault all (bad_token p) s n offset reached h = let a : n ≡ 40 = cc in let b : offset ≡ p = cc in (b, a)
  end_fault all (too_wide p) s n offset reached h = let a : n ≡ 43 = cc in let b : offset ≡ p = cc in (b, a)
  end_fault all (script_end p) s n offset reached h =
      let is = at_end_fault s h in
      (is.1, is.0, λ ss script. let e = sym (script_goes all ss p script s reached) ∙ h in cc)
    where
      at_end_fault : (s : State) → at_end s p ≡ fault n offset → (n ≡ 41) × (offset ≡ p)
      at_end_fault (start ss) h = absurd (cc)
      at_end_fault (begun ss q x) h = (cc, cc)
      at_end_fault (want a) h = (cc, cc)
      at_end_fault (opened b a) h = (cc, cc)
      at_end_fault (named a q x) h = (cc, cc)
      at_end_fault (done a e) h = (cc, cc)

  course_is_fault : (all : List Token) (ending : Ending) (n offset : ℕ) (ts front : List Token) (s : State) → all ≡ front ++ ts → reach bytes deepest (start []) front ≡ Some s → ((j : ℕ) → j < length front → IsTooDeep all j → ⊥) → course bytes deepest s ts ending ≡ fault n offset → IsFaultOf all ending (fault_by n offset)
  unfolding course
  course_is_fault all ending n offset [] front s split reached shallow h =
      let whole : all ≡ front = split ∙ append-nil front in
      let all_reached : reach bytes deepest (start []) all ≡ Some s = ap (reach bytes deepest (start [])) whole ∙ reached in
      inr (
        record {
          may = rw (take_all (length all) all (omega arith)) (may_go_on bytes deepest all s all_reached);
          shallow = λ j l. shallow j (omega (arith, ap length whole));
        },
        end_fault all ending s n offset all_reached h,
      )
  course_is_fault all ending n offset (t ∷ ts) front s split reached shallow h = by_test (opens t.kind && nat_le deepest (level_of s)) (next bytes s t) refl refl h
      (λ after e more_of. course_is_fault all ending n offset ts (front ++ t ∷ []) after (split ∙ sym (append_assoc front (t ∷ []) ts)) (reach_next front t s after reached e) more_of)
    where
      goes_on : GoesOn bytes all (length front)
      goes_on = record { may = rw (front_is all front t ts split s reached) (may_go_on bytes deepest front s reached); shallow = shallow }

      step_shallow : (opens t.kind && nat_le deepest (level_of s)) ≡ false → (j : ℕ) → j < length (front ++ t ∷ []) → IsTooDeep all j → ⊥
      step_shallow e j l deep =
          elim (cases_last j (length front) (omega (arith, longer front t))) [
            | inl less ↦ shallow j less deep
            | inr same ↦ let d = deep_test all front t ts split s reached (subst (IsTooDeep all) same deep) in cc
          ]

      by_test : (b : Bool) (o : Option State) → (opens t.kind && nat_le deepest (level_of s)) ≡ b → next bytes s t ≡ o → outcome_by t (move_by b o) (λ after. course bytes deepest after ts ending) ≡ fault n offset
          → ((after : State) → move bytes deepest s t ≡ goes after → ((j : ℕ) → j < length (front ++ t ∷ []) → IsTooDeep all j → ⊥) → course bytes deepest after ts ending ≡ fault n offset → IsFaultOf all ending (fault_by n offset)) → IsFaultOf all ending (fault_by n offset)
      by_test true o eb eo h again =
          let number : n ≡ 42 = cc in
          let stands : offset ≡ t.start = cc in
          inl (length front, (t, record { token = token_is all front t ts split s reached; stands = stands; before = goes_on; refused = inl (is_deep all front t ts split s reached eb, number) }))
      by_test false None eb eo h again =
          let number : n ≡ 41 = cc in
          let stands : offset ≡ t.start = cc in
          inl (
            length front,
            (
              t,
              record {
                token = token_is all front t ts split s reached;
                stands = stands;
                before = goes_on;
                refused = inr (
                  λ deep. let d = deep_test all front t ts split s reached deep in cc,
                  λ may. no_way_on front t s reached eo (subst (MayGoOn bytes) (ap (take (suc (length front))) split ∙ take_next front t ts) may),
                  number,
                );
              },
            ),
          )
      by_test false (Some after) eb eo h again = again after (move_goes deepest s t after eb eo) (step_shallow eb) h

  -- the token that can't stand there
  stops_at : (all : List Token) (i : ℕ) (t : Token) (parts : Split all i t) (s : State) → reach bytes deepest (start []) (take i all) ≡ Some s → (f : Fault) (ending : Ending)
      → (IsTooDeep all i × (f.number ≡ 42)) ⊎ ((IsTooDeep all i → ⊥) × (MayGoOn bytes (take (suc i) all) → ⊥) × (f.number ≡ 41)) → course bytes deepest s (t ∷ parts.rest) ending ≡ fault f.number t.start
  unfolding course
  stops_at all i t parts s reached f ending (inl (deep, number)) =
      let test = deep_test all (take i all) t parts.rest parts.split s reached (subst (IsTooDeep all) (sym parts.place) deep) in
      rw (test, number) refl
  stops_at all i t parts s reached f ending (inr (no_deep, no_way, number)) =
      let test = not_deep all (take i all) t parts.rest parts.split s reached (λ d. no_deep (subst (IsTooDeep all) parts.place d)) in
      rw test (by_next (next bytes s t) refl test)
    where
      by_next : (o : Option State) → next bytes s t ≡ o → (opens t.kind && nat_le deepest (level_of s)) ≡ false → outcome_by t (moved (next bytes s t)) (λ after. course bytes deepest after parts.rest ending) ≡ fault f.number t.start
      by_next None e test = rw (e, number) refl
      by_next (Some after) e test =
          let reached_next = reach_next (take i all) t s after reached (move_goes deepest s t after test e) in
          let front : take (suc i) all ≡ take i all ++ t ∷ [] = ap (λ n. take (suc n) all) (sym parts.place) ∙ ap (take (suc (length (take i all)))) parts.split ∙ take_next (take i all) t parts.rest in
          absurd (no_way (subst (MayGoOn bytes) (sym front) (may_go_on bytes deepest (take i all ++ t ∷ []) after reached_next)))

  -- the end of the tokens, if the script can't end
  stops_at_end : (all : List Token) (ending : Ending) (f : Fault) (s : State) → reach bytes deepest (start []) all ≡ Some s → EndsIn bytes all ending f → ended_at s ending ≡ fault f.number f.offset
  stops_at_end all (bad_token p) f s reached (offset, number) = rw (offset, number) refl
  stops_at_end all (too_wide p) f s reached (offset, number) = rw (offset, number) refl
  stops_at_end all (script_end p) f s reached (offset, number, no_script) = rw (offset, number) (by_state s reached)
    where
      by_state : (s : State) → reach bytes deepest (start []) all ≡ Some s → at_end s p ≡ fault 41 p
      by_state (start ss) reached = absurd (ends_script all ss p reached no_script)
      by_state (begun ss q x) reached = refl
      by_state (want a) reached = refl
      by_state (opened b a) reached = refl
      by_state (named a q x) reached = refl
      by_state (done a e) reached = refl

  -- the first fault of tokens is the fault of their course
  pub fault_is_course : (all : List Token) (ending : Ending) (f : Fault) → IsFaultOf all ending f → course bytes deepest (start []) all ending ≡ fault f.number f.offset
  unfolding course
  fault_is_course all ending f (inl (i, (t, at))) =
      let parts = split_at all i t at.token in
      let r = goes_on_reach all i at.before in
      ap (λ l. course bytes deepest (start []) l ending) parts.split
      ∙ course_reach bytes deepest (take i all) (start []) r.state (t ∷ parts.rest) ending r.is
      ∙ stops_at all i t parts r.state r.is f ending at.refused
      ∙ ap (fault f.number) (sym at.stands)
  fault_is_course all ending f (inr (goes_on, ends)) =
      let r = goes_on_reach all (length all) goes_on in
      let reached : reach bytes deepest (start []) all ≡ Some r.state = ap (reach bytes deepest (start [])) (sym (take_all (length all) all (omega arith))) ∙ r.is in
      sym (ap (λ l. course bytes deepest (start []) l ending) (append-nil all))
      ∙ course_reach bytes deepest all (start []) r.state [] ending reached
      ∙ stops_at_end all ending f r.state reached ends

  pub fault_of_course : (all : List Token) (ending : Ending) (f : Fault) → course bytes deepest (start []) all ending ≡ fault f.number f.offset → IsFaultOf all ending f
  unfolding reach
  fault_of_course all ending f h = course_is_fault all ending f.number f.offset all [] (start []) refl refl (λ j l. absurd (omega arith)) h

  -- only at the script's end does a course end in a script
  pub outcome_ending : (all : List Token) (ending : Ending) (out : List Statement) → course bytes deepest (start []) all ending ≡ read out → (p : ℕ) × (ending ≡ script_end p)
  unfolding course
  outcome_ending all ending out h =
      let whole = ap (λ l. course bytes deepest (start []) l ending) (append-nil all) ∙ h in
      let r = reaches bytes deepest all (start []) [] ending out whole in
      by_ending ending r.state (sym (course_reach bytes deepest all (start []) r.state [] ending r.is) ∙ whole)
    where
      by_ending : (ending : Ending) (s : State) → ended_at s ending ≡ read out → (p : ℕ) × (ending ≡ script_end p)
      by_ending (script_end p) s h = (p, refl)
      by_ending (bad_token p) s h = absurd (cc)
      by_ending (too_wide p) s h = absurd (cc)

  -- the script of the bytes is what the course of their tokens comes to
  pub script_outcome : (ss : List Statement) → Reads bytes ss → course bytes deepest (start []) (scan bytes).tokens (scan bytes).ending ≡ read ss
  script_outcome ss h =
      ap (course bytes deepest (start []) (scan bytes).tokens) h.whole
      ∙ script_course bytes deepest ss (scan bytes).tokens h.script (recursion_from_All (λ s. nesting s.expr ≤ deepest) ss h.shallow) [] (length bytes)

  pub outcome_script : (ss : List Statement) → ((p : ℕ) → (scan bytes).ending ≡ script_end p → p ≡ length bytes) → course bytes deepest (start []) (scan bytes).tokens (scan bytes).ending ≡ read ss → Reads bytes ss
  outcome_script ss offset h =
      let end = outcome_ending (scan bytes).tokens (scan bytes).ending ss h in
      let found = script_read bytes deepest (length (scan bytes).tokens) (scan bytes).tokens [] end.0 ss (omega arith) (ap (course bytes deepest (start []) (scan bytes).tokens) (sym end.1) ∙ h) in
      record {
        whole = end.1 ∙ ap script_end (offset end.0 end.1);
        script = subst (IsScript bytes (scan bytes).tokens) (sym found.all) found.is;
        shallow = subst (All (λ s. nesting s.expr ≤ deepest)) (sym found.all) (All-from_recursion (λ s. nesting s.expr ≤ deepest) found.ss' found.shallow);
      }

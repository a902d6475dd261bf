-- How a session goes from need to need: it passes over settled records, starts its searches, and ends.
--   starts               nothing was resumed
--   passes, stumbles     the record of a settled need fits, or it doesn't
--   enters, trips        the record of the current need fits, or it doesn't
--   starts_anew          a checkpoint of version 1, at the first need whose code has a divisor above 1
--   goes_to              nothing is left of the records
--   has_searched         the search of the need has ended
--   waits_quietly        no round is done as long as records are left
--   left_over            the script ends before the records do
use Rattle.std.proofs.Common.{◌≡◌, ◌≤◌, ◌+◌, ℕ, zero, suc, true, false, ◌==◌, nat_lt, List, [], ◌∷◌, ◌++◌, length, take, Option, Some, None, refl, sym, ap, subst, ◌∙◌, arith}
use Rattle.std.specs.Prelude.{slice_get}
use Rattle.std.proofs.lemmas.List.{append-nil, append_assoc, length-append}
use Rattle.lc_algebra.specs.Matrix.{Matrix}
use Rattle.lc_algebra.specs.Divisor.{divisor_of}
use Rattle.lc_enumeration.specs.Search.{fits, fits_settled}
use Rattle.lc_enumeration.specs.Records.{Progress, Start, SessionStep, SessionRounds, found_of, fresh_start, rounds, last_state, no_steps, steps_first, session_rounds}
use Rattle.lc_enumeration.specs.Fitting.{misfit_at, misfit}
use Rattle.lc_session_rules.specs.Course.{Beginning, afresh, begins, AreFitting, GoesSo, IsWhole, Waits, Came, AtNeed, state_at, states_at, steps_at, start_next}
use Rattle.lc_session_rules.proofs.FrontLaws.{none_left, take_front, take_whole, searched}
use Rattle.lc_session_rules.proofs.StartLaws.{starts_whole, starts_before, whole_more}
use Rattle.lc_session_rules.proofs.FitLaws.{fitting_length, fitting_more, fits_anew, fits_whole, unfit_settled, unfit_current, unfit_end}

nothing_told : (r : SessionRounds) → r ≡ steps_first [] r
unfolding steps_first
nothing_told r = refl

-- nothing is resumed
pub starts : (budget longest : ℕ) (slice : Option ℕ) → Came afresh budget longest slice [] [] [] slice []
unfolding fresh_start
starts budget longest slice = record {
  goes = λ more. nothing_told (session_rounds divisor_of more budget longest slice (record { settled = []; current = None }));
  as_many = refl;
  fits = λ more. fits_anew divisor_of budget [] more [] tt;
  all = refl;
}

split_at : (done rest : List Progress) (i : ℕ) (s : Progress) → i ≡ length done → slice_get (done ++ rest) i ≡ Some s → (later : List Progress) × (rest ≡ s ∷ later)
split_at [] [] i s e at = absurd (let f = at in cc)
split_at [] (t ∷ rest) zero s e at = (rest, (let f : Some t ≡ Some s = at in let same : t ≡ s = cc in ap (λ (x : Progress). x ∷ rest) same))
split_at [] (t ∷ rest) (suc i) s e at = absurd (omega (arith, e))
split_at (t ∷ done) rest zero s e at = absurd (omega (arith, e))
split_at (t ∷ done) rest (suc i) s e at = split_at done rest i s (omega (arith, e)) at

module _ (b : Beginning) (version budget longest : ℕ) (slice : Option ℕ) (needs : List Matrix) (told : List SessionStep) (settled : List Progress) (left : Option ℕ) (done : List Progress) (current : Progress) (w : Waits b version budget slice needs told settled left done current) where
  done_long : length done ≡ length needs
  done_long = fitting_length divisor_of budget needs done w.fitting

  -- the records that follow those used so far
  record_at : (s : Progress) → slice_get settled (length needs) ≡ Some s → (later : List Progress) × (w.rest ≡ s ∷ later)
  record_at s at = split_at done w.rest (length needs) s (sym done_long) (sym (ap (λ (l : List Progress). slice_get l (length needs)) w.split) ∙ at)

  settled_so : (s : Progress) (at : slice_get settled (length needs) ≡ Some s) → settled ≡ done ++ s ∷ (record_at s at).0
  settled_so s at = w.split ∙ ap (λ (l : List Progress). done ++ l) (record_at s at).1

  -- the record of this need fits
  pub passes : (C : Matrix) (s : Progress) → slice_get settled (length needs) ≡ Some s → ((version == 1) ≡ true → nat_lt 1 (divisor_of C) ≡ false) → fits_settled (divisor_of C) C budget s.blocks (found_of s) ≡ true
      → Waits b version budget slice (needs ++ C ∷ []) told settled left (done ++ s ∷ []) current
  passes C s at uncut fit = record {
    begun = w.begun;
    silent = w.silent;
    same = w.same;
    rest = (record_at s at).0;
    split = settled_so s at ∙ sym (append_assoc done (s ∷ []) (record_at s at).0);
    fitting = fitting_more divisor_of budget needs done C s w.fitting fit;
    whole = whole_more divisor_of version needs C w.whole uncut;
  }

  -- the start is from all records, as long as no more needs are met than these
  starts_so : (all : List Matrix) → length all ≤ suc (length settled) → IsWhole divisor_of version all → begins b all ≡ record { settled = settled; current = Some current }
  starts_so all l whole =
      ap (λ (x : Beginning). begins x all) w.begun ∙ starts_whole divisor_of version settled current all all (take_whole all (suc (length settled)) l) whole

  within : length needs ≤ length settled
  within = omega (arith, done_long, ap (λ (l : List Progress). length l) w.split, length-append done w.rest)

  long : (C : Matrix) → length (needs ++ C ∷ []) ≤ suc (length settled)
  long C = omega (arith, within, length-append needs (C ∷ []))

  pub stumbles : (C : Matrix) (s : Progress) → slice_get settled (length needs) ≡ Some s → ((version == 1) ≡ true → nat_lt 1 (divisor_of C) ≡ false) → fits_settled (divisor_of C) C budget s.blocks (found_of s) ≡ false
      → misfit divisor_of (needs ++ C ∷ []) budget (begins b (needs ++ C ∷ [])) ≡ Some (misfit_at (length needs) C s)
  stumbles C s at uncut unfit =
      ap (misfit divisor_of (needs ++ C ∷ []) budget)
      (starts_so (needs ++ C ∷ []) (long C) (whole_more divisor_of version needs C w.whole uncut) ∙ ap (λ (l : List Progress). record { settled = l; current = Some current }) (settled_so s at))
      ∙ unfit_settled divisor_of budget needs C done s (record_at s at).0 (Some current) w.fitting unfit

  -- all settled records are used
  none_after : length settled ≡ length needs → settled ≡ done
  none_after e = by w.rest w.split
    where
      by : (rest : List Progress) → settled ≡ done ++ rest → settled ≡ done
      by [] h = h ∙ append-nil done
      by (s ∷ rest) h = absurd (omega (arith, e, done_long, ap (λ (l : List Progress). length l) h, length-append done (s ∷ rest)))

  fitting_all : length settled ≡ length needs → AreFitting divisor_of budget needs settled
  fitting_all e = subst (AreFitting divisor_of budget needs) (sym (none_after e)) w.fitting

  starts_here : (C : Matrix) (more : List Matrix) → length settled ≡ length needs → ((version == 1) ≡ true → nat_lt 1 (divisor_of C) ≡ false) → begins b (needs ++ C ∷ more) ≡ record { settled = settled; current = Some current }
  starts_here C more e uncut =
      let up_to : take (suc (length settled)) (needs ++ C ∷ more) ≡ needs ++ C ∷ [] =
      ap (take (suc (length settled))) (sym (append_assoc needs (C ∷ []) more)) ∙ take_front (needs ++ C ∷ []) more (suc (length settled)) (omega (arith, e, length-append needs (C ∷ []))) in
      ap (λ (x : Beginning). begins x (needs ++ C ∷ more)) w.begun ∙ starts_whole divisor_of version settled current (needs ++ C ∷ more) (needs ++ C ∷ []) up_to (whole_more divisor_of version needs C w.whole uncut)

  goes_from : (C : Matrix) (now : Start) → ((more : List Matrix) → begins b (needs ++ C ∷ more) ≡ now) → GoesSo divisor_of budget longest (begins b) slice needs (C ∷ []) told now left
  goes_from C now h more =
      let all = needs ++ C ∷ more in
      ap (session_rounds divisor_of all budget longest slice) (h more)
      ∙ nothing_told (session_rounds divisor_of all budget longest slice now)
      ∙ ap (λ (l : List SessionStep). steps_first l (session_rounds divisor_of all budget longest slice now)) (sym w.silent)
      ∙ ap (λ (o : Option ℕ). steps_first told (session_rounds divisor_of all budget longest o now)) (sym w.same)

  -- the record of the current need fits
  pub enters : (C : Matrix) → length settled ≡ length needs → ((version == 1) ≡ true → nat_lt 1 (divisor_of C) ≡ false) → fits C current.blocks (found_of current) ≡ true
      → AtNeed b budget longest slice needs C told (record { settled = settled; current = Some current }) left done
  enters C e uncut fit = record {
    goes = goes_from C (record { settled = settled; current = Some current }) (λ more. starts_here C more e uncut);
    as_many = e;
    fits = λ more. ap (misfit divisor_of (needs ++ C ∷ more) budget) (starts_here C more e uncut) ∙ fits_whole divisor_of budget needs C more settled current (fitting_all e) fit;
    all = sym (none_after e);
  }

  pub trips : (C : Matrix) → length settled ≡ length needs → ((version == 1) ≡ true → nat_lt 1 (divisor_of C) ≡ false) → fits C current.blocks (found_of current) ≡ false
      → misfit divisor_of (needs ++ C ∷ []) budget (begins b (needs ++ C ∷ [])) ≡ Some (misfit_at (length needs) C current)
  trips C e uncut unfit = ap (misfit divisor_of (needs ++ C ∷ []) budget) (starts_here C [] e uncut) ∙ unfit_current divisor_of budget needs C settled current (fitting_all e) unfit

  front : take (length needs) settled ≡ done
  front = ap (take (length needs)) w.split ∙ take_front done w.rest (length needs) (sym done_long)

  cut_here : (C : Matrix) (more : List Matrix) → (version == 1) ≡ true → nat_lt 1 (divisor_of C) ≡ true → begins b (needs ++ C ∷ more) ≡ record { settled = take (length needs) settled; current = None }
  cut_here C more v divisible = ap (λ (x : Beginning). begins x (needs ++ C ∷ more)) w.begun ∙ starts_before divisor_of version settled current needs C more v within w.whole divisible

  -- the session starts anew at this need
  pub starts_anew : (C : Matrix) → (version == 1) ≡ true → nat_lt 1 (divisor_of C) ≡ true → AtNeed b budget longest slice needs C told (record { settled = take (length needs) settled; current = None }) left done
  starts_anew C v divisible = record {
    goes = goes_from C (record { settled = take (length needs) settled; current = None }) (λ more. cut_here C more v divisible);
    as_many = ap (λ (l : List Progress). length l) front ∙ done_long;
    fits = λ more. ap (misfit divisor_of (needs ++ C ∷ more) budget) (cut_here C more v divisible ∙ ap (λ (l : List Progress). record { settled = l; current = None }) front) ∙ fits_anew divisor_of budget needs (C ∷ more) done w.fitting;
    all = sym front;
  }

  -- the script ends before the records do
  pub left_over : misfit divisor_of needs budget (begins b needs) ≡ Some (record { need = length needs; told = suc (length settled); found = 0 })
  left_over =
      ap (misfit divisor_of needs budget) (starts_so needs (omega (arith, within)) w.whole ∙ ap (λ (l : List Progress). record { settled = l; current = Some current }) w.split)
      ∙ unfit_end divisor_of budget needs done w.rest current w.fitting
      ∙ ap (λ (l : List Progress). Some (record { need = length needs; told = suc (length l); found = 0 })) (sym w.split)

pub waits_quietly : (b : Beginning) (version budget longest : ℕ) (slice : Option ℕ) (needs : List Matrix) (told : List SessionStep) (settled : List Progress) (left : Option ℕ) (done : List Progress) (current : Progress) → Waits b version budget slice needs told settled left done current
    → session_rounds divisor_of needs budget longest slice (begins b needs) ≡ no_steps settled slice false
waits_quietly b version budget longest slice needs told settled left done current w =
    let l = within b version budget longest slice needs told settled left done current w in
    ap (session_rounds divisor_of needs budget longest slice) (starts_so b version budget longest slice needs told settled left done current w needs (omega (arith, l)) w.whole)
    ∙ none_left divisor_of budget longest needs slice (record { settled = settled; current = Some current }) l

pub goes_to : (b : Beginning) (budget longest : ℕ) (slice : Option ℕ) (needs : List Matrix) (told : List SessionStep) (settled : List Progress) (left : Option ℕ) (done : List Progress) (C : Matrix) → Came b budget longest slice needs told settled left done → AtNeed b budget longest slice needs C told (record { settled = settled; current = None }) left done
goes_to b budget longest slice needs told settled left done C h = record { goes = λ more. h.goes (C ∷ more); as_many = h.as_many; fits = λ more. h.fits (C ∷ more); all = h.all }

-- the search of the need has ended
pub has_searched : (b : Beginning) (budget longest : ℕ) (slice : Option ℕ) (needs : List Matrix) (C : Matrix) (told : List SessionStep) (now : Start) (left : Option ℕ) (done : List Progress) → AtNeed b budget longest slice needs C told now left done
    → (rounds (divisor_of C) C budget longest left (state_at C now)).is_stopped ≡ false
    → Came b budget longest slice (needs ++ C ∷ []) (told ++ steps_at divisor_of budget longest C left now) (start_next divisor_of budget longest C left now).settled (rounds (divisor_of C) C budget longest left (state_at C now)).left (done ++ last_state (state_at C now) (states_at divisor_of budget longest C left now) ∷ [])
has_searched b budget longest slice needs C told now left done h unstopped =
    let last = last_state (state_at C now) (states_at divisor_of budget longest C left now) in
    record {
      goes = searched divisor_of budget longest (begins b) slice needs C told now left h.goes h.as_many unstopped;
      as_many = length-append now.settled (last ∷ []) ∙ ap (λ (n : ℕ). n + 1) h.as_many ∙ sym (length-append needs (C ∷ []));
      fits = λ more. subst (λ (ns : List Matrix). misfit divisor_of ns budget (begins b ns) ≡ None) (sym (append_assoc needs (C ∷ []) more)) (h.fits more);
      all = ap (λ (l : List Progress). l ++ last ∷ []) h.all;
    }

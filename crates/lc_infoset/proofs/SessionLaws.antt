-- A session from a true start goes through true steps, and settles its needs.
--   answer_is, target_is         the answer of a code with rows, and its blocks
--   SearchEnds, search_ends      the rounds of a search end at its answer
--   first_underway, state_underway      a search that begins, and one that goes on, is under way
--   settled_one_more, settled_many      one more settled need; as many needs are settled as there are states
--   HaveRows, rows_after         each of some codes has rows
--   step_is_true                 a step of a search that is under way is true
--   TrueSession, add_search      the steps of a session, with those of the search before them
--   session_from_is_true, session_is_true      every step of a session from a true start is true
--   fresh_is_true, resumed_is_true      true starts
--   rounds_underway, rounds_settle, rounds_stop      the laws of rounds, as the contracts say them
--   session_steps, session_settles, session_stops    and of sessions
use Rattle.std.proofs.Common.{append-nil, ◌≡◌, ℕ, suc, ◌-◌, ◌<◌, ◌≤◌, Bool, true, false, ◌==◌, if◌then◌else◌, cond, find, drop, ◌^◌, List, [], ◌∷◌, ◌++◌, length, map, Option, Some, None, unwrap_or, All, Contains, refl, sym, ap, subst, ◌∙◌, ⊎_elim, arith}
use Rattle.std.proofs.lemmas.Bool.{cases_Bool, false≢true}
use Rattle.std.proofs.lemmas.List.{append_assoc}
use Rattle.std.proofs.lemmas.List.Elements.{All-head, All-tail, Contains-append_cases}
use Rattle.lc_algebra.specs.Matrix.{Matrix}
use Rattle.lc_algebra.proofs.SpanLaws.{contains_map}
use Rattle.lc_algebra.proofs.DivisorLaws.{no_member}
use Rattle.lc_algebra.proofs.CommonLaws.{positive_not_zero}
use Rattle.lc_enumeration.specs.Plan.{cut}
use Rattle.lc_enumeration.specs.Search.{no_word, is_done, answer_at, answer, finished}
use Rattle.lc_enumeration.specs.Records.{Progress, Rounds, Start, SessionStep, SessionRounds, found_of, first_progress, progress_of, note_of, rounds, last_state, step_of, no_steps, steps_first, session_from, session_rounds, fresh_start}
use Rattle.lc_enumeration.specs.Truth.{answer_blocks, IsSettled, AreSettled, IsUnderway, IsUnderwayNext, IsTrueStart, IsTrueStep, start_after}
use Rattle.lc_enumeration.proofs.RecordsLaws.{first_is_best}
use Rattle.lc_enumeration.proofs.PlanLaws.{cut_is}
use Rattle.lc_infoset.proofs.AnswerLaws.{some_set}
use Rattle.lc_infoset.proofs.RoundLaws.{done_list, target, rounds_end}

pub answer_is : (d : ℕ) (C : Matrix) (budget : ℕ) → 0 < length C.rows → answer d C budget ≡ answer_at d C budget (find (is_done d C) (done_list C budget))
unfolding answer
answer_is d C budget rows = ap (λ b. (if b then no_word else answer_at d C budget (find (is_done d C) (done_list C budget)))) (positive_not_zero (length C.rows) rows)

blocks_at : (d : ℕ) (C : Matrix) (budget : ℕ) (o : Option ℕ) → answer_blocks (answer_at d C budget o) ≡ target o budget
unfolding answer_blocks answer_at
blocks_at d C budget None = refl
blocks_at d C budget (Some l) = refl

pub target_is : (d : ℕ) (C : Matrix) (budget : ℕ) → 0 < length C.rows → answer_blocks (answer d C budget) ≡ target (find (is_done d C) (done_list C budget)) budget
target_is d C budget rows = ap answer_blocks (answer_is d C budget rows) ∙ blocks_at d C budget (find (is_done d C) (done_list C budget))

pub record SearchEnds (d : ℕ) (C : Matrix) (budget : ℕ) (s : Progress) (r : Rounds) : Type 0 where
  pub each : (t : Progress) → Contains r.states t → IsUnderway d C budget t × (s.blocks < t.blocks)
  pub last : IsUnderway d C budget (last_state s r.states)
  pub settles : r.is_stopped ≡ false → IsSettled d C budget (last_state s r.states)
  pub stops : r.is_stopped ≡ true → (finished d C budget (last_state s r.states).blocks (found_of (last_state s r.states)) ≡ None) × (r.left ≡ Some 0)

pub search_ends : (d : ℕ) (C : Matrix) (budget longest : ℕ) (slice : Option ℕ) (s : Progress) → 0 < length C.rows → budget ≤ cut → 0 < longest → IsUnderway d C budget s → SearchEnds d C budget s (rounds d C budget longest slice s)
unfolding rounds
search_ends d C budget longest slice s rows small long h =
    let o = find (is_done d C) (done_list C budget) in
    let blocks = target_is d C budget rows in
    let e = rounds_end (suc (budget - s.blocks)) d C budget longest slice o s rows (some_set C) small long refl (omega arith) h.best (omega (arith, h.few, blocks)) in
    record {
      each = λ t l. let b = e.each t l in (record { best = b.best; few = omega (arith, b.few, blocks) }, b.more);
      last = record { best = e.best; few = omega (arith, e.few, blocks) };
      settles = λ n. e.ends n ∙ ap Some (sym (answer_is d C budget rows));
      stops = e.stops;
    }

first_blocks : (C : Matrix) → (first_progress C).blocks ≡ 0
unfolding first_progress progress_of
first_blocks C = refl

pub first_underway : (d : ℕ) (C : Matrix) (budget : ℕ) → IsUnderway d C budget (first_progress C)
first_underway d C budget = record { best = first_is_best C; few = omega (arith, first_blocks C) }

pub state_underway : (divisor : Matrix → ℕ) (C : Matrix) (needs : List Matrix) (budget : ℕ) (current : Option Progress) → IsUnderwayNext divisor budget (C ∷ needs) current → IsUnderway (divisor C) C budget (unwrap_or current (first_progress C))
state_underway divisor C needs budget None h = first_underway (divisor C) C budget
state_underway divisor C needs budget (Some s) h = h

pub settled_one_more : (divisor : Matrix → ℕ) (budget : ℕ) (needs : List Matrix) (states : List Progress) (C : Matrix) (s : Progress) → AreSettled divisor budget needs states → IsSettled (divisor C) C budget s → AreSettled divisor budget (needs ++ C ∷ []) (states ++ s ∷ [])
settled_one_more divisor budget [] [] C s h one = (one, tt)
settled_one_more divisor budget [] (t ∷ states) C s h one = absurd h
settled_one_more divisor budget (D ∷ needs) [] C s h one = absurd h
settled_one_more divisor budget (D ∷ needs) (t ∷ states) C s h one = (h.0, settled_one_more divisor budget needs states C s h.1 one)

pub settled_many : (divisor : Matrix → ℕ) (budget : ℕ) (needs : List Matrix) (states : List Progress) → AreSettled divisor budget needs states → length needs ≡ length states
settled_many divisor budget [] [] h = refl
settled_many divisor budget [] (t ∷ states) h = absurd h
settled_many divisor budget (D ∷ needs) [] h = absurd h
settled_many divisor budget (D ∷ needs) (t ∷ states) h = ap suc (settled_many divisor budget needs states h.1)

pub record TrueSession (divisor : Matrix → ℕ) (needs : List Matrix) (budget : ℕ) (r : SessionRounds) : Type 0 where
  pub steps : (step : SessionStep) → Contains r.steps step → IsTrueStep divisor needs budget step
  pub settled : r.is_stopped ≡ false → AreSettled divisor budget needs r.settled
  pub stops : r.is_stopped ≡ true → r.left ≡ Some 0

abbrev pub HaveRows : List Matrix → Type 0
HaveRows needs = All (λ (C : Matrix). 0 < length C.rows) needs

pub step_is_true : (divisor : Matrix → ℕ) (budget : ℕ) (before : List Matrix) (C : Matrix) (needs : List Matrix) (settled : List Progress) (t : Progress) → AreSettled divisor budget before settled → IsUnderway (divisor C) C budget t → 0 < t.blocks → IsTrueStep divisor (before ++ C ∷ needs) budget (step_of (divisor C) C settled t)
unfolding step_of
step_is_true divisor budget before C needs settled t h u some = record {
  before = before;
  code = C;
  after = needs;
  split = refl;
  settled = h;
  underway = u;
  some = some;
  note_is = ap (λ n. note_of (divisor C) C n t) (sym (settled_many divisor budget before settled h));
}

pub add_search : (divisor : Matrix → ℕ) (budget : ℕ) (before : List Matrix) (C : Matrix) (needs : List Matrix) (settled : List Progress) (s : Progress) (r : Rounds) (later : SessionRounds) → AreSettled divisor budget before settled → SearchEnds (divisor C) C budget s r → TrueSession divisor (before ++ C ∷ needs) budget later → TrueSession divisor (before ++ C ∷ needs) budget (steps_first (map (step_of (divisor C) C settled) r.states) later)
unfolding steps_first
add_search divisor budget before C needs settled s r later h e true_later = record {
  steps = λ step l. ⊎_elim
      (λ m.
      let t = contains_map (step_of (divisor C) C settled) r.states step m in
      let b = e.each t.0 t.1 in
      subst (IsTrueStep divisor (before ++ C ∷ needs) budget) (sym t.2) (step_is_true divisor budget before C needs settled t.0 h b.0 (omega (arith, b.1))))
      (λ m. true_later.steps step m)
      (Contains-append_cases (map (step_of (divisor C) C settled) r.states) later.steps step l);
  settled = true_later.settled;
  stops = true_later.stops;
}

stopped_is_true : (divisor : Matrix → ℕ) (needs : List Matrix) (budget : ℕ) (settled : List Progress) (left : Option ℕ) → left ≡ Some 0 → TrueSession divisor needs budget (no_steps settled left true)
unfolding no_steps
stopped_is_true divisor needs budget settled left e = record {
  steps = λ step l. absurd (no_member step l);
  settled = λ f. absurd (false≢true (sym f));
  stops = λ t. e;
}

ended_is_true : (divisor : Matrix → ℕ) (needs : List Matrix) (budget : ℕ) (settled : List Progress) (left : Option ℕ) → AreSettled divisor budget needs settled → TrueSession divisor needs budget (no_steps settled left false)
unfolding no_steps
ended_is_true divisor needs budget settled left h = record {
  steps = λ step l. absurd (no_member step l);
  settled = λ f. h;
  stops = λ t. absurd (false≢true t);
}

pub session_from_is_true : (divisor : Matrix → ℕ) (rest : List Matrix) (budget longest : ℕ) (slice : Option ℕ) (settled : List Progress) (current : Option Progress) (before : List Matrix) → HaveRows rest → budget ≤ cut → 0 < longest → AreSettled divisor budget before settled → IsUnderwayNext divisor budget rest current → TrueSession divisor (before ++ rest) budget (session_from divisor rest budget longest slice settled current)
unfolding session_from
session_from_is_true divisor [] budget longest slice settled current before rows small long h under =
    subst (λ needs. TrueSession divisor needs budget (no_steps settled slice false)) (sym (append-nil before)) (ended_is_true divisor before budget settled slice h)
session_from_is_true divisor (C ∷ needs) budget longest slice settled current before rows small long h under =
    let s = unwrap_or current (first_progress C) in
    let r = rounds (divisor C) C budget longest slice s in
    let last = last_state s r.states in
    let e = search_ends (divisor C) C budget longest slice s (All-head (λ (D : Matrix). 0 < length D.rows) C needs rows) small long (state_underway divisor C needs budget current under) in
    let later = λ (b : Bool). cond b (no_steps settled r.left true) (session_from divisor needs budget longest r.left (settled ++ last ∷ []) None) in
    let goal = λ (b : Bool). TrueSession divisor (before ++ C ∷ needs) budget (steps_first (map (step_of (divisor C) C settled) r.states) (later b)) in
    ⊎_elim
    (λ t. subst goal (sym t) (add_search divisor budget before C needs settled s r (later true) h e (stopped_is_true divisor (before ++ C ∷ needs) budget settled r.left (e.stops t).1)))
    (λ t.
    let more = session_from_is_true divisor needs budget longest r.left (settled ++ last ∷ []) None (before ++ C ∷ []) (All-tail (λ (D : Matrix). 0 < length D.rows) C needs rows) small long (settled_one_more divisor budget before settled C last h (e.settles t)) tt in
    subst goal (sym t) (add_search divisor budget before C needs settled s r (later false) h e (subst (λ all. TrueSession divisor all budget (later false)) (append_assoc before (C ∷ []) needs) more)))
    (cases_Bool r.is_stopped)

drop_many : (before after : List Matrix) → drop (length before) (before ++ after) ≡ after
drop_many [] after = refl
drop_many (C ∷ before) after = drop_many before after

pub rows_after : (before after : List Matrix) → HaveRows (before ++ after) → HaveRows after
rows_after [] after h = h
rows_after (C ∷ before) after h = rows_after before after (All-tail (λ (D : Matrix). 0 < length D.rows) C (before ++ after) h)

pub session_is_true : (divisor : Matrix → ℕ) (needs : List Matrix) (budget longest : ℕ) (slice : Option ℕ) (start : Start) → HaveRows needs → budget ≤ cut → 0 < longest → IsTrueStart divisor needs budget start → TrueSession divisor needs budget (session_rounds divisor needs budget longest slice start)
unfolding session_rounds
session_is_true divisor needs budget longest slice start rows small long h =
    let many = settled_many divisor budget h.before start.settled h.settled in
    let rest : drop (length start.settled) needs ≡ h.after = ap (λ n. drop n needs) (sym many) ∙ ap (drop (length h.before)) h.split ∙ drop_many h.before h.after in
    let is = session_from_is_true divisor h.after budget longest slice start.settled start.current h.before (rows_after h.before h.after (subst HaveRows h.split rows)) small long h.settled h.current in
    subst (λ all. TrueSession divisor all budget (session_from divisor (drop (length start.settled) needs) budget longest slice start.settled start.current)) (sym h.split)
    (subst (λ l. TrueSession divisor (h.before ++ h.after) budget (session_from divisor l budget longest slice start.settled start.current)) (sym rest) is)

pub fresh_is_true : (divisor : Matrix → ℕ) (needs : List Matrix) (budget : ℕ) → IsTrueStart divisor needs budget fresh_start
unfolding fresh_start
fresh_is_true divisor needs budget = record {
  before = [];
  after = needs;
  split = refl;
  settled = tt;
  current = tt;
}

pub resumed_is_true : (divisor : Matrix → ℕ) (needs : List Matrix) (budget : ℕ) (step : SessionStep) → IsTrueStep divisor needs budget step → IsTrueStart divisor needs budget (start_after step)
unfolding start_after
resumed_is_true divisor needs budget step h = record {
  before = h.before;
  after = h.code ∷ h.after;
  split = h.split;
  settled = h.settled;
  current = h.underway;
}

at_most_cut : (budget : ℕ) → budget ≤ 2 ^ 40 → budget ≤ cut
at_most_cut budget l = omega (arith, l, cut_is)

pub rounds_underway : (d : ℕ) (C : Matrix) (budget longest : ℕ) (slice : Option ℕ) (s t : Progress) → 0 < length C.rows → budget ≤ 2 ^ 40 → 0 < longest → IsUnderway d C budget s → Contains (rounds d C budget longest slice s).states t → IsUnderway d C budget t × (s.blocks < t.blocks)
rounds_underway d C budget longest slice s t rows small long h l = (search_ends d C budget longest slice s rows (at_most_cut budget small) long h).each t l

pub rounds_settle : (d : ℕ) (C : Matrix) (budget longest : ℕ) (slice : Option ℕ) (s : Progress) → 0 < length C.rows → budget ≤ 2 ^ 40 → 0 < longest → IsUnderway d C budget s → (rounds d C budget longest slice s).is_stopped ≡ false → IsSettled d C budget (last_state s (rounds d C budget longest slice s).states)
rounds_settle d C budget longest slice s rows small long h e = (search_ends d C budget longest slice s rows (at_most_cut budget small) long h).settles e

pub rounds_stop : (d : ℕ) (C : Matrix) (budget longest : ℕ) (slice : Option ℕ) (s : Progress) → 0 < length C.rows → budget ≤ 2 ^ 40 → 0 < longest → IsUnderway d C budget s → (rounds d C budget longest slice s).is_stopped ≡ true → (finished d C budget (last_state s (rounds d C budget longest slice s).states).blocks (found_of (last_state s (rounds d C budget longest slice s).states)) ≡ None) × ((rounds d C budget longest slice s).left ≡ Some 0)
rounds_stop d C budget longest slice s rows small long h e = (search_ends d C budget longest slice s rows (at_most_cut budget small) long h).stops e

pub session_steps : (divisor : Matrix → ℕ) (needs : List Matrix) (budget longest : ℕ) (slice : Option ℕ) (start : Start) (step : SessionStep) → HaveRows needs → budget ≤ 2 ^ 40 → 0 < longest → IsTrueStart divisor needs budget start → Contains (session_rounds divisor needs budget longest slice start).steps step → IsTrueStep divisor needs budget step
session_steps divisor needs budget longest slice start step rows small long h l = (session_is_true divisor needs budget longest slice start rows (at_most_cut budget small) long h).steps step l

pub session_settles : (divisor : Matrix → ℕ) (needs : List Matrix) (budget longest : ℕ) (slice : Option ℕ) (start : Start) → HaveRows needs → budget ≤ 2 ^ 40 → 0 < longest → IsTrueStart divisor needs budget start → (session_rounds divisor needs budget longest slice start).is_stopped ≡ false → AreSettled divisor budget needs (session_rounds divisor needs budget longest slice start).settled
session_settles divisor needs budget longest slice start rows small long h e = (session_is_true divisor needs budget longest slice start rows (at_most_cut budget small) long h).settled e

pub session_stops : (divisor : Matrix → ℕ) (needs : List Matrix) (budget longest : ℕ) (slice : Option ℕ) (start : Start) → HaveRows needs → budget ≤ 2 ^ 40 → 0 < longest → IsTrueStart divisor needs budget start → (session_rounds divisor needs budget longest slice start).is_stopped ≡ true → (session_rounds divisor needs budget longest slice start).left ≡ Some 0
session_stops divisor needs budget longest slice start rows small long h e = (session_is_true divisor needs budget longest slice start rows (at_most_cut budget small) long h).stops e

-- A search that goes on from a best word ends at the answer.
--   search_rises         its states rise
--   settles_so           a search that is finished with an answer is settled by it
--   ends_at_answer       so it ends at its answer, unless the slice stops it
--   turn_within          the turn of a true checkpoint
--   early_enough, true_turn      that of version 1, and that of any version
--   searches_end         the searches of a script
use Rattle.std.proofs.Common.{◌≡◌, ◌+◌, ◌-◌, ◌≤◌, ◌<◌, ◌^◌, ⊎_elim, ℕ, zero, suc, Bool, true, false, List, [], ◌∷◌, find, length, refl, sym, ap, subst, ◌∙◌, arith}
use Rattle.std.specs.Prelude.{Option, Some, None, if◌then◌else◌, ◌==◌, ◌&&◌, nat_le, slice_get, map, ◌*◌}
use Rattle.std.proofs.lemmas.Bool.{cases_Bool, cases_lt}
use Rattle.std.proofs.lemmas.List.Sums.{sum_by-append}
use Rattle.std.proofs.lemmas.Option.{slice_get_within}
use Rattle.sha2.specs.Sha256.{sha256}
use Rattle.lc_algebra.specs.Matrix.{Matrix}
use Rattle.lc_enumeration.specs.Plan.{cut}
use Rattle.lc_enumeration.specs.Search.{Answer, no_word, exact, bracket, set_count, best, bound, is_done, may_end, answer_at, answer, finished}
use Rattle.lc_enumeration.specs.Records.{Progress, Rounds, found_of, round_length, after_round, is_used_up, state_first, no_round, less_slice, rounds_within, rounds, IsBestAt}
use Rattle.lc_enumeration.specs.Truth.{answer_blocks, IsSettled}
use Rattle.lc_enumeration.proofs.RecordsLaws.{round_is_best}
use Rattle.lc_infoset.proofs.AnswerLaws.{some_set}
use Rattle.lc_infoset.proofs.RoundLaws.{done_list, target, reached, round_within, next_blocks, target_within}
use Rattle.lc_infoset.proofs.SessionLaws.{answer_is, target_is, search_ends}
use Rattle.lc_formats.specs.Truth.{divisor_in, turn_allowance}
use Rattle.lc_formats.specs.Checkpoint.{Checkpoint}
use Rattle.lc_language.specs.declared.Call.{Call}
use Rattle.lc_session_rules.specs.Needs.{MeetsFirst}
use Rattle.lc_session_rules.specs.Slots.{IsTrueCheckpoint}
use Rattle.lc_session_rules.specs.Chain.{Rises, EndsAtAnswer, IsGround}
use Rattle.lc_session_rules.proofs.TrueSteps.{AreSettled, blocks_of, parts_of}

search_rises : (most d : ℕ) (C : Matrix) (budget longest : ℕ) (slice o : Option ℕ) (s : Progress) → 0 < length C.rows → 0 < set_count C → budget ≤ cut → 0 < longest → find (is_done d C) (done_list C budget) ≡ o → IsBestAt C s → s.blocks ≤ target o budget → Rises C (target o budget) s.blocks (rounds_within most d C budget longest slice s).states
unfolding rounds_within state_first no_round
search_rises zero d C budget longest slice o s rows sets small long f h few = tt
search_rises (suc most) d C budget longest slice o s rows sets small long f h few =
    let count = round_length C budget longest slice s.blocks in
    let next = after_round C s count in
    let rest = rounds_within most d C budget longest (less_slice slice count) next in
    let go = λ (b : Bool). elim b as (λ _. Rounds) [ true ↦ no_round slice true | false ↦ state_first next rest ] in
    let on = λ (a : Option Answer). elim a as (λ _. Rounds) [ Some _ ↦ no_round slice false | None ↦ go (is_used_up slice) ] in
    let goal = λ (r : Rounds). Rises C (target o budget) s.blocks r.states in
    let state = reached d C budget o s.blocks (found_of s) rows sets f h few in
    ⊎_elim
    (λ less.
    subst (λ (a : Option Answer). goal (on a)) (sym (state.before less))
    (⊎_elim
    (λ u. subst (λ (b : Bool). goal (go b)) (sym u) tt)
    (λ u.
    let w = round_within d C budget longest slice o s.blocks rows sets small long f less u in
    let blocks = next_blocks C s count in
    let best_next = round_is_best C s count h in
    let few_next : next.blocks ≤ target o budget = omega (arith, blocks, w.1) in
    subst (λ (b : Bool). goal (go b)) (sym u) (omega (arith, blocks, w.0), few_next, best_next, search_rises most d C budget longest (less_slice slice count) o next rows sets small long f best_next few_next))
    (cases_Bool (is_used_up slice))))
    (λ least. subst (λ (a : Option Answer). goal (on a)) (sym (state.here (omega (arith, least, few)))) tt)
    (cases_lt s.blocks (target o budget))

-- what an answer says of the record that is settled by it
abbrev SettlesAs : Progress → Answer → Type 0
SettlesAs s no_word = ⊥
SettlesAs s (exact found l) = (s.blocks ≡ l) × (found_of s ≡ found)
SettlesAs s (bracket low found l) = (s.blocks ≡ l) × (found_of s ≡ found)

settles_so : (d : ℕ) (C : Matrix) (budget : ℕ) (s : Progress) (a : Answer) → finished d C budget s.blocks (found_of s) ≡ Some a → SettlesAs s a
unfolding finished
settles_so d C budget s a is =
    by_end (may_end C s.blocks && nat_le (found_of s).weight (bound d C s.blocks (found_of s).weight)) (s.blocks == budget) is
  where
    by_end : (b c : Bool) → (if b then Some (exact (found_of s) s.blocks) else (if c then Some (bracket (bound d C s.blocks (found_of s).weight) (found_of s) s.blocks) else None)) ≡ Some a → SettlesAs s a
    by_end true c e = (let same : exact (found_of s) s.blocks ≡ a = (let f = e in cc) in subst (SettlesAs s) same (refl, refl))
    by_end false true e = (let same : bracket (bound d C s.blocks (found_of s).weight) (found_of s) s.blocks ≡ a = (let f = e in cc) in subst (SettlesAs s) same (refl, refl))
    by_end false false e = absurd (let f = e in cc)

pub ends_at_answer : (d : ℕ) (C : Matrix) (budget longest : ℕ) (slice : Option ℕ) (s : Progress) → 0 < length C.rows → budget ≤ 2 ^ 40 → 0 < longest → IsBestAt C s → s.blocks ≤ answer_blocks (answer d C budget) → EndsAtAnswer d C budget longest slice s
unfolding rounds cut
ends_at_answer d C budget longest slice s rows small long h few =
    let o = find (is_done d C) (done_list C budget) in
    let most : target o budget ≡ answer_blocks (answer d C budget) = sym (target_is d C budget rows) in
    let e = search_ends d C budget longest slice s rows small long (record { best = h; few = few }) in
    record {
      rises = subst (λ (n : ℕ). Rises C n s.blocks (rounds d C budget longest slice s).states) most (search_rises (suc (budget - s.blocks)) d C budget longest slice o s rows (some_set C) small long refl h (omega (arith, few, most)));
      ends = λ unstopped. e.settles unstopped;
    }

settled_at : (d : ℕ) (C : Matrix) (budget : ℕ) (o : Option ℕ) (s : Progress) → SettlesAs s (answer_at d C budget o) → (s.blocks ≡ target o budget) × (found_of s ≡ best C (set_count C) s.blocks)
unfolding answer_at
settled_at d C budget None s h = (h.0, h.1 ∙ ap (best C (set_count C)) (sym h.0))
settled_at d C budget (Some l) s h = (h.0, h.1 ∙ ap (best C (set_count C)) (sym h.0))

-- an answer has no more blocks than the budget
pub answer_within : (d : ℕ) (C : Matrix) (budget : ℕ) (s : Progress) → 0 < length C.rows → IsSettled d C budget s → s.blocks ≤ budget
answer_within d C budget s rows settles =
    let o = find (is_done d C) (done_list C budget) in
    let at = settled_at d C budget o s (subst (SettlesAs s) (answer_is d C budget rows) (settles_so d C budget s (answer d C budget) settles)) in
    let t = target_within d C budget o refl in
    omega (arith, at.0, t)

pub blocks_within : (d : ℕ) (C : Matrix) (budget : ℕ) → 0 < length C.rows → answer_blocks (answer d C budget) ≤ budget
blocks_within d C budget rows =
    let o = find (is_done d C) (done_list C budget) in
    let most : answer_blocks (answer d C budget) ≡ target o budget = target_is d C budget rows in
    let t = target_within d C budget o refl in
    omega (arith, most, t)

pub settled_within : (divisor : Matrix → ℕ) (budget : ℕ) (needs : List Matrix) (settled : List Progress) → budget ≤ 2 ^ 40 → ((i : ℕ) (C : Matrix) → slice_get needs i ≡ Some C → 0 < length C.rows) → AreSettled divisor budget needs settled → blocks_of settled ≤ length settled * 2 ^ 40
settled_within divisor budget needs [] small rows all = omega arith
settled_within divisor budget [] (s ∷ settled) small rows all = absurd all
settled_within divisor budget (C ∷ needs) (s ∷ settled) small rows all =
    let one = answer_within (divisor C) C budget s (rows 0 C refl) all.0 in
    let rest = settled_within divisor budget needs settled small (λ i D at. rows (suc i) D at) all.1 in
    let sum_is = sum_by-append (λ x. x) (s.blocks ∷ []) (map (λ (t : Progress). t.blocks) settled) in
    omega (arith, small, one, rest, sum_is)

-- the turn of a true checkpoint
pub turn_within : (table : List Call) (bytes : List ℕ) (budget : ℕ) (p : Checkpoint) → IsGround table bytes budget → IsTrueCheckpoint table bytes budget p → p.turn < 2 ^ 57 + turn_allowance p.version
turn_within table bytes budget p ground (needs, met, holds) =
    let rows = ground.rows needs met in
    let parts = parts_of needs (sha256 bytes) budget p holds in
    let all = parts.settled in
    let sum_of = settled_within (divisor_in p.version) budget needs p.settled ground.small rows all in
    let here = blocks_within (divisor_in p.version parts.current.0) parts.current.0 budget (rows (length p.settled) parts.current.0 parts.current.1) in
    let inside = slice_get_within needs (length p.settled) parts.current.0 parts.current.1 in
    let few = ground.few needs met in
    omega (arith, holds.turn, sum_of, here, parts.current.3, inside, few, ground.small)

-- a true checkpoint of version 1 has a turn below 2^57
pub early_enough : (table : List Call) (bytes : List ℕ) (budget : ℕ) (p : Checkpoint) → IsGround table bytes budget → p.version ≡ 1 → IsTrueCheckpoint table bytes budget p → p.turn < 2 ^ 57
unfolding turn_allowance
early_enough table bytes budget p ground first holds =
    let none : turn_allowance p.version ≡ 0 = ap turn_allowance first in
    let within = turn_within table bytes budget p ground holds in
    omega (arith, within, none)

-- one of any version has a turn below 2^58
pub true_turn : (table : List Call) (bytes : List ℕ) (budget : ℕ) → IsGround table bytes budget → (p : Checkpoint) → IsTrueCheckpoint table bytes budget p → p.turn < 2 ^ 58
unfolding turn_allowance
true_turn table bytes budget ground p holds =
    let within = turn_within table bytes budget p ground holds in
    ⊎_elim (λ (e : p.version ≡ 1). let none : turn_allowance p.version ≡ 0 = ap turn_allowance e in omega (arith, within, none))
    (λ (e : p.version ≡ 2). let some : turn_allowance p.version ≡ 2 ^ 57 = ap turn_allowance e in omega (arith, within, some)) holds.2.known

-- what the searches of a script do, as chains need it
pub searches_end : (table : List Call) (bytes : List ℕ) (budget longest : ℕ) → 0 < longest → IsGround table bytes budget → (version : ℕ) (needs : List Matrix) → MeetsFirst table bytes needs → (i : ℕ) (C : Matrix) → slice_get needs i ≡ Some C → (slice : Option ℕ) (s : Progress) → IsBestAt C s → s.blocks ≤ answer_blocks (answer (divisor_in version C) C budget)
    → EndsAtAnswer (divisor_in version C) C budget longest slice s
searches_end table bytes budget longest long ground version needs met i C at slice s h few = ends_at_answer (divisor_in version C) C budget longest slice s (ground.rows needs met i C at) ground.small long h few

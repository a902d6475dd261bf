-- The sums of a stack, in the list that it keeps.
--   front_put                    a sum put after the fronts before it
--   front_room, front_start      a list of zero words has room, and the front of no entry
--   length_sums, sum_at          the words after the first
--   partial_at, sums_are, fronts_are      the sums are the partial words if and only if the list has the fronts
--   last_sum                     the last sum is the word at the level
--   step_fronts                  the fronts that a step leaves
--   set_below, level_some, code_message      the set, the level and the message of a spot of a plan
--   stack_at                     a stack with the fronts of its message is at it
use Rattle.std.proofs.Common.{◌≡◌, ℕ, zero, suc, ◌+◌, ◌-◌, ◌%◌, ◌<◌, ◌≤◌, List, [], set, length, slice_index, slice_index_or, drop, Contains, refl, sym, ap, ◌∙◌, ⊎_elim, arith}
use Rattle.std.proofs.lemmas.Bool.{cases_lt}
use Rattle.std.proofs.Math.Nat.{mod-eq_of_lt, mod-lt}
use Rattle.std.proofs.lemmas.List.Elements.{All-get_or}
use Rattle.std.proofs.lemmas.List.{get_or-set_same, get_or-set_other, length-set, length-map, length-drop, length-take-le, get_or-take, get_or-drop, get_or-map, ext_get_or}
use Rattle.lc_algebra.specs.Field.{size}
use Rattle.lc_algebra.specs.Word.{IsWord, zero_word, word_sum, scale}
use Rattle.lc_algebra.specs.Span.{below, AreIndependent}
use Rattle.lc_algebra.specs.Matrix.{Matrix, AreRows}
use Rattle.lc_algebra.proofs.WordLaws.{IsWord_sum, IsWord_zero, length_scale}
use Rattle.lc_algebra.proofs.SpanLaws.{length_below, index_below}
use Rattle.lc_enumeration.specs.Message.{Message, messages}
use Rattle.lc_enumeration.specs.Plan.{phase_set, phase_level}
use Rattle.lc_enumeration.specs.Search.{set_count, generator_at, front_of, word_of, partial_words}
use Rattle.lc_place.specs.Place.{PlanSize, SpotState, spot_message, IsFirstChange}
use Rattle.lc_kernel.specs.Kernel.{StackState, IsPlanOf, IsStackAt, top_sum}
use Rattle.lc_kernel.specs.Sums.{AreFronts, IsRoom, sums_of}
use Rattle.lc_kernel.proofs.FrontLaws.{entries_are, Generates, generates, front_first, front_next, front_word_is, front_same}

pub front_put : (C : Matrix) (s : SpotState) (i : ℕ) (ws vs : List (List ℕ)) → AreRows C.field C.columns C.rows → AreIndependent C.field C.columns C.rows → s.set < set_count C → Contains (messages (length C.rows) (size C.field) (length s.support)) (spot_message s) → i < length s.support → IsRoom C s ws → AreFronts C s i ws
    → vs ≡ set ws (i + 1) (word_sum C.field (slice_index_or ws i []) (scale C.field (slice_index s.coefficients i) (slice_index_or (generator_at C s.set) (slice_index s.support i) [])))
    → IsRoom C s vs × AreFronts C s (i + 1) vs
front_put C s i ws vs rows free set_is message l room fronts is =
    let g = generates C s.set rows free set_is in
    let e = entries_are C s message in
    let v = word_sum C.field (slice_index_or ws i []) (scale C.field (slice_index s.coefficients i) (slice_index_or (generator_at C s.set) (slice_index s.support i) [])) in
    let row_long : length (slice_index_or (generator_at C s.set) (slice_index s.support i) []) ≡ C.columns = (row_word C s.set (slice_index s.support i) g (e.row i l)).long in
    let inside : i + 1 < length ws = omega (arith, room.many, l, e.few) in
    let word : IsWord C.field C.columns v = IsWord_sum C.field C.columns (slice_index_or ws i []) _ (room.words i (omega (arith, inside))).long (length_scale C.field (slice_index s.coefficients i) _ ∙ row_long) in
    let at_last : slice_index_or vs (i + 1) [] ≡ v = ap (λ z. slice_index_or z (i + 1) []) is ∙ get_or-set_same ws (i + 1) v [] inside in
    let other : (t : ℕ) → (t ≡ i + 1 → ⊥) → slice_index_or vs t [] ≡ slice_index_or ws t [] = λ t ne. ap (λ z. slice_index_or z t []) is ∙ get_or-set_other ws (i + 1) t v [] ne in (
      record {
        many = ap length is ∙ length-set ws (i + 1) v ∙ room.many;
        words = λ t m. ⊎_elim
            (λ a. rw (other t (λ q. omega (arith, a, q))) (room.words t (omega (arith, m, ap length is, length-set ws (i + 1) v))))
            (λ a. ⊎_elim
            (λ b. rw (other t (λ q. omega (arith, b, q))) (room.words t (omega (arith, m, ap length is, length-set ws (i + 1) v))))
            (λ b. let same : t ≡ i + 1 = omega (arith, a, b) in rw (same, at_last) word)
            (cases_lt (i + 1) t))
            (cases_lt t (i + 1));
        first = other 0 (λ q. omega (arith, q)) ∙ room.first;
        room = room.room;
      },
      λ t m. ⊎_elim
          (λ a. other t (λ q. omega (arith, a, q)) ∙ fronts t (omega (arith, a)))
          (λ a. let same : t ≡ suc i = omega (arith, a, m) in
          let last : i + 1 ≡ suc i = omega arith in
          rw same (ap (λ j. slice_index_or vs j []) (sym last) ∙ at_last ∙ ap (λ w. word_sum C.field w (scale C.field (slice_index s.coefficients i) (slice_index_or (generator_at C s.set) (slice_index s.support i) []))) (fronts i (omega arith)) ∙ sym (front_next C s i g e l)))
          (cases_lt t (i + 1)),
    )
  where
    row_word : (C : Matrix) (j r : ℕ) → Generates C j → r < length C.rows → IsWord C.field C.columns (slice_index_or (generator_at C j) r [])
    row_word C j r g l = All-get_or (IsWord C.field C.columns) (generator_at C j) r [] (omega (arith, l, g.count)) g.rows

pub front_room : (C : Matrix) (s : SpotState) (ws : List (List ℕ)) → length ws ≡ length C.rows + 1 → ((i : ℕ) → i < length C.rows + 1 → slice_index_or ws i [] ≡ zero_word C.columns) → s.room ≡ length C.rows → IsRoom C s ws
front_room C s ws many none room = record {
  many = many;
  words = λ i l. rw (none i (omega (arith, l, many))) (IsWord_zero C.field C.columns);
  first = none 0 (omega arith);
  room = room;
}

pub front_start : (C : Matrix) (s : SpotState) (ws : List (List ℕ)) → AreRows C.field C.columns C.rows → AreIndependent C.field C.columns C.rows → s.set < set_count C → slice_index_or ws 0 [] ≡ zero_word C.columns → AreFronts C s 0 ws
front_start C s ws rows free l first i m = let e : i ≡ 0 = omega (arith, m) in rw e (first ∙ sym (front_first C s (generates C s.set rows free l)))

pub length_sums : (n : ℕ) (ws : List (List ℕ)) → n + 1 ≤ length ws → length (sums_of n ws) ≡ n
unfolding sums_of
length_sums n ws l = length-take-le n (drop 1 ws) (omega (arith, l, length-drop 1 ws))

pub sum_at : (n i : ℕ) (ws : List (List ℕ)) → i < n → slice_index_or (sums_of n ws) i [] ≡ slice_index_or ws (suc i) []
unfolding sums_of
sum_at n i ws l =
    let e : 1 + i ≡ suc i = omega arith in
    get_or-take n (drop 1 ws) i [] l ∙ get_or-drop 1 ws i [] ∙ ap (λ j. slice_index_or ws j []) e

pub no_sums : (ws : List (List ℕ)) → sums_of 0 ws ≡ []
unfolding sums_of
no_sums ws = refl

pub length_partial : (C : Matrix) (m p : ℕ) (message : Message) → length (partial_words C m p message) ≡ length message.support
unfolding partial_words
length_partial C m p message = length-map (below (length message.support)) (λ i. word_of C m p (front_of message (suc i))) ∙ length_below (length message.support)

pub partial_at : (C : Matrix) (m p i : ℕ) (message : Message) → i < length message.support → slice_index_or (partial_words C m p message) i [] ≡ word_of C m p (front_of message (suc i))
unfolding partial_words
partial_at C m p i message l =
    get_or-map (λ i. word_of C m p (front_of message (suc i))) (below (length message.support)) i 0 [] (omega (arith, l, length_below (length message.support)))
    ∙ ap (λ i. word_of C m p (front_of message (suc i))) (index_below (length message.support) i 0 l)

pub own_set : (m j : ℕ) → j < m → j ≡ phase_set m j
unfolding phase_set
own_set m j l = sym (mod-eq_of_lt l)

pub sums_are : (C : Matrix) (m : ℕ) (s : SpotState) (ws : List (List ℕ)) → s.set < m → length s.support + 1 ≤ length ws → AreFronts C s (length s.support) ws → sums_of (length s.support) ws ≡ partial_words C m s.set (spot_message s)
sums_are C m s ws l room fronts =
    let long = length_sums (length s.support) ws room in
    ext_get_or [] (sums_of (length s.support) ws) (partial_words C m s.set (spot_message s)) (long ∙ sym (length_partial C m s.set (spot_message s))) (λ i j.
    let n : i < length s.support = omega (arith, j, long) in
    sum_at (length s.support) i ws n ∙ fronts (suc i) (omega (arith, n)) ∙ sym (front_word_is C m s.set s (suc i) (own_set m s.set l)) ∙ sym (partial_at C m s.set i (spot_message s) n))

pub fronts_are : (C : Matrix) (m : ℕ) (s : SpotState) (ws : List (List ℕ)) → AreRows C.field C.columns C.rows → AreIndependent C.field C.columns C.rows → s.set < set_count C → s.set < m → slice_index_or ws 0 [] ≡ zero_word C.columns → sums_of (length s.support) ws ≡ partial_words C m s.set (spot_message s) → AreFronts C s (length s.support) ws
fronts_are C m s ws rows free inside l first is zero b = front_start C s ws rows free inside first 0 (omega arith)
fronts_are C m s ws rows free inside l first is (suc i) b =
    let n : i < length s.support = omega (arith, b) in
    sym (sum_at (length s.support) i ws n) ∙ ap (λ z. slice_index_or z i []) is ∙ partial_at C m s.set i (spot_message s) n ∙ front_word_is C m s.set s (suc i) (own_set m s.set l)

pub last_sum : (C : Matrix) (s : StackState) (spot : SpotState) (ws : List (List ℕ)) → IsRoom C spot ws → length spot.support ≤ length C.rows → 0 < length spot.support → s ≡ record { code = C; spot = spot; sums = sums_of (length spot.support) ws } → slice_index_or ws (length spot.support) [] ≡ top_sum s
last_sum C s spot ws room few some e =
    let long = length_sums (length spot.support) ws (omega (arith, room.many, few)) in
    let at : suc (length (sums_of (length spot.support) ws) - 1) ≡ length spot.support = omega (arith, long, some) in
    rw e (sym (sum_at (length spot.support) (length (sums_of (length spot.support) ws) - 1) ws (omega (arith, long, some)) ∙ ap (λ j. slice_index_or ws j []) at))

pub step_fronts : (C : Matrix) (s t : SpotState) (i : ℕ) (ws : List (List ℕ)) → AreFronts C s (length s.support) ws → IsFirstChange s t i → t.set ≡ s.set → AreFronts C t i ws
step_fronts C s t i ws fronts change e n l =
    fronts n (omega (arith, l, change.inside)) ∙ sym (front_same C s t i n l e change.same_support change.same_coefficients)

pub set_below : (C : Matrix) (plan : PlanSize) (p j : ℕ) → IsPlanOf plan C → j ≡ phase_set plan.m p → (j < plan.m) × (j < set_count C)
unfolding phase_set
set_below C plan p j h e =
    let l : p % plan.m < plan.m = mod-lt p (omega (arith, h.some)) in
    (omega (arith, e, l), omega (arith, e, l, h.sets))

pub level_some : (m p n : ℕ) → n ≡ phase_level m p → 0 < n
unfolding phase_level
level_some m p n e = omega (arith, e)

pub code_message : (C : Matrix) (plan : PlanSize) (s : SpotState) → IsPlanOf plan C → Contains (messages plan.k plan.q (length s.support)) (spot_message s) → Contains (messages (length C.rows) (size C.field) (length s.support)) (spot_message s)
code_message C plan s h l = rw (← h.dimension, ← h.field) l

-- a list written whole over another of its length
pub stack_at : (C code : Matrix) (m : ℕ) (spot : SpotState) (ws vs : List (List ℕ)) → code ≡ C → spot.set < m → Contains (messages (length C.rows) (size C.field) (length spot.support)) (spot_message spot) → 0 < length spot.support → IsRoom C spot ws → AreFronts C spot (length spot.support) ws → vs ≡ ws → IsStackAt C m (record { code = code; spot = spot; sums = sums_of (length spot.support) vs })
stack_at C code m spot ws vs e l message some room fronts same = record {
  code = e;
  set = l;
  message = message;
  level = some;
  sums = ap (sums_of (length spot.support)) same ∙ sums_are C m spot ws l (omega (arith, room.many, (entries_are C spot message).few)) fronts;
}

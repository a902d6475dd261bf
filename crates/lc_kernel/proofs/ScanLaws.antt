-- The words of a block, one after another, and the least of their values.
--   one_value, more_values, all_values      the least of one value, of a value more, and of all of a block
--   block_long, block_word       how many words a block has, and the word at an offset
--   word_at_offset, value_here   the word of a stack at an offset is that of the block
--   offset_first, offset_next    the first message of a block, and the next one
--   same_phase, phase_same, length_of_code      a phase and a length of a plan are those of its code
--   block_value                  the least value of all words is that of the block
--   words_of_block, block_value_of_words      the same by the words of the block
--   counts_cut                   so many of 4,096 counts as a block has words
--   first_of_block, spot_at      a spot at the first message of a block
--   past_plan, past_block, at_word, word_there      the word at a place
use Rattle.std.proofs.Common.{◌≡◌, ℕ, suc, ◌+◌, ◌-◌, ◌*◌, ◌/◌, ◌%◌, ◌^◌, ◌<◌, ◌≤◌, min, Bool, true, false, nat_lt, nat_le, ◌&&◌, if◌then◌else◌, List, [], ◌∷◌, length, take, drop, find, slice_get, slice_index_or, Some, None, option_map, Contains, refl, sym, ap, ◌∙◌, ⊎_elim, arith}
use Rattle.std.proofs.Math.Nat.{mod-lt}
use Rattle.std.proofs.lemmas.Bool.{cases_lt}
use Rattle.std.proofs.lemmas.Bool.Decides.{nat_tests}
use Rattle.std.proofs.lemmas.List.{length-map, length-take, length-take-le, length-drop}
use Rattle.std.proofs.lemmas.Option.{slice_get_past, slice_get-get_or, slice_get-map, get_or_from_slice_get, none-some}
use Rattle.lc_algebra.specs.Field.{size}
use Rattle.lc_algebra.specs.Word.{weight}
use Rattle.lc_algebra.specs.Span.{below}
use Rattle.lc_algebra.specs.Matrix.{Matrix}
use Rattle.lc_algebra.proofs.SpanLaws.{contains_below, contains_head, contains_tail}
use Rattle.lc_enumeration.specs.Message.{Message, messages, message_count}
use Rattle.lc_enumeration.specs.Plan.{total, phase_at, phase_level, phase_set, blocks_before, block_length, block_messages, place_of, phase_of, IsInPhase}
use Rattle.lc_enumeration.specs.Search.{Found, set_count, word_of, word_at, block_words, found_along, found_in_block, least_of, least_in, block_least, beats, board_value}
use Rattle.lc_enumeration.specs.Truth.{IsLeastOf}
use Rattle.lc_enumeration.proofs.PlanLaws.{blocks_least, end_is}
use Rattle.lc_enumeration.proofs.SearchLaws.{words_in_phase, along_holds, along_has, least_is, beats_is_less}
use Rattle.lc_place.specs.Place.{PlanSize, SpotState, spot_message}
use Rattle.lc_place.proofs.Messages.{length-messages}
use Rattle.lc_place.proofs.Listing.{block_message}
use Rattle.lc_kernel.specs.Kernel.{StackState, IsPlanOf, IsStackAt, top_sum}
use Rattle.lc_kernel.specs.Values.{value_at, IsLeastValue, IsMessageOf, IsSpotAt, IsAtOffset}
use Rattle.lc_kernel.proofs.FrontLaws.{entries_are, front_word_is, front_whole}
use Rattle.lc_kernel.proofs.SumLaws.{length_partial, partial_at, set_below, level_some, code_message, own_set}

pub one_value : (place : ℕ) (ws : List (List ℕ)) (v : ℕ) → v ≡ value_at place ws 0 → IsLeastValue place ws 1 v
one_value place ws v e = record {
  low = λ i l. let z : i ≡ 0 = omega (arith, l) in rw (z, e) (omega arith);
  attained = (0, omega arith, e);
}

pub more_values : (place : ℕ) (ws : List (List ℕ)) (n v x : ℕ) → IsLeastValue place ws n v → x ≡ value_at place ws n → IsLeastValue place ws (n + 1) (min v x)
more_values place ws n v x h e =
    let least : min v x ≤ x = omega arith in
    record {
      low = λ i l. ⊎_elim (λ a. omega (arith, h.low i a)) (λ a. let z : i ≡ n = omega (arith, a, l) in rw z (omega (arith, least, e))) (cases_lt i n);
      attained = ⊎_elim
          (λ a. let t = h.attained in let is : min v x ≡ v = omega (arith, a) in (t.0, omega (arith, t.1), is ∙ t.2))
          (λ a. let is : min v x ≡ x = omega (arith, a) in (n, omega arith, is ∙ e))
          (cases_lt v x);
    }

value_is : (w p : ℕ) → board_value (record { weight = w; place = p }) ≡ w * 2 ^ 52 + p
unfolding board_value
value_is w p = refl

not_less : (a b : ℕ) → nat_lt a b ≡ false → b ≤ a
not_less a b e = grind (arith, nat_tests, e)

least_value : (place : ℕ) (ws : List (List ℕ)) (v : ℕ) (y : Found) → place + length ws ≤ 2 ^ 52 → IsLeastValue place ws (length ws) v → IsLeastOf (found_along place ws) y → board_value y ≡ v
least_value place ws v y few h l =
    let one = along_holds place ws y l.one in
    let t = h.attained in
    let word_i : slice_index_or ws one.0 [] ≡ one.1 = get_or_from_slice_get ws one.0 one.1 [] one.2 in
    let value_i : board_value y ≡ value_at place ws one.0 = ap board_value one.4 ∙ value_is (weight one.1) (place + one.0) ∙ ap (λ w. weight w * 2 ^ 52 + (place + one.0)) (sym word_i) in
    let at_j : slice_get ws t.0 ≡ Some (slice_index_or ws t.0 []) = slice_get-get_or ws t.0 [] t.1 in
    let x : Found = record { weight = weight (slice_index_or ws t.0 []); place = place + t.0 } in
    let beaten : beats x y ≡ false = l.unbeaten x (along_has place ws t.0 (slice_index_or ws t.0 []) at_j) in
    let y_place : y.place ≡ place + one.0 = ap (λ (z : Found). z.place) one.4 in
    let less : beats x y ≡ nat_lt (board_value x) (board_value y) = beats_is_less x y (omega (arith, few, t.1)) (omega (arith, few, one.3, y_place)) in
    let high : board_value y ≤ board_value x = not_less (board_value x) (board_value y) (sym less ∙ beaten) in
    let value_j : board_value x ≡ v = value_is (weight (slice_index_or ws t.0 [])) (place + t.0) ∙ sym t.2 in
    let low : v ≤ board_value y = rw value_i (h.low one.0 one.3) in
    omega (arith, low, high, value_j)

pub all_values : (place : ℕ) (ws : List (List ℕ)) (v : ℕ) → place + length ws ≤ 2 ^ 52 → IsLeastValue place ws (length ws) v → option_map board_value (least_in (found_along place ws)) ≡ Some v
unfolding found_along least_in
all_values place [] v few h = absurd (omega (arith, h.attained.1))
all_values place (w ∷ ws) v few h =
    ap Some (least_value place (w ∷ ws) v (least_of (record { weight = weight w; place = place }) (found_along (suc place) ws)) few h (least_is (record { weight = weight w; place = place }) (found_along (suc place) ws)))

pub block_long : (C : Matrix) (m p b : ℕ) → IsInPhase (length C.rows) (size C.field) m p b → length (block_words C m b) ≡ block_length (length C.rows) (size C.field) m p b
unfolding block_messages block_length
block_long C m p b h =
    let all = messages (length C.rows) (size C.field) (phase_level m p) in
    let from = 4096 * (b - blocks_before (length C.rows) (size C.field) m p) in
    ap length (words_in_phase C m p b h) ∙ length-map (take 4096 (drop from all)) (word_of C m p) ∙ length-take 4096 (drop from all) ∙ ap (min 4096) (length-drop from all ∙ ap (λ n. n - from) (length-messages (length C.rows) (size C.field) (phase_level m p)))

pub block_word : (C : Matrix) (m p b n : ℕ) (message : Message) → IsInPhase (length C.rows) (size C.field) m p b → n < 4096 → slice_get (messages (length C.rows) (size C.field) (phase_level m p)) (4096 * (b - blocks_before (length C.rows) (size C.field) m p) + n) ≡ Some message → slice_get (block_words C m b) n ≡ Some (word_of C m p message)
block_word C m p b n message h l e =
    ap (λ z. slice_get z n) (words_in_phase C m p b h) ∙ slice_get-map (word_of C m p) (block_messages (length C.rows) (size C.field) m p b) n
    ∙ ap (option_map (word_of C m p)) (block_message (length C.rows) (size C.field) m p b n l ∙ e)

stack_word : (C : Matrix) (m p : ℕ) (s : StackState) → IsStackAt C m s → s.spot.set ≡ phase_set m p → top_sum s ≡ word_of C m p (spot_message s.spot)
stack_word C m p s h e =
    let own = own_set m s.spot.set h.set in
    let entries = entries_are C s.spot h.message in
    let long : length s.sums ≡ length s.spot.support = ap length h.sums ∙ length_partial C m s.spot.set (spot_message s.spot) in
    let last : suc (length s.sums - 1) ≡ length s.spot.support = omega (arith, long, h.level) in
    let at = partial_at C m s.spot.set (length s.sums - 1) (spot_message s.spot) (omega (arith, long, h.level)) in
    let whole = front_whole (spot_message s.spot) (suc (length s.sums - 1)) last (last ∙ sym entries.many) in
    ap (λ z. slice_index_or z (length s.sums - 1) []) h.sums ∙ at ∙ front_word_is C m s.spot.set s.spot (suc (length s.sums - 1)) own ∙ sym (front_word_is C m p s.spot (suc (length s.sums - 1)) e) ∙ ap (word_of C m p) whole

pub word_at_offset : (C : Matrix) (m p b n : ℕ) (s : StackState) → IsInPhase (length C.rows) (size C.field) m p b → n < 4096 → IsAtOffset C m b n s → slice_get (block_words C m b) n ≡ Some (top_sum s)
word_at_offset C m p b n s h l o =
    let t = o.of_block p h in
    block_word C m p b n (spot_message s.spot) h l t.message ∙ ap Some (sym (stack_word C m p s o.at t.set))

pub value_here : (C : Matrix) (m p b n : ℕ) (s : StackState) (v place : ℕ) → IsInPhase (length C.rows) (size C.field) m p b → n < 4096 → IsAtOffset C m b n s → v ≡ weight (top_sum s) * 2 ^ 52 + place → place ≡ b * 4096 + n → v ≡ value_at (place_of b 0) (block_words C m b) n
unfolding place_of
value_here C m p b n s v place h l o e d =
    let word : slice_index_or (block_words C m b) n [] ≡ top_sum s = get_or_from_slice_get (block_words C m b) n (top_sum s) [] (word_at_offset C m p b n s h l o) in
    rw word (omega (arith, e, d))

-- a phase of a plan is one of a code's plan
pub same_phase : (C : Matrix) (plan : PlanSize) (p b : ℕ) → IsPlanOf plan C → IsInPhase (length C.rows) (size C.field) plan.m p b → IsInPhase plan.k plan.q plan.m p b
same_phase C plan p b h i = rw (h.dimension, h.field) i

pub phase_same : (C : Matrix) (plan : PlanSize) (p b : ℕ) → IsPlanOf plan C → IsInPhase plan.k plan.q plan.m p b → IsInPhase (length C.rows) (size C.field) plan.m p b
phase_same C plan p b h i = rw (← h.dimension, ← h.field) i

-- a spot at the first message of a block
first_of_block : (C : Matrix) (plan : PlanSize) (b : ℕ) (s : SpotState) → IsPlanOf plan C
    → ((p : ℕ) → IsInPhase plan.k plan.q plan.m p b → slice_get (messages plan.k plan.q (phase_level plan.m p)) (4096 * (b - blocks_before plan.k plan.q plan.m p)) ≡ Some (spot_message s))
    → ((p : ℕ) → IsInPhase plan.k plan.q plan.m p b → length s.support ≡ phase_level plan.m p)
    → ((p : ℕ) → IsInPhase plan.k plan.q plan.m p b → s.set ≡ phase_set plan.m p)
    → (p : ℕ) → IsInPhase (length C.rows) (size C.field) plan.m p b → IsMessageOf C plan.m b 0 s p
first_of_block C plan b s h first level set_is p i =
    let here = same_phase C plan p b h i in
    let e = first p here in
    let z : 4096 * (b - blocks_before (length C.rows) (size C.field) plan.m p) + 0 ≡ 4096 * (b - blocks_before (length C.rows) (size C.field) plan.m p) = omega arith in
    record {
      message = rw (z, ← h.dimension, ← h.field) e;
      level = level p here;
      set = set_is p here;
    }

pub offset_first : (C : Matrix) (plan : PlanSize) (b : ℕ) (s : StackState) → IsPlanOf plan C → IsStackAt C plan.m s
    → ((p : ℕ) → IsInPhase plan.k plan.q plan.m p b → slice_get (messages plan.k plan.q (phase_level plan.m p)) (4096 * (b - blocks_before plan.k plan.q plan.m p)) ≡ Some (spot_message s.spot))
    → ((p : ℕ) → IsInPhase plan.k plan.q plan.m p b → length s.spot.support ≡ phase_level plan.m p)
    → ((p : ℕ) → IsInPhase plan.k plan.q plan.m p b → s.spot.set ≡ phase_set plan.m p)
    → IsAtOffset C plan.m b 0 s
offset_first C plan b s h at first level set_is = record { at = at; of_block = first_of_block C plan b s.spot h first level set_is }

pub next_is : (o : Bool) (xs : List Message) (n : ℕ) (a : Message) → n < length xs → slice_get xs n ≡ (if o then Some a else None) → slice_get xs n ≡ Some a
next_is true xs n a l e = e
next_is false xs n a l e = absurd (none-some _ (sym e ∙ slice_get-get_or xs n a l))

pub offset_next : (C : Matrix) (plan : PlanSize) (b n : ℕ) (s t : StackState) (o : Bool) → IsPlanOf plan C → IsAtOffset C plan.m b (n - 1) s → 0 < n → IsStackAt C plan.m t
    → ((p : ℕ) → IsInPhase plan.k plan.q plan.m p b → n < block_length plan.k plan.q plan.m p b)
    → ((i : ℕ) → slice_get (messages plan.k plan.q (length s.spot.support)) i ≡ Some (spot_message s.spot) → slice_get (messages plan.k plan.q (length s.spot.support)) (i + 1) ≡ (if o then Some (spot_message t.spot) else None))
    → length t.spot.support ≡ length s.spot.support
    → t.spot.set ≡ s.spot.set
    → IsAtOffset C plan.m b n t
unfolding block_length
offset_next C plan b n s t o h at some stack inside next level set_is = record {
  at = stack;
  of_block = λ p i.
      let now = at.of_block p i in
      let q = same_phase C plan p b h i in
      let from = 4096 * (b - blocks_before (length C.rows) (size C.field) plan.m p) in
      let all = messages (length C.rows) (size C.field) (phase_level plan.m p) in
      let few : n < min 4096 (message_count (length C.rows) (size C.field) (phase_level plan.m p) - from) = rw (← h.dimension, ← h.field) (inside p q) in
      let z : (from + (n - 1)) + 1 ≡ from + n = omega (arith, some) in
      let next_here : (i : ℕ) → slice_get (messages (length C.rows) (size C.field) (length s.spot.support)) i ≡ Some (spot_message s.spot) → slice_get (messages (length C.rows) (size C.field) (length s.spot.support)) (i + 1) ≡ (if o then Some (spot_message t.spot) else None) = rw (← h.dimension, ← h.field) next in
      let step : slice_get (messages (length C.rows) (size C.field) (length s.spot.support)) ((from + (n - 1)) + 1) ≡ (if o then Some (spot_message t.spot) else None) = next_here (from + (n - 1)) (rw now.level now.message) in
      let there : slice_get all (from + n) ≡ (if o then Some (spot_message t.spot) else None) = rw (← z, ← now.level) step in
      record {
        message = next_is o all (from + n) (spot_message t.spot) (omega (arith, few, length-messages (length C.rows) (size C.field) (phase_level plan.m p))) there;
        level = level ∙ now.level;
        set = set_is ∙ now.set;
      };
}

pub block_value : (C : Matrix) (m p b v : ℕ) → IsInPhase (length C.rows) (size C.field) m p b → b < 2 ^ 40 → IsLeastValue (place_of b 0) (block_words C m b) (block_length (length C.rows) (size C.field) m p b) v → option_map board_value (block_least C m b) ≡ Some v
unfolding block_least found_in_block block_length place_of
block_value C m p b v h small l =
    let long = block_long C m p b h in
    let all : IsLeastValue (place_of b 0) (block_words C m b) (length (block_words C m b)) v = rw long l in
    all_values (place_of b 0) (block_words C m b) v (omega (arith, small, long)) all

find_past : {X : Type 0} (test : X → Bool) (xs : List X) → ((x : X) → Contains xs x → test x ≡ false) → find test xs ≡ None
find_past test [] h = refl
find_past test (x ∷ xs) h = rw (h x (contains_head x xs)) (find_past test xs (λ y l. h y (contains_tail x y xs l)))

past_end : (a c b : ℕ) → c ≤ b → (nat_le a b && nat_lt b c) ≡ false
past_end a c b l = grind (arith, nat_tests, l)

no_phase : (k q m b : ℕ) → total k q m ≤ b → phase_of k q m b ≡ None
unfolding phase_of total
no_phase k q m b l = find_past (λ p. nat_le (phase_at k q m p).start b && nat_lt b (phase_at k q m p).end) (below (k * m)) (λ p i.
    let rise = blocks_least k q m (suc p) (k * m) (omega (arith, contains_below (k * m) p i)) in
    past_end (phase_at k q m p).start (phase_at k q m p).end b (omega (arith, l, end_is k q m p, rise)))

pub past_plan : (C : Matrix) (plan : PlanSize) (place : ℕ) → IsPlanOf plan C → total plan.k plan.q plan.m ≤ place / 4096 → word_at C plan.m place ≡ None
unfolding word_at block_words
past_plan C plan place h l =
    let none : phase_of (length C.rows) (size C.field) plan.m (place / 4096) ≡ None = no_phase (length C.rows) (size C.field) plan.m (place / 4096) (rw (← h.dimension, ← h.field) l) in
    rw none refl

pub past_block : (C : Matrix) (plan : PlanSize) (place p : ℕ) → IsPlanOf plan C → IsInPhase plan.k plan.q plan.m p (place / 4096) → block_length plan.k plan.q plan.m p (place / 4096) ≤ place % 4096 → word_at C plan.m place ≡ None
unfolding word_at
past_block C plan place p h i l =
    let few : block_length (length C.rows) (size C.field) plan.m p (place / 4096) ≤ place % 4096 = rw (← h.dimension, ← h.field) l in
    slice_get_past (block_words C plan.m (place / 4096)) (place % 4096) (omega (arith, few, block_long C plan.m p (place / 4096) (phase_same C plan p (place / 4096) h i)))

pub at_word : (C : Matrix) (plan : PlanSize) (place p : ℕ) (s : StackState) → IsPlanOf plan C → IsInPhase plan.k plan.q plan.m p (place / 4096) → IsAtOffset C plan.m (place / 4096) (place % 4096) s → word_at C plan.m place ≡ Some (top_sum s)
unfolding word_at
at_word C plan place p s h i o =
    word_at_offset C plan.m p (place / 4096) (place % 4096) s (phase_same C plan p (place / 4096) h i) (mod-lt place (omega arith)) o

pub word_there : (C : Matrix) (plan : PlanSize) (place p : ℕ) → IsPlanOf plan C → IsInPhase plan.k plan.q plan.m p (place / 4096) → place % 4096 < block_length plan.k plan.q plan.m p (place / 4096) → ¬ (word_at C plan.m place ≡ None)
unfolding word_at
word_there C plan place p h i l none =
    let long : length (block_words C plan.m (place / 4096)) ≡ block_length plan.k plan.q plan.m p (place / 4096) = rw (h.dimension, h.field) (block_long C plan.m p (place / 4096) (phase_same C plan p (place / 4096) h i)) in
    none-some _ (sym none ∙ slice_get-get_or (block_words C plan.m (place / 4096)) (place % 4096) [] (omega (arith, l, long)))

pub length_of_code : (C : Matrix) (plan : PlanSize) (p b : ℕ) → IsPlanOf plan C → block_length plan.k plan.q plan.m p b ≡ block_length (length C.rows) (size C.field) plan.m p b
length_of_code C plan p b h = rw (h.dimension, h.field) refl

pub words_of_block : (C : Matrix) (plan : PlanSize) (p b len : ℕ) → IsPlanOf plan C → IsInPhase plan.k plan.q plan.m p b → len ≡ block_length plan.k plan.q plan.m p b → length (block_words C plan.m b) ≡ len
words_of_block C plan p b len h i e = block_long C plan.m p b (phase_same C plan p b h i) ∙ sym (e ∙ length_of_code C plan p b h)

pub counts_cut : (C : Matrix) (plan : PlanSize) (b len : ℕ) (counts : List ℕ) → IsPlanOf plan C → ((p : ℕ) × IsInPhase (length C.rows) (size C.field) plan.m p b) → ((p : ℕ) → IsInPhase plan.k plan.q plan.m p b → len ≡ block_length plan.k plan.q plan.m p b) → len ≤ 4096 → length counts ≡ 4096 → length (take len counts) ≡ length (block_words C plan.m b)
counts_cut C plan b len counts h phase exact few long =
    let i : IsInPhase plan.k plan.q plan.m phase.0 b = rw (h.dimension, h.field) phase.1 in
    length-take-le len counts (omega (arith, few, long)) ∙ sym (words_of_block C plan phase.0 b len h i (exact phase.0 i))

pub block_value_of_words : (C : Matrix) (m p b v : ℕ) → IsInPhase (length C.rows) (size C.field) m p b → b < 2 ^ 40 → IsLeastValue (place_of b 0) (block_words C m b) (length (block_words C m b)) v → option_map board_value (block_least C m b) ≡ Some v
block_value_of_words C m p b v h small l = block_value C m p b v h small (rw (← block_long C m p b h) l)

-- a stack at an offset has its spot there
pub spot_at : (C : Matrix) (plan : PlanSize) (b : ℕ) (s : SpotState) → IsPlanOf plan C
    → ((p : ℕ) → IsInPhase plan.k plan.q plan.m p b → slice_get (messages plan.k plan.q (phase_level plan.m p)) (4096 * (b - blocks_before plan.k plan.q plan.m p)) ≡ Some (spot_message s))
    → ((p : ℕ) → IsInPhase plan.k plan.q plan.m p b → length s.support ≡ phase_level plan.m p)
    → ((p : ℕ) → IsInPhase plan.k plan.q plan.m p b → s.set ≡ phase_set plan.m p)
    → Contains (messages plan.k plan.q (length s.support)) (spot_message s)
    → ((p : ℕ) × IsInPhase plan.k plan.q plan.m p b)
    → IsSpotAt C plan.m b 0 s × (s.set < set_count C)
spot_at C plan b s h first level set_is message found =
    let below = set_below C plan found.0 s.set h (set_is found.0 found.1) in (
      record {
        set = below.0;
        level = level_some plan.m found.0 (length s.support) (level found.0 found.1);
        message = code_message C plan s h message;
        of_block = first_of_block C plan b s h first level set_is;
      },
      below.1,
    )

-- The words of a walk through the patterns of a level.
--   row_later                  the rows after the first
--   sum_of_one                 a sum with once a row
--   WalkRows, walk_rows        a walk adds up k + 1 words
--   walk_entries               the entries of a message of a level
--   sum_first, sum_next        the words of the fronts, from one entry to the next
--   walk_put                   a sum put after the fronts before it
--   walk_starts, walk_again    the fronts that are there at the beginning, and after a step
--   room_of_walk               a walk leaves a room
--   inside_walk                a pattern has at most k places
--   message_few                patterns are at most as many as the messages of one level and one place more
--   gone_inside, gone_message  a pattern's number is that of a message of the plan
--   walk_to, front_fits        a walk in other words, and the word of a front
--   top_word                   the word of a pattern is one of the code's length
--   plan_message, next_message      the message of a pattern, and the next one
use Rattle.std.proofs.Common.{◌≡◌, ℕ, zero, suc, ◌+◌, ◌-◌, ◌*◌, ◌^◌, ◌<◌, ◌≤◌, Bool, true, false, if◌then◌else◌, None, List, [], ◌∷◌, set, length, take, slice_index, slice_index_or, slice_get, Some, Contains, refl, sym, ap, ap₂, subst, ◌∙◌, ⊎_elim, arith}
use Rattle.std.proofs.Math.Nat.{mul-le-mul_right}
use Rattle.std.proofs.lemmas.Bool.{cases_lt}
use Rattle.std.proofs.lemmas.Option.{slice_get-get_or, none-some}
use Rattle.std.proofs.lemmas.List.{get_or-set_same, get_or-set_other, length-set, take-take}
use Rattle.std.proofs.lemmas.List.Elements.{All-cons, All-get_or}
use Rattle.lc_algebra.specs.declared.FieldName.{FieldName}
use Rattle.lc_algebra.specs.Field.{size}
use Rattle.lc_algebra.specs.Word.{IsWord, Fits, zero_word, word_sum, scale}
use Rattle.lc_algebra.specs.Span.{combine, AreIndependent}
use Rattle.lc_algebra.specs.Matrix.{Matrix, AreRows}
use Rattle.lc_algebra.proofs.WordLaws.{one_scale, zero_scale, scale_zero, length_word_sum, length_scale}
use Rattle.lc_algebra.proofs.SpanLaws.{combine_scale, combine_is_word}
use Rattle.lc_enumeration.specs.Message.{Message, choose, messages, message_count, vector_from}
use Rattle.lc_enumeration.specs.NearWord.{pattern_count}
use Rattle.lc_enumeration.proofs.ChooseLaws.{choose_next}
use Rattle.lc_enumeration.specs.Search.{set_count, generator_at}
use Rattle.lc_place.specs.Place.{PlanSize, SpotState, spot_message, IsFirstChange}
use Rattle.lc_place.proofs.Vectors.{vector_is}
use Rattle.lc_place.proofs.Messages.{to_contains, length-messages}
use Rattle.lc_coset_laws.proofs.PatternLaws.{zero_pattern, zero_vector}
use Rattle.lc_coset.specs.declared.walk.Room.{Room}
use Rattle.lc_coset.proofs.EntryLaws.{Entries, entries_are, generates, front_more}
use Rattle.lc_coset.specs.Near.{walk_plan, walk_matrix, front_sum, IsWalk, IsRoomOf, IsAtRank}

pub row_later : (left : List ℕ) (g : List (List ℕ)) (i : ℕ) → 0 < i → slice_index_or g (i - 1) [] ≡ slice_index_or (left ∷ g) i []
row_later left g zero l = absurd (omega (arith, l))
row_later left g (suc i) l = let e : suc i - 1 ≡ i = omega arith in ap (λ t. slice_index_or g t []) e

pub sum_of_one : (f : FieldName) (word row : List ℕ) (c : ℕ) → Fits f row → c ≡ 1 → word_sum f word row ≡ word_sum f word (scale f c row)
sum_of_one f word row c fits e = ap (word_sum f word) (sym (ap (λ a. scale f a row) e ∙ one_scale f row fits))

pub record WalkRows (C : Matrix) (left : List ℕ) (j : ℕ) : Type 0 where
  pub words : AreRows C.field C.columns (left ∷ generator_at C j)
  pub count : length (left ∷ generator_at C j) ≡ suc (length C.rows)

pub walk_rows : (C : Matrix) (left : List ℕ) (j : ℕ) → AreRows C.field C.columns C.rows → AreIndependent C.field C.columns C.rows → j < set_count C → IsWord C.field C.columns left → WalkRows C left j
walk_rows C left j r free l w =
    let g = generates C j r free l in
    record { words = All-cons (IsWord C.field C.columns) left (generator_at C j) w g.rows; count = ap suc g.count }

pub walk_entries : (C : Matrix) (left : List ℕ) (j : ℕ) (s : SpotState) → WalkRows C left j → Contains (messages (suc (length C.rows)) (size C.field) (length s.support)) (spot_message s) → Entries (walk_matrix C left j) s
walk_entries C left j s w h = entries_are (walk_matrix C left j) s (subst (λ k. Contains (messages k (size C.field) (length s.support)) (spot_message s)) (sym w.count) h)

zero_combined : (f : FieldName) (n k : ℕ) (rows : List (List ℕ)) → AreRows f n rows → combine f n (zero_word k) rows ≡ zero_word n
zero_combined f n k rows r =
    ap (λ cs. combine f n cs rows) (sym (scale_zero f 0 k)) ∙ combine_scale f n 0 (zero_word k) rows ∙ zero_scale f n (combine f n (zero_word k) rows) (combine_is_word f n (zero_word k) rows r).long

pub sum_first : (M : Matrix) (s : SpotState) → AreRows M.field M.columns M.rows → front_sum M s 0 ≡ zero_word M.columns
sum_first M s r =
    ap (λ cs. combine M.field M.columns cs M.rows) (sym (vector_is (length M.rows) zero_pattern) ∙ zero_vector (length M.rows)) ∙ zero_combined M.field M.columns (length M.rows) M.rows r

pub sum_next : (M : Matrix) (s : SpotState) (i : ℕ) → AreRows M.field M.columns M.rows → Entries M s → i < length s.support → front_sum M s (suc i) ≡ word_sum M.field (front_sum M s i) (scale M.field (slice_index s.coefficients i) (slice_index_or M.rows (slice_index s.support i) []))
sum_next M s i r e l =
    let t = front_more M.field M.columns (size M.field) 0 (length M.rows) i s.support s.coefficients M.rows refl r e.fitting l in
    let z : slice_index s.support i - 0 ≡ slice_index s.support i = omega arith in
    rw z at t

pub walk_put : (M : Matrix) (s : SpotState) (i : ℕ) (ws vs : List (List ℕ)) → AreRows M.field M.columns M.rows → Entries M s → i < length s.support → IsWalk M s i ws
    → vs ≡ set ws (i + 1) (word_sum M.field (slice_index_or ws i []) (scale M.field (slice_index s.coefficients i) (slice_index_or M.rows (slice_index s.support i) [])))
    → IsWalk M s (i + 1) vs
walk_put M s i ws vs r e l h is =
    let row : List ℕ = slice_index_or M.rows (slice_index s.support i) [] in
    let v : List ℕ = word_sum M.field (slice_index_or ws i []) (scale M.field (slice_index s.coefficients i) row) in
    let inside : i + 1 < length ws = omega (arith, h.many, l, e.few) in
    let row_long : length row ≡ M.columns = (All-get_or (IsWord M.field M.columns) M.rows (slice_index s.support i) [] (e.row i l) r).long in
    let scaled : length (scale M.field (slice_index s.coefficients i) row) ≡ M.columns = length_scale M.field (slice_index s.coefficients i) row ∙ row_long in
    let long : length v ≡ M.columns = length_word_sum M.field (slice_index_or ws i []) (scale M.field (slice_index s.coefficients i) row) (h.long i (omega (arith, inside)) ∙ sym scaled) ∙ scaled in
    let at_last : slice_index_or vs (i + 1) [] ≡ v = ap (λ z. slice_index_or z (i + 1) []) is ∙ get_or-set_same ws (i + 1) v [] inside in
    let other : (t : ℕ) → (t ≡ i + 1 → ⊥) → slice_index_or vs t [] ≡ slice_index_or ws t [] = λ t ne. ap (λ z. slice_index_or z t []) is ∙ get_or-set_other ws (i + 1) t v [] ne in
    let many : length vs ≡ length ws = ap length is ∙ length-set ws (i + 1) v in
    record {
      many = many ∙ h.many;
      long = λ t m. ⊎_elim
          (λ a. ap length (other t (λ q. omega (arith, a, q))) ∙ h.long t (omega (arith, m, many)))
          (λ a. ⊎_elim
          (λ b. ap length (other t (λ q. omega (arith, b, q))) ∙ h.long t (omega (arith, m, many)))
          (λ b. let same : t ≡ i + 1 = omega (arith, a, b) in ap (λ u. length (slice_index_or vs u [])) same ∙ ap length at_last ∙ long)
          (cases_lt (i + 1) t))
          (cases_lt t (i + 1));
      fronts = λ t m. ⊎_elim
          (λ a. other t (λ q. omega (arith, a, q)) ∙ h.fronts t (omega (arith, a)))
          (λ a.
          let same : t ≡ suc i = omega (arith, a, m) in
          let last : i + 1 ≡ suc i = omega arith in
          let here : slice_index_or vs (suc i) [] ≡ front_sum M s (suc i) =
          ap (λ u. slice_index_or vs u []) (sym last) ∙ at_last ∙ ap (λ w. word_sum M.field w (scale M.field (slice_index s.coefficients i) row)) (h.fronts i (omega arith)) ∙ sym (sum_next M s i r e l) in
          subst (λ u. slice_index_or vs u [] ≡ front_sum M s u) (sym same) here)
          (cases_lt t (i + 1));
    }

take_shorter : (u v : List ℕ) (i n : ℕ) → n ≤ i → take i u ≡ take i v → take n u ≡ take n v
take_shorter u v i n l e = sym (take-take n i u l) ∙ ap (take n) e ∙ take-take n i v l

same_front : (M : Matrix) (s t : SpotState) (i : ℕ) → take i t.support ≡ take i s.support → take i t.coefficients ≡ take i s.coefficients → front_sum M t i ≡ front_sum M s i
same_front M s t i a b = ap₂ (λ p c. combine M.field M.columns (vector_from 0 (length M.rows) p c) M.rows) a b

pub walk_again : (M : Matrix) (s t : SpotState) (n i : ℕ) (ws : List (List ℕ)) → n ≡ length s.support → IsWalk M s n ws → IsFirstChange s t i → IsWalk M t i ws
walk_again M s t n i ws e h change = record {
  many = h.many;
  long = h.long;
  fronts = λ u l. h.fronts u (omega (arith, e, l, change.inside)) ∙ sym (same_front M s t u (take_shorter t.support s.support i u l change.same_support) (take_shorter t.coefficients s.coefficients i u l change.same_coefficients));
}

pub walk_starts : (C : Matrix) (left : List ℕ) (j : ℕ) (s : SpotState) (r : Room) → WalkRows C left j → IsRoomOf C r → IsWalk (walk_matrix C left j) s 0 r.sums.items
walk_starts C left j s r w h = record {
  many = omega (arith, h.many, w.count);
  long = h.long;
  fronts = λ t l. let z : t ≡ 0 = omega (arith, l) in subst (λ u. slice_index_or r.sums.items u [] ≡ front_sum (walk_matrix C left j) s u) (sym z) (h.first ∙ sym (sum_first (walk_matrix C left j) s w.words));
}

pub room_of_walk : (C : Matrix) (left : List ℕ) (j w rank : ℕ) (r : Room) → WalkRows C left j → IsAtRank C left j w rank r → IsRoomOf C r
room_of_walk C left j w rank r rows h = record {
  many = omega (arith, h.walk.many, rows.count);
  long = h.walk.long;
  first = h.walk.fronts 0 (omega arith) ∙ sum_first (walk_matrix C left j) r.spot rows.words;
  places = h.places;
}

pub at_rank_message : (C : Matrix) (left : List ℕ) (j w rank : ℕ) (r : Room) → IsAtRank C left j w rank r → Contains (messages (suc (length C.rows)) (size C.field) (length r.spot.support)) (spot_message r.spot)
at_rank_message C left j w rank r h = subst (λ l. Contains (messages (suc (length C.rows)) (size C.field) l) (spot_message r.spot)) (sym h.level) (to_contains (messages (suc (length C.rows)) (size C.field) (suc w)) (spot_message r.spot) rank h.message)

pub inside_walk : (C : Matrix) (left : List ℕ) (j w rank : ℕ) (r : Room) → WalkRows C left j → IsAtRank C left j w rank r → suc w < length r.sums.items
inside_walk C left j w rank r rows h =
    let e = walk_entries C left j r.spot rows (at_rank_message C left j w rank r h) in
    omega (arith, e.few, h.level, h.walk.many)

pub message_few : (k q w : ℕ) → pattern_count k q w ≤ message_count (suc k) q (suc w)
unfolding pattern_count message_count
message_few k q w =
    let same : suc w - 1 ≡ w = omega arith in
    let more : choose k w * (q - 1) ^ w ≤ choose (suc k) (suc w) * (q - 1) ^ w = mul-le-mul_right ((q - 1) ^ w) (omega (arith, choose_next k w)) in
    subst (λ e. choose k w * (q - 1) ^ w ≤ choose (suc k) (suc w) * (q - 1) ^ e) (sym same) more

pub gone_inside : (C : Matrix) (plan : PlanSize) (w rank : ℕ) → plan ≡ walk_plan C → rank < pattern_count (length C.rows) (size C.field) w → rank < message_count plan.k plan.q (w + 1)
gone_inside C plan w rank e l =
    let up : w + 1 ≡ suc w = omega arith in
    let here : rank < message_count (suc (length C.rows)) (size C.field) (suc w) = omega (arith, l, message_few (length C.rows) (size C.field) w) in
    rw up (subst (λ (p : PlanSize). rank < message_count p.k p.q (suc w)) (sym e) here)

-- a message of a plan is one of its code
pub code_message : (C : Matrix) (plan : PlanSize) (w rank : ℕ) (m : Message) → plan ≡ walk_plan C → slice_get (messages plan.k plan.q (w + 1)) rank ≡ Some m → slice_get (messages (suc (length C.rows)) (size C.field) (suc w)) rank ≡ Some m
code_message C plan w rank m e h =
    let up : w + 1 ≡ suc w = omega arith in
    subst (λ (p : PlanSize). slice_get (messages p.k p.q (suc w)) rank ≡ Some m) e (subst (λ l. slice_get (messages plan.k plan.q l) rank ≡ Some m) up h)

pub gone_message : (C : Matrix) (plan : PlanSize) (w rank : ℕ) (s : SpotState) → plan ≡ walk_plan C → slice_get (messages plan.k plan.q (w + 1)) rank ≡ Some (spot_message s) → length s.support ≡ w + 1 → Contains (messages (suc (length C.rows)) (size C.field) (length s.support)) (spot_message s)
gone_message C plan w rank s e h l =
    let same : length s.support ≡ suc w = omega (arith, l) in
    subst (λ n. Contains (messages (suc (length C.rows)) (size C.field) n) (spot_message s)) (sym same) (to_contains (messages (suc (length C.rows)) (size C.field) (suc w)) (spot_message s) rank (code_message C plan w rank (spot_message s) e h))

pub plan_message : (C : Matrix) (left : List ℕ) (j w rank : ℕ) (r : Room) (plan : PlanSize) → plan ≡ walk_plan C → IsAtRank C left j w rank r → Contains (messages plan.k plan.q (length r.spot.support)) (spot_message r.spot)
plan_message C left j w rank r plan e h = subst (λ (p : PlanSize). Contains (messages p.k p.q (length r.spot.support)) (spot_message r.spot)) (sym e) (at_rank_message C left j w rank r h)

-- the message after a pattern that isn't the last one
pub next_message : (C : Matrix) (left : List ℕ) (j w rank : ℕ) (r : Room) (plan : PlanSize) (t : SpotState) (o : Bool) → plan ≡ walk_plan C → IsAtRank C left j w rank r → rank + 1 < pattern_count (length C.rows) (size C.field) w
    → ((n : ℕ) → slice_get (messages plan.k plan.q (length r.spot.support)) n ≡ Some (spot_message r.spot) → slice_get (messages plan.k plan.q (length r.spot.support)) (n + 1) ≡ (if o then Some (spot_message t) else None))
    → (o ≡ true) × (slice_get (messages (suc (length C.rows)) (size C.field) (suc w)) (rank + 1) ≡ Some (spot_message t))
next_message C left j w rank r plan t o e h l next = told o step
  where
    all : List Message
    all = messages (suc (length C.rows)) (size C.field) (suc w)

    here : slice_get (messages plan.k plan.q (length r.spot.support)) rank ≡ Some (spot_message r.spot)
    here = subst (λ (p : PlanSize). slice_get (messages p.k p.q (length r.spot.support)) rank ≡ Some (spot_message r.spot)) (sym e) (subst (λ n. slice_get (messages (suc (length C.rows)) (size C.field) n) rank ≡ Some (spot_message r.spot)) (sym h.level) h.message)

    step : slice_get all (rank + 1) ≡ (if o then Some (spot_message t) else None)
    step = subst (λ n. slice_get (messages (suc (length C.rows)) (size C.field) n) (rank + 1) ≡ (if o then Some (spot_message t) else None)) h.level (subst (λ (p : PlanSize). slice_get (messages p.k p.q (length r.spot.support)) (rank + 1) ≡ (if o then Some (spot_message t) else None)) e (next rank here))

    inside : rank + 1 < length all
    inside = omega (arith, l, message_few (length C.rows) (size C.field) w, length-messages (suc (length C.rows)) (size C.field) (suc w))

    told : (b : Bool) → slice_get all (rank + 1) ≡ (if b then Some (spot_message t) else None) → (b ≡ true) × (slice_get all (rank + 1) ≡ Some (spot_message t))
    told true s = (refl, s)
    told false s = absurd (none-some _ (sym s ∙ slice_get-get_or all (rank + 1) (spot_message t) inside))

pub top_word : (C : Matrix) (left : List ℕ) (j w rank : ℕ) (r : Room) → WalkRows C left j → IsAtRank C left j w rank r → IsWord C.field C.columns (slice_index_or r.sums.items (w + 1) [])
top_word C left j w rank r rows h =
    let up : w + 1 ≡ suc w = omega arith in
    let M = walk_matrix C left j in
    rw (up, h.walk.fronts (suc w) (omega arith)) (combine_is_word C.field C.columns (vector_from 0 (length M.rows) (take (suc w) r.spot.support) (take (suc w) r.spot.coefficients)) M.rows rows.words)

pub walk_to : (M : Matrix) (s : SpotState) (n m : ℕ) (ws vs : List (List ℕ)) → n ≡ m → vs ≡ ws → IsWalk M s n ws → IsWalk M s m vs
walk_to M s n m ws vs e f h = subst (λ a. IsWalk M s a vs) e (subst (λ v. IsWalk M s n v) (sym f) h)

pub front_fits : (M : Matrix) (s : SpotState) (i : ℕ) (ws : List (List ℕ)) → AreRows M.field M.columns M.rows → IsWalk M s i ws → IsWord M.field M.columns (slice_index_or ws i [])
front_fits M s i ws r h = subst (IsWord M.field M.columns) (sym (h.fronts i (omega arith))) (combine_is_word M.field M.columns (vector_from 0 (length M.rows) (take i s.support) (take i s.coefficients)) M.rows r)

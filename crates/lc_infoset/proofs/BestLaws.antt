-- The best word of a search: it is no heavier than any word that is seen, and it is a nonzero word of the code at its place.
--   first_message, first_listed      the first message of level 1
--   product_positive           a product of positive numbers
--   no_blocks                  no blocks are before phase 0
--   first_phase, first_at_zero       block 0 is in phase 0, and the word at place 0 is the one of that message
--   first_weight, first_place  its weight and its place
--   best_is                    the best is the least of what is found
--   not_lighter                what doesn't beat another is no lighter
--   found_at_most, first_at_most     the best is no heavier than what is found in the blocks, and than the word at place 0
--   seen_at_most               nor than a word that is seen
--   least_bound                the lesser of the bound and the best weight is at most every weight
--   FoundBy, find_passes       what a test finds passes it
--   MessageFound, message_found      the message of a word at a place
--   word_some                  the word of a message over a systematic matrix isn't zero
--   place_word                 a word at a place is a nonzero word of the code
--   best_word                  and so is that of the best
use Rattle.std.proofs.Common.{◌≡◌, ℕ, zero, suc, ◌+◌, ◌-◌, ◌*◌, ◌/◌, ◌%◌, ◌<◌, ◌≤◌, min, Bool, true, false, ◌&&◌, find, cond, List, [], ◌∷◌, length, map, slice_get, Option, Some, None, unwrap_or, is_some, Contains, option_map, refl, sym, ap, subst, ◌∙◌, ⊎_elim, arith}
use Rattle.std.proofs.lemmas.Bool.{cases_Bool, cases_lt, false≢true}
use Rattle.std.proofs.lemmas.Bool.Decides.{nat_tests}
use Rattle.std.proofs.lemmas.Option.{slice_get-map, slice_get_within}
use Rattle.std.proofs.Math.Nat.{mod-lt}
use Rattle.lc_algebra.specs.Field.{size}
use Rattle.lc_algebra.specs.Word.{IsWord, zero_word, weight, scale}
use Rattle.lc_algebra.specs.Span.{combine, InSpan}
use Rattle.lc_algebra.specs.Matrix.{Matrix, AreRows}
use Rattle.lc_algebra.specs.Divisor.{IsDivisible}
use Rattle.lc_algebra.proofs.WordLaws.{weight_scale, zero_from_weight, weight_zero_word}
use Rattle.lc_algebra.proofs.SpanLaws.{contains_head, contains_tail, contains_cases, span_word, length_combine}
use Rattle.lc_algebra.proofs.ReducedLaws.{systematic_independent}
use Rattle.lc_enumeration.specs.Message.{Message, messages, supports, supports_from, nonzero_lists, leading_lists, message_count, vector_of}
use Rattle.lc_enumeration.specs.Plan.{phase_level, phase_set, phase_of, blocks_before, level_blocks, block_messages, IsInPhase}
use Rattle.lc_enumeration.specs.Search.{Found, set_count, generator_at, word_of, block_words, word_at, beats, found_from, found_first, found_below, best, bound}
use Rattle.lc_enumeration.specs.Truth.{IsAtPlace, IsSeenBelow, IsLeastOf, HasWord}
use Rattle.lc_enumeration.proofs.SearchLaws.{found_is, found_has, least_is, words_in_phase, at_place}
use Rattle.lc_enumeration.proofs.PlanLaws.{cut_is, start_is, end_is}
use Rattle.lc_place.proofs.Listing.{block_message}
use Rattle.lc_place.proofs.Messages.{to_contains, length-messages}
use Rattle.lc_place.proofs.Phases.{blocks_next, blocks_of}
use Rattle.lc_infoset.specs.Bound.{AreGenerators, set_at}
use Rattle.lc_infoset.proofs.SeenLaws.{phase_of_level, block_inside}
use Rattle.lc_infoset.proofs.SearchBound.{unseen_bound, message_is_leading, message_word, level_word}

abbrev pub first_message : Message
first_message = record { support = 0 ∷ []; coefficients = 1 ∷ [] }

pub first_listed : (k q : ℕ) → slice_get (messages (suc k) q 1) 0 ≡ Some first_message
unfolding messages supports supports_from leading_lists nonzero_lists
first_listed k q = refl

first_of : (k q : ℕ) → 0 < k → slice_get (messages k q 1) 0 ≡ Some first_message
first_of zero q l = absurd (omega (arith, l))
first_of (suc k) q l = first_listed k q

level_of_first : (m : ℕ) → 0 < m → phase_level m 0 ≡ 1
level_of_first m l = let e : 0 * m + 0 ≡ 0 = omega arith in subst (λ p. phase_level m p ≡ 1) e (phase_of_level m 0 0 l)

pub no_blocks : (k q m : ℕ) → blocks_before k q m 0 ≡ 0
unfolding blocks_before
no_blocks k q m = refl

pub product_positive : (k m : ℕ) → 0 < k → 0 < m → 0 < k * m
product_positive (suc k) (suc m) l n = omega arith
product_positive zero m l n = absurd (omega (arith, l))
product_positive (suc k) zero l n = absurd (omega (arith, n))

pub first_phase : (k q m : ℕ) → 0 < k → 0 < m → IsInPhase k q m 0 0
first_phase k q m some sets =
    let count : 0 < message_count k q 1 = subst (λ n. 0 < n) (length-messages k q 1) (slice_get_within (messages k q 1) 0 first_message (first_of k q some)) in
    let block = block_inside 0 (message_count k q 1) count in
    let zero_block : 0 / 4096 ≡ 0 = refl in
    let next = blocks_next k q m 0 ∙ ap (λ n. n + level_blocks k q (phase_level m 0)) (no_blocks k q m) ∙ ap (λ w. 0 + level_blocks k q w) (level_of_first m sets) ∙ ap (λ n. 0 + n) (blocks_of k q 1) in
    record {
      phase = product_positive k m some sets;
      after = omega (arith, start_is k q m 0, no_blocks k q m);
      before = omega (arith, end_is k q m 0, next, block, zero_block, cut_is);
    }

pub first_at_zero : (C : Matrix) (m : ℕ) → 0 < length C.rows → 0 < m → IsAtPlace C m 0 (word_of C m 0 first_message)
first_at_zero C m some sets =
    let k = length C.rows in
    let q = size C.field in
    let index : 4096 * (0 - blocks_before k q m 0) + 0 ≡ 0 = omega arith in
    let found : slice_get (block_messages k q m 0 0) 0 ≡ Some first_message = block_message k q m 0 0 0 (omega arith) ∙ ap (slice_get (messages k q (phase_level m 0))) index ∙ ap (λ w. slice_get (messages k q w) 0) (level_of_first m sets) ∙ first_of k q some in
    let word : slice_get (block_words C m 0) 0 ≡ Some (word_of C m 0 first_message) = ap (λ ws. slice_get ws 0) (words_in_phase C m 0 0 (first_phase k q m some sets)) ∙ slice_get-map (word_of C m 0) (block_messages k q m 0 0) 0 ∙ ap (option_map (word_of C m 0)) found in
    at_place C m 0 0 (word_of C m 0 first_message) (omega arith) word

pub not_lighter : (a b : Found) → beats a b ≡ false → b.weight ≤ a.weight
unfolding beats
not_lighter a b h = grind (arith, nat_tests, h)

pub best_is : (C : Matrix) (m l : ℕ) → IsLeastOf (found_first C m ∷ found_first C m ∷ found_from C m 0 l) (best C m l)
unfolding best found_below
best_is C m l = least_is (found_first C m) (found_first C m ∷ found_from C m 0 l)

pub found_at_most : (C : Matrix) (m l : ℕ) (x : Found) → Contains (found_from C m 0 l) x → (best C m l).weight ≤ x.weight
found_at_most C m l x h = not_lighter x (best C m l) ((best_is C m l).unbeaten x (contains_tail (found_first C m) x (found_first C m ∷ found_from C m 0 l) (contains_tail (found_first C m) x (found_from C m 0 l) h)))

pub first_at_most : (C : Matrix) (m l : ℕ) → (best C m l).weight ≤ (found_first C m).weight
first_at_most C m l = not_lighter (found_first C m) (best C m l) ((best_is C m l).unbeaten (found_first C m) (contains_head (found_first C m) (found_first C m ∷ found_from C m 0 l)))

pub first_weight : (C : Matrix) (m : ℕ) → (found_first C m).weight ≡ weight (word_of C m 0 first_message)
unfolding found_first
first_weight C m = refl

pub seen_at_most : (C : Matrix) (l : ℕ) (c : List ℕ) → AreRows C.field C.columns C.rows → InSpan C.field C.columns C.rows c → 0 < length C.rows → 0 < set_count C → IsSeenBelow C l c → (best C (set_count C) l).weight ≤ weight c
seen_at_most C l c r i some sets h =
    let m = set_count C in
    let t = h.multiple in
    let a : ℕ = t.0 in
    let place : ℕ = t.1 in
    let word = t.5 in
    let same : weight (scale C.field a c) ≡ weight c = weight_scale C.field a c t.3 t.2 (span_word C.field C.columns C.rows c r i).fits in
    ⊎_elim
    (λ z.
    let here : IsAtPlace C m 0 (scale C.field a c) = subst (λ p. IsAtPlace C m p (scale C.field a c)) z word in
    let equal : word_of C m 0 first_message ≡ scale C.field a c = ap (λ (o : Option (List ℕ)). unwrap_or o []) (sym (first_at_zero C m some sets) ∙ here) in
    omega (arith, first_at_most C m l, first_weight C m, ap weight equal, same))
    (λ b.
    let found : Found = record { weight = weight (scale C.field a c); place = place } in
    let there : Contains (found_from C m 0 l) found = found_has C m 0 l found (record { from = omega arith; before = omega (arith, b); word = (scale C.field a c, word, refl) }) in
    omega (arith, found_at_most C m l found there, same))
    t.4

pub least_bound : (d : ℕ) (C : Matrix) (l : ℕ) (c : List ℕ) → AreRows C.field C.columns C.rows → AreGenerators C → 0 < d → IsDivisible C.field C.columns C.rows d → 0 < length C.rows → 0 < set_count C → InSpan C.field C.columns C.rows c → 0 < weight c → min (best C (set_count C) l).weight (bound d C l (best C (set_count C) l).weight) ≤ weight c
least_bound d C l c r g some divides rows sets i p =
    let best_weight = (best C (set_count C) l).weight in
    ⊎_elim
    (λ light.
    let heavy = unseen_bound d C l best_weight c r g some divides i p (λ s. absurd (omega (arith, light, seen_at_most C l c r i rows sets s))) in
    omega (arith, heavy))
    (λ h. omega (arith, h))
    (cases_lt (weight c) best_weight)

pub record FoundBy {X : Type 0} (p : X → Bool) (xs : List X) (x : X) : Type 0 where
  pub member : Contains xs x
  pub passes : p x ≡ true

pub find_passes : {X : Type 0} (p : X → Bool) (xs : List X) (x : X) → find p xs ≡ Some x → FoundBy p xs x
find_passes p [] x e = absurd (false≢true (ap is_some e))
find_passes {X} p (y ∷ xs) x e =
    ⊎_elim
    (λ t.
    let same : y ≡ x = ap (λ (o : Option X). unwrap_or o y) (sym (ap (λ (b : Bool). cond b (Some y) (find p xs)) t) ∙ e) in
    record { member = subst (Contains (y ∷ xs)) same (contains_head y xs); passes = ap p (sym same) ∙ t })
    (λ t. let r = find_passes p xs x (sym (ap (λ (b : Bool). cond b (Some y) (find p xs)) t) ∙ e) in record { member = contains_tail y x xs r.member; passes = r.passes })
    (cases_Bool (p y))

pub record MessageFound (C : Matrix) (m : ℕ) (w : List ℕ) : Type 0 where
  pub phase : ℕ
  pub message : Message
  pub listed : Contains (messages (length C.rows) (size C.field) (phase_level m phase)) message
  pub word : w ≡ word_of C m phase message

in_phase : (C : Matrix) (m b i p : ℕ) (w : List ℕ) → i < 4096 → slice_get (map (word_of C m p) (block_messages (length C.rows) (size C.field) m p b)) i ≡ Some w → MessageFound C m w
in_phase C m b i p w few e =
    let k = length C.rows in
    let q = size C.field in
    let at = slice_get-map (word_of C m p) (block_messages k q m p b) i in
    here (slice_get (block_messages k q m p b) i) refl (sym at ∙ e)
  where
    here : (o : Option Message) → slice_get (block_messages (length C.rows) (size C.field) m p b) i ≡ o → option_map (word_of C m p) o ≡ Some w → MessageFound C m w
    here None same e = absurd (false≢true (ap is_some e))
    here (Some message) same e = record {
      phase = p;
      message = message;
      listed = to_contains (messages (length C.rows) (size C.field) (phase_level m p)) message (4096 * (b - blocks_before (length C.rows) (size C.field) m p) + i) (sym (block_message (length C.rows) (size C.field) m p b i few) ∙ same);
      word = ap (λ (o : Option (List ℕ)). unwrap_or o []) (sym e);
    }

words_are : (C : Matrix) (m b : ℕ) → block_words C m b ≡ unwrap_or (option_map (λ p. map (word_of C m p) (block_messages (length C.rows) (size C.field) m p b)) (phase_of (length C.rows) (size C.field) m b)) []
unfolding block_words
words_are C m b = refl

in_block : (C : Matrix) (m b i : ℕ) (w : List ℕ) (o : Option ℕ) → i < 4096 → slice_get (unwrap_or (option_map (λ p. map (word_of C m p) (block_messages (length C.rows) (size C.field) m p b)) o) []) i ≡ Some w → MessageFound C m w
in_block C m b i w None few e = absurd (false≢true (ap is_some e))
in_block C m b i w (Some p) few e = in_phase C m b i p w few e

pub message_found : (C : Matrix) (m place : ℕ) (w : List ℕ) → IsAtPlace C m place w → MessageFound C m w
unfolding word_at
message_found C m place w h =
    in_block C m (place / 4096) (place % 4096) w (phase_of (length C.rows) (size C.field) m (place / 4096)) (mod-lt place (omega arith))
    (ap (λ ws. slice_get ws (place % 4096)) (sym (words_are C m (place / 4096))) ∙ h)

level_some : (m p : ℕ) → 0 < phase_level m p
unfolding phase_level
level_some m p = omega arith

set_inside : (m p : ℕ) → 0 < m → phase_set m p < m
unfolding phase_set
set_inside m p l = mod-lt p l

-- the word of a message over a systematic matrix isn't zero
pub word_some : (C : Matrix) (j w : ℕ) (m : Message) → AreGenerators C → j < set_count C → 0 < w → Contains (messages (length C.rows) (size C.field) w) m → 0 < weight (combine C.field C.columns (vector_of (length C.rows) m) (generator_at C j))
word_some C j w m g inside p l =
    let s = (g j inside).1 in
    let rows : length (generator_at C j) ≡ length C.rows = s.count ∙ (g j inside).0 in
    let v = vector_of (length C.rows) m in
    let word = combine C.field C.columns v (generator_at C j) in
    let is : IsWord C.field (length (generator_at C j)) v = subst (λ k. IsWord C.field k v) (sym rows) (message_word C.field (length C.rows) w m p l) in
    ⊎_elim
    (λ q. q)
    (λ q.
    let zero_here : word ≡ zero_word C.columns = zero_from_weight C.columns word (length_combine C.field C.columns v (generator_at C j) s.words) (omega (arith, q)) in
    let none : v ≡ zero_word (length (generator_at C j)) = systematic_independent C.field C.columns C.rows (set_at C j).basis (generator_at C j) s v is zero_here in
    absurd (omega (arith, p, (message_is_leading C.field (length C.rows) w m p l).weighs, ap weight none, weight_zero_word (length (generator_at C j)))))
    (cases_lt 0 (weight word))

pub place_word : (C : Matrix) (place : ℕ) (w : List ℕ) → AreGenerators C → 0 < set_count C → IsAtPlace C (set_count C) place w → InSpan C.field C.columns C.rows w × (0 < weight w)
unfolding word_of
place_word C place w g sets h =
    let t = message_found C (set_count C) place w h in
    let level = level_some (set_count C) t.phase in
    let set = set_inside (set_count C) t.phase sets in (
      subst (InSpan C.field C.columns C.rows) (sym t.word) (level_word C (phase_set (set_count C) t.phase) (phase_level (set_count C) t.phase) t.message g set level t.listed),
      subst (λ v. 0 < weight v) (sym t.word) (word_some C (phase_set (set_count C) t.phase) (phase_level (set_count C) t.phase) t.message g set level t.listed),
    )

-- what is at a place and has its weight is a word of the code
word_there : (C : Matrix) (x : Found) (w : List ℕ) → AreGenerators C → 0 < set_count C → IsAtPlace C (set_count C) x.place w → weight w ≡ x.weight → HasWord C x
word_there C x w g sets h e = let t = place_word C x.place w g sets h in record { nonzero = omega (arith, e, t.1); word = (w, h, t.0, e) }

pub first_place : (C : Matrix) (m : ℕ) → (found_first C m).place ≡ 0
unfolding found_first
first_place C m = refl

first_word : (C : Matrix) → AreGenerators C → 0 < length C.rows → 0 < set_count C → HasWord C (found_first C (set_count C))
first_word C g some sets =
    let m = set_count C in
    word_there C (found_first C m) (word_of C m 0 first_message) g sets (subst (λ p. IsAtPlace C m p (word_of C m 0 first_message)) (sym (first_place C m)) (first_at_zero C m some sets)) (sym (first_weight C m))

pub best_word : (C : Matrix) (l : ℕ) → AreGenerators C → 0 < length C.rows → 0 < set_count C → HasWord C (best C (set_count C) l)
best_word C l g some sets =
    let m = set_count C in
    let first = found_first C m in
    let from = found_from C m 0 l in
    let x = best C m l in
    let here : first ≡ x → HasWord C x = λ e. subst (HasWord C) e (first_word C g some sets) in
    ⊎_elim here
    (λ r. ⊎_elim here
    (λ s. let t = found_is C m 0 l x s in word_there C x t.word.0 g sets t.word.1 t.word.2)
    (contains_cases first x from r))
    (contains_cases first x (first ∷ from) (best_is C m l).one)

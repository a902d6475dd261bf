-- What a search finds between two blocks, and which of it is the least.
--   numbers_within, within_numbers      the list of the numbers from i on holds exactly these numbers
--   found_at, along_holds, along_has         what the list of weights and places holds of a list of words
--   few_in_block                   a block has at most 4,096 words
--   at_place                       the word at a place, from the word of its block
--   found_is, found_has, found_between      what is found in some blocks is what the words at their places are
--   words_in_phase                 the words of a block, in its phase
--   beats_is_less                  on the board the order is that of the values
--   beats_itself, beats_through, beats_back, beaten_both      beating is a total order
--   least_is, least_in_is, least_one      the least of some founds is the one that no other beats
--   fitting_place_small                  the place of a found word that fits what was searched
use Rattle.std.proofs.Common.{◌≡◌, ℕ, zero, suc, ◌+◌, ◌-◌, ◌*◌, ◌/◌, ◌%◌, ◌^◌, ◌<◌, ◌≤◌, ◌↔◌, ◌⊎◌, true, false, nat_lt, List, [], ◌∷◌, length, map, take, drop, option_map, slice_index_or, slice_get, Some, None, Contains, unwrap_or, is_some, Option, refl, sym, ap, subst, ◌∙◌, inl, inr, ⊎_elim, arith, ◌==◌, ◌&&◌, ◌||◌}
use Rattle.std.proofs.lemmas.Bool.{cases_lt, cases_Bool, false≢true, and_parts, or_cases, ltb-true, eqb-true}
use Rattle.std.proofs.lemmas.Bool.Decides.{nat_tests}
use Rattle.std.proofs.lemmas.Nat.{div-mul-add, mod-mul-add}
use Rattle.std.proofs.Math.Nat.{mod-add-div', mod-lt}
use Rattle.std.proofs.lemmas.List.{length-map, length-take}
use Rattle.lc_algebra.specs.Field.{size}
use Rattle.lc_algebra.specs.Word.{weight}
use Rattle.lc_algebra.specs.Matrix.{Matrix}
use Rattle.lc_enumeration.specs.Message.{numbers_from, messages}
use Rattle.lc_enumeration.specs.Plan.{place_of, phase_of, phase_level, blocks_before, block_messages, IsInPhase}
use Rattle.lc_enumeration.specs.Search.{Found, word_of, block_words, word_at, beats, found_along, found_in_block, found_from, board_value, least_of, least_in, fits, set_count, weight_at}
use Rattle.lc_enumeration.specs.Truth.{IsAtPlace, IsFoundBetween, IsLeastOf}
use Rattle.lc_enumeration.proofs.PlanLaws.{phase_is}
use Rattle.lc_algebra.proofs.SpanLaws.{contains_head, contains_tail, contains_cases, contains_flat_map, flat_map_contains}
use Rattle.lc_algebra.proofs.DivisorLaws.{no_member}

pub numbers_within : (i n b : ℕ) → Contains (numbers_from i n) b → (i ≤ b) × (b < i + n)
unfolding numbers_from
numbers_within i zero b (k, l, s) = absurd (omega (arith, l))
numbers_within i (suc n) b l =
    ⊎_elim
    (λ s. (omega (arith, s), omega (arith, s)))
    (λ r. let t = numbers_within (suc i) n b r in (omega (arith, t.0), omega (arith, t.1)))
    (contains_cases i b (numbers_from (suc i) n) l)

equal_or_more : (i b : ℕ) → i ≤ b → (i ≡ b) ⊎ (suc i ≤ b)
equal_or_more i b a = ⊎_elim (λ l. inr l) (λ g. inl (omega (arith, a, g))) (cases_lt i b)

pub within_numbers : (i n b : ℕ) → i ≤ b → b < i + n → Contains (numbers_from i n) b
unfolding numbers_from
within_numbers i zero b a l = absurd (omega (arith, a, l))
within_numbers i (suc n) b a l =
    ⊎_elim
    (λ s. subst (Contains (i ∷ numbers_from (suc i) n)) s (contains_head i (numbers_from (suc i) n)))
    (λ r. contains_tail i b (numbers_from (suc i) n) (within_numbers (suc i) n b r (omega (arith, l))))
    (equal_or_more i b a)

-- the weight and place of the i-th of some words that begin at a place
abbrev pub found_at : ℕ → List (List ℕ) → ℕ → Found
found_at place ws i = record { weight = weight (slice_index_or ws i []); place = place + i }

pub along_holds : (place : ℕ) (ws : List (List ℕ)) (x : Found) → Contains (found_along place ws) x → (i : ℕ) × (w : List ℕ) × (slice_get ws i ≡ Some w) × (i < length ws) × (x ≡ record { weight = weight w; place = place + i })
unfolding found_along
along_holds place [] x (k, l, s) = absurd (omega (arith, l))
along_holds place (w ∷ ws) x l =
    ⊎_elim
    (λ s. (0, w, refl, omega arith, sym s ∙ ap (λ p. record { weight = weight w; place = p }) (omega arith)))
    (λ r. let t = along_holds (suc place) ws x r in (suc t.0, t.1, t.2, omega (arith, t.3), t.4 ∙ ap (λ p. record { weight = weight t.1; place = p }) (omega arith)))
    (contains_cases (record { weight = weight w; place = place }) x (found_along (suc place) ws) l)

pub along_has : (place : ℕ) (ws : List (List ℕ)) (i : ℕ) (w : List ℕ) → slice_get ws i ≡ Some w → Contains (found_along place ws) (record { weight = weight w; place = place + i })
unfolding found_along
along_has place [] i w e = absurd (false≢true (ap is_some e))
along_has place (v ∷ ws) zero w e = subst (λ (u : Found). Contains (found_along place (v ∷ ws)) u) (ap (λ u. record { weight = weight u; place = place + zero }) (ap (λ (o : Option (List ℕ)). unwrap_or o []) e)) (subst (λ p. Contains (found_along place (v ∷ ws)) (record { weight = weight v; place = p })) (omega arith) (contains_head (record { weight = weight v; place = place }) (found_along (suc place) ws)))
along_has place (v ∷ ws) (suc i) w e = contains_tail (record { weight = weight v; place = place }) (record { weight = weight w; place = place + suc i }) (found_along (suc place) ws) (subst (λ p. Contains (found_along (suc place) ws) (record { weight = weight w; place = p })) (omega arith) (along_has (suc place) ws i w e))

messages_few : (C : Matrix) (m b p : ℕ) → length (map (word_of C m p) (block_messages (length C.rows) (size C.field) m p b)) ≤ 4096
unfolding block_messages
messages_few C m b p =
    let left = drop (4096 * (b - blocks_before (length C.rows) (size C.field) m p)) (messages (length C.rows) (size C.field) (phase_level m p)) in
    omega (arith, length-map (take 4096 left) (word_of C m p), length-take 4096 left)

pub few_in_block : (C : Matrix) (m b : ℕ) → length (block_words C m b) ≤ 4096
unfolding block_words
few_in_block C m b = few (phase_of (length C.rows) (size C.field) m b)
  where
    few : (o : Option ℕ) → length (unwrap_or (option_map (λ p. map (word_of C m p) (block_messages (length C.rows) (size C.field) m p b)) o) []) ≤ 4096
    few None = omega arith
    few (Some p) = messages_few C m b p

pub at_place : (C : Matrix) (m b i : ℕ) (w : List ℕ) → i < 4096 → slice_get (block_words C m b) i ≡ Some w → IsAtPlace C m (b * 4096 + i) w
unfolding word_at
at_place C m b i w l e = rw (div-mul-add b 4096 i l, mod-mul-add b 4096 i l) e

pub found_is : (C : Matrix) (m first count : ℕ) (x : Found) → Contains (found_from C m first count) x → IsFoundBetween C m first count x
unfolding found_from found_in_block place_of
found_is C m first count x l =
    let t = contains_flat_map (found_in_block C m) (numbers_from first count) x l in
    let b : ℕ = t.0 in
    let n = numbers_within first count b t.1 in
    let a = along_holds (b * 4096 + 0) (block_words C m b) x t.2 in
    let i : ℕ = a.0 in
    let few : i < 4096 = omega (arith, a.3, few_in_block C m b) in
    let place : x.place ≡ b * 4096 + i = ap (λ (y : Found). y.place) a.4 ∙ omega arith in
    record {
      from = omega (arith, place, n.0);
      before = omega (arith, place, n.1, few);
      word = (a.1, subst (λ p. IsAtPlace C m p a.1) (sym place) (at_place C m b i a.1 few a.2), sym (ap (λ (y : Found). y.weight) a.4));
    }

pub found_has : (C : Matrix) (m first count : ℕ) (x : Found) → IsFoundBetween C m first count x → Contains (found_from C m first count) x
unfolding found_from found_in_block place_of word_at
found_has C m first count x h =
    let p = x.place in
    let whole : p % 4096 + p / 4096 * 4096 ≡ p = mod-add-div' p 4096 in
    let few : p % 4096 < 4096 = mod-lt p (omega arith) in
    let w = h.word.0 in
    let inside = along_has (p / 4096 * 4096 + 0) (block_words C m (p / 4096)) (p % 4096) w h.word.1 in
    let same : Path Found (record { weight = weight w; place = p / 4096 * 4096 + 0 + p % 4096 }) x = ap (λ v. record { weight = v; place = p / 4096 * 4096 + 0 + p % 4096 }) h.word.2 ∙ ap (λ q. record { weight = x.weight; place = q }) (omega (arith, whole)) in
    flat_map_contains (found_in_block C m) (numbers_from first count) (p / 4096) x
    (within_numbers first count (p / 4096) (omega (arith, whole, few, h.from)) (omega (arith, whole, few, h.before)))
    (subst (λ (y : Found). Contains (found_in_block C m (p / 4096)) y) same inside)

pub found_between : (C : Matrix) (m first count : ℕ) (x : Found) → Contains (found_from C m first count) x ↔ IsFoundBetween C m first count x
found_between C m first count x = (found_is C m first count x, found_has C m first count x)

pub words_in_phase : (C : Matrix) (m p b : ℕ) → IsInPhase (length C.rows) (size C.field) m p b → block_words C m b ≡ map (word_of C m p) (block_messages (length C.rows) (size C.field) m p b)
unfolding block_words
words_in_phase C m p b h = rw (phase_is (length C.rows) (size C.field) m p b h) refl

pub beats_is_less : (a b : Found) → a.place < 2 ^ 52 → b.place < 2 ^ 52 → beats a b ≡ nat_lt (board_value a) (board_value b)
unfolding beats board_value
beats_is_less a b p q = grind (arith, nat_tests)

pub beats_itself : (a : Found) → beats a a ≡ false
unfolding beats
beats_itself a = grind (arith, nat_tests)

pub beats_through : (a b c : Found) → beats b a ≡ false → beats c b ≡ false → beats c a ≡ false
unfolding beats
beats_through a b c h i = grind (arith, nat_tests, h, i)

pub beats_back : (a b : Found) → beats b a ≡ true → beats a b ≡ false
unfolding beats
beats_back a b h = grind (arith, nat_tests, h)

pub least_is : (a : Found) (others : List Found) → IsLeastOf (a ∷ others) (least_of a others)
unfolding least_of
least_is a [] = record {
  one = contains_head a [];
  unbeaten = λ y l. ⊎_elim (λ e. subst (λ (z : Found). beats z a ≡ false) e (beats_itself a)) (λ r. absurd (no_member y r)) (contains_cases a y [] l);
}
least_is a (b ∷ others) =
    ⊎_elim
    (λ t. rw t (let r = least_is b others in record {
      one = contains_tail a (least_of b others) (b ∷ others) r.one;
      unbeaten = λ y l. ⊎_elim (λ e. subst (λ (z : Found). beats z (least_of b others) ≡ false) e (beats_through (least_of b others) b a (r.unbeaten b (contains_head b others)) (beats_back a b t))) (λ z. r.unbeaten y z) (contains_cases a y (b ∷ others) l);
    }))
    (λ t. rw t (let r = least_is a others in record {
      one = ⊎_elim (λ e. subst (Contains (a ∷ b ∷ others)) e (contains_head a (b ∷ others))) (λ z. contains_tail a (least_of a others) (b ∷ others) (contains_tail b (least_of a others) others z)) (contains_cases a (least_of a others) others r.one);
      unbeaten = λ y l. ⊎_elim (λ e. r.unbeaten y (subst (Contains (a ∷ others)) e (contains_head a others)))
          (λ z. ⊎_elim (λ e. subst (λ (x : Found). beats x (least_of a others) ≡ false) e (beats_through (least_of a others) a b (r.unbeaten a (contains_head a others)) t)) (λ n. r.unbeaten y (contains_tail a y others n)) (contains_cases b y others z))
          (contains_cases a y (b ∷ others) l);
    }))
    (cases_Bool (beats b a))

pub least_in_is : (founds : List Found) (x : Found) → least_in founds ≡ Some x → IsLeastOf founds x
unfolding least_in
least_in_is [] x e = absurd (false≢true (ap is_some e))
least_in_is (a ∷ others) x e = subst (IsLeastOf (a ∷ others)) (ap (λ (o : Option Found). unwrap_or o a) e) (least_is a others)

-- two founds of which neither beats the other have the same weight and the same place
pub beaten_both : (a b : Found) → beats a b ≡ false → beats b a ≡ false → (a.weight ≡ b.weight) × (a.place ≡ b.place)
unfolding beats
beaten_both a b h i = (grind (arith, nat_tests, h, i), grind (arith, nat_tests, h, i))

pub least_one : (founds : List Found) (x y : Found) → IsLeastOf founds x → IsLeastOf founds y → x ≡ y
least_one founds x y a b =
    let e = beaten_both x y (b.unbeaten x a.one) (a.unbeaten y b.one) in
    ap (λ w. record { weight = w; place = x.place }) e.0 ∙ ap (λ p. record { weight = y.weight; place = p }) e.1

pub fitting_place_small : (C : Matrix) (l : ℕ) (x : Found) → fits C l x ≡ true → l ≤ 2 ^ 40 → x.place < 2 ^ 52
unfolding fits
fitting_place_small C l x t few =
    let a = and_parts ((x.place == 0) || nat_lt x.place (l * 4096)) (is_some (word_at C (set_count C) x.place) && (weight_at C x.place == x.weight)) t in
    ⊎_elim (λ z. omega (arith, eqb-true x.place 0 z)) (λ z. omega (arith, ltb-true x.place (l * 4096) z, few)) (or_cases (x.place == 0) (nat_lt x.place (l * 4096)) a.0)

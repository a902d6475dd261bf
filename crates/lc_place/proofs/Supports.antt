-- The supports of a weight in lexicographic order: the next one, and the one at a place.
--   next_support i k s         the support after s among the places i to i + k - 1; None after the last
--   next_at, next_past, moved_tail      the next support, by its first place
--   IsRising s                 each place is above the one before it
--   rising_tail, head_above    its tail rises too, above its head
--   rising_from                the entries of a rising list grow at least by 1
--   support_last, support_moved     the next support, from the last place that can move
--   moved_to_end               a support whose places from one on have moved to the end
--   IsSupport i k w s          s has w places, rising, from i to i + k - 1
--   support_shape              each of the supports does
--   length-supports            how many supports there are
--   support_first              the first one is the first w places
--   support_next               the support at the next place is the next support
--   support_takes, support_leaves   whether the support at a place has the first place
use Rattle.std.proofs.Common.{◌≡◌, ℕ, zero, suc, ◌+◌, ◌-◌, ◌<◌, ◌≤◌, true, false, cond, ltb, eqb, List, [], ◌∷◌, ◌++◌, map, length, take, drop, get_or, Option, Some, None, refl, ap, sym, ◌∙◌, arith, length-append, ◌⊎◌, inl, inr}
use Rattle.std.specs.Prelude.{slice_get}
use Rattle.std.specs.Option.{option_map}
use Rattle.std.proofs.lemmas.Bool.{cases_lt}
use Rattle.std.proofs.lemmas.Bool.Decides.{nat_tests}
use Rattle.std.proofs.lemmas.List.{length-map, length-take-le, length-drop, get_or-take, get_or-drop, take-append-drop, ext_get_or}
use Rattle.std.proofs.lemmas.Option.{slice_get-map, slice_get_within, slice_get_past, slice_get-get_or, none-some}
use Rattle.lc_enumeration.specs.Message.{supports_from, numbers_from, choose}
use Rattle.lc_enumeration.proofs.ChooseLaws.{choose_none, choose_nothing}
use Rattle.lc_place.proofs.Products.{get-append_left, get-append_right, map_part}

abbrev pub moved : ℕ → ℕ → List ℕ → Option (List ℕ) → Option (List ℕ)
moved i k s (Some t) = Some (i ∷ t)
moved i k s None = cond (ltb (length s) k) (Some (numbers_from (suc i) (suc (length s)))) None

abbrev pub next_support : ℕ → ℕ → List ℕ → Option (List ℕ)
next_support i zero s = None
next_support i (suc k) [] = None
next_support i (suc k) (p ∷ s) = cond (eqb p i) (moved i k s (next_support (suc i) k s)) (next_support (suc i) k (p ∷ s))

pub next_nil : (i k : ℕ) → next_support i k [] ≡ None
next_nil i zero = refl
next_nil i (suc k) = refl

abbrev pub IsRising : List ℕ → Type 0
IsRising s = (u : ℕ) → suc u < length s → get_or s u 0 < get_or s (suc u) 0

move_here : (i k : ℕ) (s : List ℕ) (o : Option (List ℕ)) → o ≡ None → length s < k → moved i k s o ≡ Some (numbers_from (suc i) (suc (length s)))
move_here i k s o e l = rw e (grind (arith, nat_tests))

move_not : (i k : ℕ) (s : List ℕ) (o : Option (List ℕ)) → o ≡ None → k ≤ length s → moved i k s o ≡ None
move_not i k s o e l = rw e (grind (arith, nat_tests))

pub next_at : (i k p : ℕ) (s : List ℕ) → p ≡ i → next_support i (suc k) (p ∷ s) ≡ moved i k s (next_support (suc i) k s)
next_at i k p s e = let t : eqb p i ≡ true = grind (arith, nat_tests) in rw t refl

pub next_past : (i k p : ℕ) (s : List ℕ) → i < p → next_support i (suc k) (p ∷ s) ≡ next_support (suc i) k (p ∷ s)
next_past i k p s l = let t : eqb p i ≡ false = grind (arith, nat_tests) in rw t refl

pub rising_tail : (p : ℕ) (s : List ℕ) → IsRising (p ∷ s) → IsRising s
rising_tail p s r u l = r (suc u) (omega arith)

pub head_above : (i p : ℕ) (s : List ℕ) → IsRising (p ∷ s) → p ≡ i → 0 < length s → suc i ≤ get_or s 0 0
head_above i p s r e l = omega (arith, r 0 (omega arith))

pub support_last : (i k : ℕ) (s : List ℕ) → IsRising s → (0 < length s → i ≤ get_or s 0 0) → ((u : ℕ) → u < length s → i + k ≤ get_or s u 0 + (length s - u)) → next_support i k s ≡ None
support_last i zero s r low full = refl
support_last i (suc k) [] r low full = refl
support_last i (suc k) (p ∷ s) r low full =
    elim (cases_lt i p) [
      | inl l ↦ next_past i k p s l ∙ support_last (suc i) k (p ∷ s) r (λ _. omega (arith, l)) (λ u m. omega (arith, full u m))
      | inr l ↦ (
          let e : p ≡ i = omega (arith, low (omega arith)) in
          let later : next_support (suc i) k s ≡ None = support_last (suc i) k s (rising_tail p s r) (λ m. head_above i p s r e m) (λ u m. omega (arith, full (suc u) (omega arith))) in
          next_at i k p s e ∙ move_not i k s (next_support (suc i) k s) later (omega (arith, full 0 (omega arith))))
    ]

row_of_numbers : (i n : ℕ) (t : List ℕ) → length t ≡ n → ((u : ℕ) → u < n → get_or t u 0 ≡ i + u) → t ≡ numbers_from i n
unfolding numbers_from
row_of_numbers i zero [] e h = refl
row_of_numbers i zero (p ∷ t) e h = absurd (omega arith)
row_of_numbers i (suc n) [] e h = absurd (omega arith)
row_of_numbers i (suc n) (p ∷ t) e h =
    let head : p ≡ i = omega (arith, h 0 (omega arith)) in
    let tail : t ≡ numbers_from (suc i) n = row_of_numbers (suc i) n t (omega arith) (λ u l. omega (arith, h (suc u) (omega arith))) in
    cc

pub rising_from : (s : List ℕ) (u : ℕ) → IsRising s → u < length s → get_or s 0 0 + u ≤ get_or s u 0
rising_from s zero r l = omega arith
rising_from s (suc u) r l = omega (arith, rising_from s u r (omega arith), r u (omega arith))

pub moved_to_end : (old new : List ℕ) (place k : ℕ) → place ≤ length old → length old - place ≤ k → length new ≡ length old → ((u : ℕ) → u < place → get_or new u 0 ≡ get_or old u 0) → ((u : ℕ) → place ≤ u → u < length old → get_or new u 0 ≡ k - (length old - u)) → new ≡ take place old ++ numbers_from (k - (length old - place)) (length old - place)
moved_to_end old new place k l room many before after =
    let n = length old - place in
    let short : length (take place new) ≡ place = length-take-le place new (omega (arith, l, many)) in
    let front : take place new ≡ take place old = ext_get_or 0 (take place new) (take place old) (short ∙ sym (length-take-le place old l)) (λ i m.
    let inside : i < place = omega (arith, m, short) in
    get_or-take place new i 0 inside ∙ before i inside ∙ sym (get_or-take place old i 0 inside)) in
    let rest : drop place new ≡ numbers_from (k - n) n = row_of_numbers (k - n) n (drop place new) (length-drop place new ∙ omega (arith, many)) (λ u m.
    let is : k - (length old - (place + u)) ≡ k - n + u = omega (arith, m, room, l) in
    get_or-drop place new u 0 ∙ after (place + u) (omega arith) (omega (arith, m)) ∙ is) in
    sym (take-append-drop place new) ∙ ap (λ x. x ++ drop place new) front ∙ ap (λ x. take place old ++ x) rest

moved_head : (i k p : ℕ) (s t : List ℕ) → IsRising (p ∷ s) → p ≡ i → length t ≡ suc (length s) → p + suc (length s) < i + suc k → ((u : ℕ) → u < suc (length s) → get_or t u 0 ≡ p + 1 + u) → ((u : ℕ) → 0 < u → u < suc (length s) → i + suc k ≤ get_or (p ∷ s) u 0 + (suc (length s) - u)) → moved i k s (next_support (suc i) k s) ≡ Some t
moved_head i k p s t r e many room new full =
    let later : next_support (suc i) k s ≡ None = support_last (suc i) k s (rising_tail p s r) (λ m. head_above i p s r e m) (λ u m. omega (arith, full (suc u) (omega arith) (omega arith))) in
    let is : t ≡ numbers_from (suc i) (suc (length s)) = row_of_numbers (suc i) (suc (length s)) t many (λ u l. omega (arith, new u l, e)) in
    move_here i k s (next_support (suc i) k s) later (omega arith) ∙ ap Some (sym is)

pub moved_tail : (i k : ℕ) (s t : List ℕ) → next_support (suc i) k s ≡ Some t → moved i k s (next_support (suc i) k s) ≡ Some (i ∷ t)
moved_tail i k s t e = rw e refl

pub support_moved : (i k : ℕ) (s t : List ℕ) (j : ℕ) → IsRising s → (0 < length s → i ≤ get_or s 0 0) → length t ≡ length s → j < length s → get_or s j 0 + (length s - j) < i + k → ((u : ℕ) → u < j → get_or t u 0 ≡ get_or s u 0) → ((u : ℕ) → j ≤ u → u < length s → get_or t u 0 ≡ get_or s j 0 + 1 + (u - j)) → ((u : ℕ) → j < u → u < length s → i + k ≤ get_or s u 0 + (length s - u)) → next_support i k s ≡ Some t
support_moved i zero s t j r low many inside room same new full = absurd (omega (arith, rising_from s j r inside, low (omega arith)))
support_moved i (suc k) [] t j r low many inside room same new full = absurd (omega arith)
support_moved i (suc k) (p ∷ s) [] j r low many inside room same new full = absurd (omega arith)
support_moved i (suc k) (p ∷ s) (d ∷ t) zero r low many inside room same new full =
    elim (cases_lt i p) [
      | inl l ↦ next_past i k p s l ∙ support_moved (suc i) k (p ∷ s) (d ∷ t) 0 r (λ _. omega (arith, l)) many inside (omega (arith, room)) same new (λ u m n. omega (arith, full u m n))
      | inr l ↦ (
          let e : p ≡ i = omega (arith, low (omega arith)) in
          next_at i k p s e ∙ moved_head i k p s (d ∷ t) r e (omega arith) (omega (arith, room)) (λ u m. omega (arith, new u (omega arith) m)) full)
    ]
support_moved i (suc k) (p ∷ s) (d ∷ t) (suc j) r low many inside room same new full =
    elim (cases_lt i p) [
      | inl l ↦ next_past i k p s l ∙ support_moved (suc i) k (p ∷ s) (d ∷ t) (suc j) r (λ _. omega (arith, l)) many inside (omega (arith, room)) same new (λ u m n. omega (arith, full u m n))
      | inr l ↦ (
          let e : p ≡ i = omega (arith, low (omega arith)) in
          let later : next_support (suc i) k s ≡ Some t = support_moved (suc i) k s t j (rising_tail p s r) (λ m. head_above i p s r e m) (omega arith) (omega arith) (omega (arith, room)) (λ u m. same (suc u) (omega arith)) (λ u m n. omega (arith, new (suc u) (omega arith) (omega arith))) (λ u m n. omega (arith, full (suc u) (omega arith) (omega arith))) in
          let head : d ≡ i = omega (arith, same 0 (omega arith), e) in
          next_at i k p s e ∙ moved_tail i k s t later ∙ cc)
    ]

pub record IsSupport (i k w : ℕ) (s : List ℕ) : Type 0 where
  pub many : length s ≡ w
  pub low : (u : ℕ) → u < w → i ≤ get_or s u 0
  pub high : (u : ℕ) → u < w → get_or s u 0 + (w - u) ≤ i + k
  pub rises : IsRising s

support_cons : (i k w : ℕ) (s t : List ℕ) → t ≡ i ∷ s → IsSupport (suc i) k w s → IsSupport i (suc k) (suc w) t
support_cons i k w s t e h = rw e (record {
  many = omega (arith, h.many);
  low = lows h.low;
  high = highs h.many h.low h.high h.rises;
  rises = rise h.many h.low h.rises;
})
  where
    lows : ((u : ℕ) → u < w → suc i ≤ get_or s u 0) → (u : ℕ) → u < suc w → i ≤ get_or (i ∷ s) u 0
    lows a zero l = omega arith
    lows a (suc u) l = omega (arith, a u (omega arith))

    rise : length s ≡ w → ((u : ℕ) → u < w → suc i ≤ get_or s u 0) → IsRising s → IsRising (i ∷ s)
    rise m a r zero l = omega (arith, a 0 (omega arith))
    rise m a r (suc u) l = r u (omega arith)

    highs : length s ≡ w → ((u : ℕ) → u < w → suc i ≤ get_or s u 0) → ((u : ℕ) → u < w → get_or s u 0 + (w - u) ≤ suc i + k) → IsRising s → (u : ℕ) → u < suc w → get_or (i ∷ s) u 0 + (suc w - u) ≤ i + suc k
    highs m a b r zero l = elim (cases_lt 0 w) [ inl z ↦ omega (arith, a 0 z, b 0 z) | inr z ↦ omega arith ]
    highs m a b r (suc u) l = omega (arith, b u (omega arith))

support_later : (i k w : ℕ) (s : List ℕ) → IsSupport (suc i) k w s → IsSupport i (suc k) w s
support_later i k w s h = record { many = h.many; low = λ u l. omega (arith, h.low u l); high = λ u l. omega (arith, h.high u l); rises = h.rises }

abbrev with_first : ℕ → ℕ → ℕ → List (List ℕ)
with_first i k w = map (λ s. i ∷ s) (supports_from (suc i) k w)

support_cases : (i k w : ℕ) → supports_from i (suc k) (suc w) ≡ with_first i k w ++ supports_from (suc i) k (suc w)
unfolding supports_from
support_cases i k w = refl

pub length-supports : (i k w : ℕ) → length (supports_from i k w) ≡ choose k w
unfolding supports_from choose
length-supports i k zero = refl
length-supports i zero (suc w) = refl
length-supports i (suc k) (suc w) = omega (arith, length-append (with_first i k w) (supports_from (suc i) k (suc w)), length-map (supports_from (suc i) k w) (λ s. i ∷ s), length-supports (suc i) k w, length-supports (suc i) k (suc w))

pub record InFirst (i k w n : ℕ) (s : List ℕ) : Type 0 where
  pub rest : List ℕ
  pub is : s ≡ i ∷ rest
  pub at : slice_get (supports_from (suc i) k w) n ≡ Some rest
  pub inside : n < length (supports_from (suc i) k w)

pub record InLater (i k w n : ℕ) (s : List ℕ) : Type 0 where
  pub place : ℕ
  pub is : n ≡ length (supports_from (suc i) k w) + place
  pub at : slice_get (supports_from (suc i) k (suc w)) place ≡ Some s

pub which_part : (i k w n : ℕ) (s : List ℕ) → slice_get (supports_from i (suc k) (suc w)) n ≡ Some s → InFirst i k w n s ⊎ InLater i k w n s
which_part i k w n s e =
    let parts : slice_get (with_first i k w ++ supports_from (suc i) k (suc w)) n ≡ Some s = rw (support_cases i k w) at e in
    let many : length (with_first i k w) ≡ length (supports_from (suc i) k w) = length-map (supports_from (suc i) k w) (λ s. i ∷ s) in
    elim (cases_lt n (length (with_first i k w))) [
      | inl l ↦ (
          let p = map_part (λ (s : List ℕ). i ∷ s) (supports_from (suc i) k w) n s (sym (get-append_left (with_first i k w) (supports_from (suc i) k (suc w)) n l) ∙ parts) in
          inl (record { rest = p.0; is = p.2; at = p.1; inside = omega (arith, l, many) }))
      | inr l ↦ (
          let split : n ≡ length (with_first i k w) + (n - length (with_first i k w)) = omega (arith, l) in
          inr (record {
            place = n - length (with_first i k w);
            is = omega (arith, split, many);
            at = sym (get-append_right (with_first i k w) (supports_from (suc i) k (suc w)) (n - length (with_first i k w))) ∙ (ap (slice_get (with_first i k w ++ supports_from (suc i) k (suc w))) (sym split) ∙ parts);
          }))
    ]

pub only_nil : (i k n : ℕ) (s : List ℕ) → slice_get (supports_from i k 0) n ≡ Some s → (n ≡ 0) × (s ≡ [])
unfolding supports_from
only_nil i k zero s e = (refl, cc)
only_nil i k (suc n) s e = absurd (cc)

no_support : (i w n : ℕ) (s : List ℕ) → slice_get (supports_from i 0 (suc w)) n ≡ Some s → ⊥
unfolding supports_from
no_support i w n s e = cc

nil_is_support : (i k : ℕ) (s : List ℕ) → s ≡ [] → IsSupport i k 0 s
nil_is_support i k s e = rw e (record { many = refl; low = λ u l. absurd (omega (arith, l)); high = λ u l. absurd (omega (arith, l)); rises = λ u l. absurd (omega (arith, l)) })

pub support_shape : (i k w n : ℕ) (s : List ℕ) → slice_get (supports_from i k w) n ≡ Some s → IsSupport i k w s
support_shape i k zero n s e = nil_is_support i k s (only_nil i k n s e).1
support_shape i zero (suc w) n s e = absurd (no_support i w n s e)
support_shape i (suc k) (suc w) n s e =
    elim (which_part i k w n s e) [
      | inl p ↦ support_cons i k w p.rest s p.is (support_shape (suc i) k w n p.rest p.at)
      | inr p ↦ support_later i k (suc w) s (support_shape (suc i) k (suc w) p.place s p.at)
    ]

-- the places of the part that has the first place, and of the part that hasn't
pub support_takes : (i k w n : ℕ) (s : List ℕ) → slice_get (supports_from (suc i) k w) n ≡ Some s → slice_get (supports_from i (suc k) (suc w)) n ≡ Some (i ∷ s)
support_takes i k w n s e =
    let l : n < length (with_first i k w) = omega (arith, slice_get_within (supports_from (suc i) k w) n s e, length-map (supports_from (suc i) k w) (λ s. i ∷ s)) in
    rw (support_cases i k w) (get-append_left (with_first i k w) (supports_from (suc i) k (suc w)) n l ∙ slice_get-map (λ (s : List ℕ). i ∷ s) (supports_from (suc i) k w) n ∙ ap (option_map (λ (s : List ℕ). i ∷ s)) e)

pub support_leaves : (i k w n : ℕ) → slice_get (supports_from i (suc k) (suc w)) (length (supports_from (suc i) k w) + n) ≡ slice_get (supports_from (suc i) k (suc w)) n
support_leaves i k w n =
    let many : length (with_first i k w) ≡ length (supports_from (suc i) k w) = length-map (supports_from (suc i) k w) (λ s. i ∷ s) in
    rw (support_cases i k w) (ap (λ a. slice_get (with_first i k w ++ supports_from (suc i) k (suc w)) (a + n)) (sym many) ∙ get-append_right (with_first i k w) (supports_from (suc i) k (suc w)) n)

nil_first : (i k : ℕ) → slice_get (supports_from i k 0) 0 ≡ Some (numbers_from i 0)
unfolding supports_from numbers_from
nil_first i k = refl

row : (i w : ℕ) → Some (i ∷ numbers_from (suc i) w) ≡ Some (numbers_from i (suc w))
unfolding numbers_from
row i w = refl

pub support_first : (i k w : ℕ) → w ≤ k → slice_get (supports_from i k w) 0 ≡ Some (numbers_from i w)
support_first i k zero l = nil_first i k
support_first i zero (suc w) l = absurd (omega arith)
support_first i (suc k) (suc w) l = support_takes i k w 0 (numbers_from (suc i) w) (support_first (suc i) k w (omega arith)) ∙ row i w

after_first : (i k w : ℕ) (s : List ℕ) → length s ≡ w → slice_get (supports_from (suc i) k (suc w)) 0 ≡ moved i k s None
after_first i k w s e =
    elim (cases_lt w k) [
      | inl l ↦ support_first (suc i) k (suc w) l ∙ ap (λ a. Some (numbers_from (suc i) (suc a))) (sym e) ∙ sym (move_here i k s None refl (omega (arith, e, l)))
      | inr l ↦ slice_get_past (supports_from (suc i) k (suc w)) 0 (omega (arith, length-supports (suc i) k (suc w), choose_none k (suc w) (omega (arith, l)))) ∙ sym (move_not i k s None refl (omega (arith, e, l)))
    ]

next_in_first : (i k w n : ℕ) (s : List ℕ) (o : Option (List ℕ)) → length s ≡ w → n < length (supports_from (suc i) k w) → slice_get (supports_from (suc i) k w) (suc n) ≡ o → slice_get (supports_from i (suc k) (suc w)) (suc n) ≡ moved i k s o
next_in_first i k w n s (Some t) many l e = support_takes i k w (suc n) t e
next_in_first i k w n s None many l e =
    let last : suc n ≡ length (supports_from (suc i) k w) + 0 = elim (cases_lt (suc n) (length (supports_from (suc i) k w))) [
      | inl m ↦ absurd (none-some _ (sym e ∙ slice_get-get_or (supports_from (suc i) k w) (suc n) [] m))
      | inr m ↦ omega (arith, l, m)
    ] in
    ap (slice_get (supports_from i (suc k) (suc w))) last ∙ support_leaves i k w 0 ∙ after_first i k w s many

pub support_next : (i k w n : ℕ) (s : List ℕ) → slice_get (supports_from i k w) n ≡ Some s → slice_get (supports_from i k w) (suc n) ≡ next_support i k s
support_next i k zero n s e =
    let p = only_nil i k n s e in
    slice_get_past (supports_from i k 0) (suc n) (omega (arith, length-supports i k 0, choose_nothing k)) ∙ sym (ap (next_support i k) p.1 ∙ next_nil i k)
support_next i zero (suc w) n s e = absurd (no_support i w n s e)
support_next i (suc k) (suc w) n s e =
    elim (which_part i k w n s e) [
      | inl p ↦ (
          let shape = support_shape (suc i) k w n p.rest p.at in
          next_in_first i k w n p.rest (slice_get (supports_from (suc i) k w) (suc n)) shape.many p.inside refl ∙ ap (moved i k p.rest) (support_next (suc i) k w n p.rest p.at) ∙ sym (ap (next_support i (suc k)) p.is ∙ next_at i k i p.rest refl))
      | inr p ↦ (
          let shape = support_shape (suc i) k (suc w) p.place s p.at in
          let place : suc n ≡ length (supports_from (suc i) k w) + suc p.place = omega (arith, p.is) in
          ap (slice_get (supports_from i (suc k) (suc w))) place ∙ support_leaves i k w (suc p.place) ∙ support_next (suc i) k (suc w) p.place s p.at ∙ sym (past s shape.many (shape.low 0 (omega arith))))
    ]
  where
    past : (s : List ℕ) → length s ≡ suc w → suc i ≤ get_or s 0 0 → next_support i (suc k) s ≡ next_support (suc i) k s
    past [] m l = absurd (omega arith)
    past (p ∷ s) m l = next_past i k p s l

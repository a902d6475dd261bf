-- The words of a code that are 0 on a set of coordinates, and those of its dual that are 0 outside it (MacWilliams and Sloane,
-- chapter 5, where the identities are proved by these numbers).
--   is_zero_but b i w          whether w is 0 at each place p, from i on, but those that b holds of
--   shown b                    1 for a test that is passed, else 0
--   symbol_of_test, test_of_symbols      what it tests
--   on_places, SetTransform, set_transform      the transform of the words that are 0 outside a set of places
--   zero_outside_told, zero_on_told      the tests for sets of coordinates, as such tests
--   set_size                   how many numbers below n a set has
--   one_set                    the law
use Rattle.std.proofs.Common.{◌≡◌, ℕ, zero, suc, ◌+◌, ◌*◌, ◌^◌, ◌<◌, Bool, true, false, not, cond, ◌==◌, ◌&&◌, ◌||◌, List, [], ◌∷◌, length, slice_index, sum_by, count_by, All, refl, sym, ap, ◌∙◌, ⊎_elim, arith}
use Rattle.std.proofs.Math.Nat.{pow-suc, pow-zero, mul-one}
use Rattle.std.proofs.lemmas.Bool.{cases_Bool, and_parts, and_from, or_cases, or_left, or_right, eq-eqb, eqb-true, false≢true, ne_eqb}
use Rattle.std.proofs.lemmas.List.Elements.{All-contains}
use Rattle.std.proofs.lemmas.List.Sums.{sum_by-cons, length-filter, AllPass-from_list_all}
use Rattle.lc_algebra.specs.declared.FieldName.{FieldName}
use Rattle.lc_algebra.specs.Field.{size}
use Rattle.lc_algebra.specs.Span.{below, words}
use Rattle.lc_algebra.specs.Matrix.{AreRows, IsReducedGenerator, IsOrthogonal}
use Rattle.lc_algebra.proofs.CommonLaws.{same_test}
use Rattle.lc_algebra.proofs.FieldLaws.{zero_inside}
use Rattle.lc_algebra.proofs.SpanLaws.{contains_below, below_contains, span_word, word_of_member}
use Rattle.lc_algebra.proofs.DimensionLaws.{AreDistinct, distinct_below}
use Rattle.lc_algebra.proofs.DivisorLaws.{each_passes}
use Rattle.lc_enumeration.specs.Message.{numbers_from}
use Rattle.lc_enumeration.specs.InformationSet.{is_member}
use Rattle.lc_enumeration.specs.Distribution.{is_zero_on, is_zero_outside, zero_on, zero_outside}
use Rattle.lc_enumeration.proofs.MemberLaws.{member_true, true_member}
use Rattle.lc_enumeration.proofs.DistributionLaws.{zero_on_from_test, test_from_zero_on}
use Rattle.lc_enumeration.proofs.GreedyLaws.{each_contained}
use Rattle.lc_macwilliams.proofs.CountLaws.{one_more, sum_same, sum_none, sum_times, sum_constant, sum_passing, below_numbers}
use Rattle.lc_macwilliams.proofs.TransformLaws.{HasTransform, transform_none, transform_empty, transform_step, sum_over_dual}

unfoldable pub is_zero_but : (ℕ → Bool) → ℕ → List ℕ → Bool
is_zero_but b i [] = true
is_zero_but b i (a ∷ w) = (b i || (a == 0)) && is_zero_but b (suc i) w

pub symbol_of_test : (b : ℕ → Bool) (i : ℕ) (w : List ℕ) → is_zero_but b i w ≡ true → (p : ℕ) → p < length w → (b (i + p) || (slice_index w p == 0)) ≡ true
unfolding is_zero_but
symbol_of_test b i [] h p l = absurd (omega (arith, l))
symbol_of_test b i (a ∷ w) h zero l =
    let e : i + 0 ≡ i = omega arith in
    rw e (and_parts (b i || (a == 0)) (is_zero_but b (suc i) w) h).0
symbol_of_test b i (a ∷ w) h (suc p) l =
    let e : i + suc p ≡ suc i + p = omega arith in
    rw e (symbol_of_test b (suc i) w (and_parts (b i || (a == 0)) (is_zero_but b (suc i) w) h).1 p (omega (arith, l)))

pub test_of_symbols : (b : ℕ → Bool) (i : ℕ) (w : List ℕ) → ((p : ℕ) → p < length w → (b (i + p) || (slice_index w p == 0)) ≡ true) → is_zero_but b i w ≡ true
unfolding is_zero_but
test_of_symbols b i [] h = refl
test_of_symbols b i (a ∷ w) h =
    let e : i + 0 ≡ i = omega arith in
    let first : (b (i + 0) || (a == 0)) ≡ true = h 0 (omega arith) in
    and_from (b i || (a == 0)) (is_zero_but b (suc i) w) (rw e at first) (test_of_symbols b (suc i) w (λ p l.
    let s : i + suc p ≡ suc i + p = omega arith in
    let t : (b (i + suc p) || (slice_index w p == 0)) ≡ true = h (suc p) (omega (arith, l)) in
    rw s at t))

abbrev pub shown : Bool → ℕ
shown b = cond b 1 0

-- how much a symbol more changes the test
but_zero : (b : ℕ → Bool) (i : ℕ) (u : List ℕ) → is_zero_but b i (0 ∷ u) ≡ is_zero_but b (suc i) u
unfolding is_zero_but
but_zero b i u = by_bool (b i) (is_zero_but b (suc i) u)
  where
    by_bool : (c d : Bool) → ((c || (0 == 0)) && d) ≡ d
    by_bool true d = refl
    by_bool false d = refl

but_other : (b : ℕ → Bool) (i a : ℕ) (u : List ℕ) → 0 < a → is_zero_but b i (a ∷ u) ≡ (b i && is_zero_but b (suc i) u)
unfolding is_zero_but
but_other b i a u p = ap (λ z. (b i || z) && is_zero_but b (suc i) u) (ne_eqb a 0 (λ e. omega (arith, e, p))) ∙ by_bool (b i) (is_zero_but b (suc i) u)
  where
    by_bool : (c d : Bool) → ((c || false) && d) ≡ (c && d)
    by_bool true d = refl
    by_bool false d = refl

count_next : (b : ℕ → Bool) (i n : ℕ) → count_by b (numbers_from i (suc n)) ≡ shown (b i) + count_by b (numbers_from (suc i) n)
unfolding numbers_from
count_next b i n = sum_by-cons (λ j. cond (b j) 1 0) i (numbers_from (suc i) n)

power_next : (q c m : ℕ) → m ≡ 1 + c → q ^ m ≡ q * q ^ c
power_next q c m e = let s : m ≡ suc c = omega (arith, e) in ap (λ x. q ^ x) s ∙ pow-suc q c ∙ omega arith

-- the transform, at words of length n, from place i on
abbrev pub on_places : FieldName → (ℕ → Bool) → ℕ → ℕ → List ℕ → ℕ
on_places f b i n w = size f ^ count_by b (numbers_from i n) * shown (is_zero_but (λ p. not (b p)) i w)

abbrev pub SetTransform : FieldName → (ℕ → Bool) → ℕ → ℕ → Type 0
SetTransform f b i n = HasTransform f n (λ e. shown (is_zero_but b i e)) (on_places f b i n) (λ _. 0)

first_inside : (f : FieldName) (b : ℕ → Bool) (i n : ℕ) → b i ≡ true → SetTransform f b (suc i) n → SetTransform f b i (suc n)
first_inside f b i n e before =
    let q : ℕ = size f in
    let d : ℕ → Bool = λ p. not (b p) in
    let c : ℕ = count_by b (numbers_from (suc i) n) in
    let more : count_by b (numbers_from i (suc n)) ≡ 1 + c = count_next b i n ∙ ap (λ x. shown x + c) e in
    let out : d i ≡ false = ap not e in
    transform_step f n (λ e. shown (is_zero_but b i e)) (λ e. shown (is_zero_but b (suc i) e)) (λ e. shown (is_zero_but b (suc i) e)) (on_places f b (suc i) n) (λ _. 0) (on_places f b (suc i) n) (λ _. 0) (on_places f b i (suc n)) (λ _. 0)
    (record {
      zero = λ u _. ap shown (but_zero b i u);
      other = λ a u _ p. ap shown (but_other b i a u p) ∙ ap (λ x. shown (x && is_zero_but b (suc i) u)) e;
    })
    before before
    (λ v _.
    let at : on_places f b i (suc n) (0 ∷ v) ≡ q * q ^ c * shown (is_zero_but d (suc i) v) = cc (power_next q c (count_by b (numbers_from i (suc n))) more, but_zero d i v) in
    omega (arith, at, one_more q (q ^ c * shown (is_zero_but d (suc i) v)) (zero_inside f)))
    (λ a v _ p.
    let none : shown (is_zero_but d i (a ∷ v)) ≡ 0 = ap shown (but_other d i a v p) ∙ ap (λ x. shown (x && is_zero_but d (suc i) v)) out in
    let at : on_places f b i (suc n) (a ∷ v) ≡ 0 = ap (λ x. q ^ count_by b (numbers_from i (suc n)) * x) none ∙ omega arith in
    omega (arith, at))

first_outside : (f : FieldName) (b : ℕ → Bool) (i n : ℕ) → b i ≡ false → SetTransform f b (suc i) n → SetTransform f b i (suc n)
first_outside f b i n e before =
    let q : ℕ = size f in
    let d : ℕ → Bool = λ p. not (b p) in
    let c : ℕ = count_by b (numbers_from (suc i) n) in
    let same : count_by b (numbers_from i (suc n)) ≡ c = count_next b i n ∙ ap (λ x. shown x + c) e ∙ omega arith in
    let out : d i ≡ true = ap not e in
    transform_step f n (λ e. shown (is_zero_but b i e)) (λ e. shown (is_zero_but b (suc i) e)) (λ _. 0) (on_places f b (suc i) n) (λ _. 0) (λ _. 0) (λ _. 0) (on_places f b i (suc n)) (λ _. 0)
    (record {
      zero = λ u _. ap shown (but_zero b i u);
      other = λ a u _ p. ap shown (but_other b i a u p) ∙ ap (λ x. shown (x && is_zero_but b (suc i) u)) e;
    })
    before (transform_none f n)
    (λ v _.
    let at : on_places f b i (suc n) (0 ∷ v) ≡ on_places f b (suc i) n v = cc (same, but_zero d i v) in
    omega (arith, at))
    (λ a v _ p.
    let on : is_zero_but d i (a ∷ v) ≡ is_zero_but d (suc i) v = but_other d i a v p ∙ ap (λ x. x && is_zero_but d (suc i) v) out in
    let at : on_places f b i (suc n) (a ∷ v) ≡ on_places f b (suc i) n v = cc (same, on) in
    omega (arith, at))

pub set_transform : (f : FieldName) (b : ℕ → Bool) (i n : ℕ) → SetTransform f b i n
unfolding is_zero_but numbers_from
set_transform f b i zero = transform_empty f (λ e. shown (is_zero_but b i e)) (on_places f b i 0) (λ _. 0) (rw (pow-zero (size f)) (omega arith))
set_transform f b i (suc n) =
    ⊎_elim (λ e. first_inside f b i n e (set_transform f b (suc i) n)) (λ e. first_outside f b i n e (set_transform f b (suc i) n)) (cases_Bool (b i))

pub zero_outside_told : (set w : List ℕ) → is_zero_outside set w ≡ is_zero_but (is_member set) 0 w
unfolding is_zero_outside
zero_outside_told set w =
    let test : ℕ → Bool = λ p. is_member set p || (slice_index w p == 0) in
    same_test (is_zero_outside set w) (is_zero_but (is_member set) 0 w)
    (λ h. test_of_symbols (is_member set) 0 w (λ p l.
    let e : 0 + p ≡ p = omega arith in
    rw e (All-contains (λ r. test r ≡ true) (below (length w)) p (AllPass-from_list_all test (below (length w)) h) (below_contains (length w) p l))))
    (λ h. each_passes test (below (length w)) (λ p c.
    let e : 0 + p ≡ p = omega arith in
    let t : (is_member set (0 + p) || (slice_index w p == 0)) ≡ true = symbol_of_test (is_member set) 0 w h p (contains_below (length w) p c) in
    rw e at t))

pub zero_on_told : (n : ℕ) (set w : List ℕ) → length w ≡ n → All (λ p. p < n) set → is_zero_on set w ≡ is_zero_but (λ p. not (is_member set p)) 0 w
zero_on_told n set w l a =
    same_test (is_zero_on set w) (is_zero_but (λ p. not (is_member set p)) 0 w)
    (λ h. test_of_symbols (λ p. not (is_member set p)) 0 w (λ p m.
    let e : 0 + p ≡ p = omega arith in
    rw e (⊎_elim
    (λ t. or_right (not (is_member set p)) (slice_index w p == 0) (eq-eqb (slice_index w p) 0 (All-contains (λ r. slice_index w r ≡ 0) set p (zero_on_from_test set w h) (true_member set p t))))
    (λ t. or_left (not (is_member set p)) (slice_index w p == 0) (ap not t))
    (cases_Bool (is_member set p)))))
    (λ h. test_from_zero_on set w (each_contained (λ p. slice_index w p ≡ 0) set (λ p c.
    let e : 0 + p ≡ p = omega arith in
    let inside : p < length w = omega (arith, l, All-contains (λ r. r < n) set p a c) in
    let t : (not (is_member set (0 + p)) || (slice_index w p == 0)) ≡ true = symbol_of_test (λ p. not (is_member set p)) 0 w h p inside in
    let t' : (not (is_member set p) || (slice_index w p == 0)) ≡ true = rw e at t in
    ⊎_elim (λ x. absurd (false≢true (sym (ap not (member_true set p c)) ∙ x))) (λ x. eqb-true (slice_index w p) 0 x) (or_cases (not (is_member set p)) (slice_index w p == 0) t'))))

pub set_size : (n : ℕ) (set : List ℕ) → AreDistinct set → All (λ p. p < n) set → count_by (is_member set) (numbers_from 0 n) ≡ length set
set_size n set d a =
    let ones : sum_by (λ _. 1) set ≡ length set = sum_constant (λ _. 1) 1 set (λ _ _. refl) ∙ mul-one (length set) in
    let told : sum_by (λ _. 1) set ≡ sum_by (λ p. 1 * cond (is_member set p) 1 0) (below n) =
    sum_passing (λ _. 1) (is_member set) set (below n) d (distinct_below n) (λ p c. (below_contains n p (All-contains (λ r. r < n) set p a c), member_true set p c)) (λ p _ t. true_member set p t) in
    let same : sum_by (λ p. 1 * cond (is_member set p) 1 0) (below n) ≡ count_by (is_member set) (below n) = sum_same (λ p. 1 * cond (is_member set p) 1 0) (λ p. cond (is_member set p) 1 0) (below n) (λ p _. omega arith) in
    ap (count_by (is_member set)) (sym (below_numbers n)) ∙ sym same ∙ sym told ∙ ones

pub one_set : (f : FieldName) (n : ℕ) (rows checks : List (List ℕ)) (set : List ℕ) → AreRows f n rows → IsReducedGenerator f n (IsOrthogonal f rows) checks → AreDistinct set → All (λ p. p < n) set → size f ^ length set * length (zero_on f n rows set) ≡ size f ^ length rows * length (zero_outside f n checks set)
unfolding zero_on zero_outside
one_set f n rows checks set r k d a =
    let b : ℕ → Bool = is_member set in
    let q : ℕ = size f in
    let ws : List (List ℕ) = words f n rows in
    let law : q ^ length rows * sum_by (λ e. shown (is_zero_but b 0 e)) (words f n checks) + sum_by (λ _. 0) ws ≡ sum_by (on_places f b 0 n) ws = sum_over_dual f n (λ e. shown (is_zero_but b 0 e)) (on_places f b 0 n) (λ _. 0) rows checks (set_transform f b 0 n) r k in
    let none : sum_by (λ _. 0) ws ≡ 0 = sum_none (λ _. 0) ws (λ _ _. refl) in
    let outside : length (zero_outside f n checks set) ≡ sum_by (λ e. shown (is_zero_but b 0 e)) (words f n checks) =
    length-filter (is_zero_outside set) (words f n checks) ∙ sum_same (λ e. shown (is_zero_outside set e)) (λ e. shown (is_zero_but b 0 e)) (words f n checks) (λ e _. ap shown (zero_outside_told set e)) in
    let on : length (zero_on f n rows set) ≡ sum_by (λ w. shown (is_zero_but (λ p. not (b p)) 0 w)) ws =
    length-filter (is_zero_on set) ws ∙ sum_same (λ w. shown (is_zero_on set w)) (λ w. shown (is_zero_but (λ p. not (b p)) 0 w)) ws (λ w c. ap shown (zero_on_told n set w (span_word f n rows w r (word_of_member f n rows w c)).long a)) in
    let left : sum_by (on_places f b 0 n) ws ≡ q ^ length set * length (zero_on f n rows set) =
    sum_times (q ^ count_by b (numbers_from 0 n)) (λ w. shown (is_zero_but (λ p. not (b p)) 0 w)) ws ∙ cc (set_size n set d a, on) in
    let right : q ^ length rows * length (zero_outside f n checks set) ≡ q ^ length rows * sum_by (λ e. shown (is_zero_but b 0 e)) (words f n checks) = ap (λ x. q ^ length rows * x) outside in
    omega (arith, law, none, left, right)

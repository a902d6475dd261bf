-- The locator field of a BCH code is the least field that holds the symbol field and an element of order n.
--   each_field             the list of fields has each of them
--   holds_order            a field passes the test exactly if it is such a field
--   rising_head, rising_tail      the entries of a rising list
--   find_passes, find_first, find_nothing      what is found in a list of rising fields
--   locator_is             the field that the test finds is the least one, and the least one is found
--   no_locator             none is found exactly if there is none
use Rattle.std.proofs.Common.{◌≡◌, ℕ, ◌-◌, ◌%◌, ◌<◌, ◌≤◌, ◌↔◌, Bool, true, ◌==◌, ◌&&◌, nat_lt, List, [], ◌∷◌, map, find, Option, Some, None, is_some, Contains, refl, sym, ap, subst, ◌∙◌, ⊎_elim, arith, true≢false}
use Rattle.std.proofs.lemmas.Bool.{cases_Bool, and_parts, eqb-true, eq-eqb, ltb-true, and_from}
use Rattle.lc_algebra.specs.declared.FieldName.{FieldName}
use Rattle.lc_algebra.specs.declared.FieldName.TheVariants.{Gf2, Gf3, Gf4, Gf5, Gf7, Gf8, Gf9, Gf11, Gf13, Gf16, Gf25, Gf27, Gf32, Gf64, Gf81, Gf128, Gf243, Gf256}
use Rattle.lc_algebra.specs.Field.{shape, shape_of, size, HasOrder}
use Rattle.lc_algebra.specs.Embedding.{IsSubfield, is_subfield}
use Rattle.lc_algebra.proofs.EmbeddingLaws.{decides_subfield}
use Rattle.lc_algebra.proofs.EmbeddingTests.{told_by_size}
use Rattle.lc_algebra.proofs.OrderLaws.{primitive_power, order_of_element}
use Rattle.lc_algebra.proofs.SpanLaws.{contains_cases, map_contains}
use Rattle.lc_algebra.proofs.CommonLaws.{find_here, find_later}
use Rattle.lc_constructions.specs.Cyclic.{all_fields, IsLocatorField, locator_field}
use Rattle.lc_constructions.specs.Refusals.{is_rising}

pub each_field : (f : FieldName) → Contains all_fields f
unfolding all_fields
each_field Gf2 = (0, omega arith, refl)
each_field Gf3 = (1, omega arith, refl)
each_field Gf4 = (2, omega arith, refl)
each_field Gf5 = (3, omega arith, refl)
each_field Gf7 = (4, omega arith, refl)
each_field Gf8 = (5, omega arith, refl)
each_field Gf9 = (6, omega arith, refl)
each_field Gf11 = (7, omega arith, refl)
each_field Gf13 = (8, omega arith, refl)
each_field Gf16 = (9, omega arith, refl)
each_field Gf25 = (10, omega arith, refl)
each_field Gf27 = (11, omega arith, refl)
each_field Gf32 = (12, omega arith, refl)
each_field Gf64 = (13, omega arith, refl)
each_field Gf81 = (14, omega arith, refl)
each_field Gf128 = (15, omega arith, refl)
each_field Gf243 = (16, omega arith, refl)
each_field Gf256 = (17, omega arith, refl)

abbrev holds : FieldName → ℕ → FieldName → Bool
holds f n K = is_subfield f K && ((size K - 1) % n == 0)

pub holds_order : (f : FieldName) (n : ℕ) (K : FieldName) → 1 ≤ n → (holds f n K ≡ true) ↔ (IsSubfield f K × ((b : ℕ) × HasOrder K b n))
holds_order f n K l = (
  (λ h. let t = and_parts (is_subfield f K) ((size K - 1) % n == 0) h in ((decides_subfield f K).0 t.0, (_, primitive_power K n l (eqb-true ((size K - 1) % n) 0 t.1)))),
  (λ h. and_from (is_subfield f K) ((size K - 1) % n == 0) ((decides_subfield f K).1 h.0) (eq-eqb ((size K - 1) % n) 0 (order_of_element K h.1.0 n h.1.1))),
)

rising_fields : is_rising (map size all_fields) ≡ true
unfolding shape shape_of size all_fields is_rising
rising_fields = refl

pub rising_head : (a : ℕ) (xs : List ℕ) (b : ℕ) → is_rising (a ∷ xs) ≡ true → Contains xs b → a < b
unfolding is_rising
rising_head a [] b h c = absurd (omega (arith, c.1))
rising_head a (x ∷ xs) b h c =
    let t = and_parts (nat_lt a x) (is_rising (x ∷ xs)) h in
    let l : a < x = ltb-true a x t.0 in
    ⊎_elim (λ e. omega (arith, l, e)) (λ k. omega (arith, l, rising_head x xs b t.1 k)) (contains_cases x b xs c)

pub rising_tail : (a : ℕ) (xs : List ℕ) → is_rising (a ∷ xs) ≡ true → is_rising xs ≡ true
unfolding is_rising
rising_tail a [] h = refl
rising_tail a (x ∷ xs) h = (and_parts (nat_lt a x) (is_rising (x ∷ xs)) h).1

some_is_none : {X : Type 0} (x : X) → Some x ≡ None → ⊥
some_is_none x h = true≢false (ap is_some h)

some_same : (x y : FieldName) → Some x ≡ Some y → x ≡ y
some_same x y h = cc h

pub find_passes : (p : FieldName → Bool) (xs : List FieldName) (K : FieldName) → find p xs ≡ Some K → p K ≡ true
find_passes p [] K h = absurd (some_is_none K (sym h))
find_passes p (x ∷ xs) K h =
    ⊎_elim
    (λ e. subst (λ y. p y ≡ true) (some_same x K (sym (find_here p x xs e) ∙ h)) e)
    (λ e. find_passes p xs K (sym (find_later p x xs e) ∙ h))
    (cases_Bool (p x))

pub find_first : (p : FieldName → Bool) (xs : List FieldName) (K L : FieldName) → is_rising (map size xs) ≡ true → find p xs ≡ Some K → Contains xs L → p L ≡ true → size K ≤ size L
find_first p [] K L r h c t = absurd (some_is_none K (sym h))
find_first p (x ∷ xs) K L r h c t =
    ⊎_elim
    (λ e.
    let s : x ≡ K = some_same x K (sym (find_here p x xs e) ∙ h) in
    ⊎_elim
    (λ q. omega (arith, ap size s, ap size q))
    (λ k. omega (arith, ap size s, rising_head (size x) (map size xs) (size L) r (map_contains size xs L k)))
    (contains_cases x L xs c))
    (λ e. ⊎_elim
    (λ q. absurd (true≢false (sym t ∙ ap p (sym q) ∙ e)))
    (λ k. find_first p xs K L (rising_tail (size x) (map size xs) r) (sym (find_later p x xs e) ∙ h) k t)
    (contains_cases x L xs c))
    (cases_Bool (p x))

pub find_nothing : (p : FieldName → Bool) (xs : List FieldName) (L : FieldName) → find p xs ≡ None → Contains xs L → p L ≡ true → ⊥
find_nothing p [] L h c t = omega (arith, c.1)
find_nothing p (x ∷ xs) L h c t =
    ⊎_elim
    (λ e. some_is_none x (sym (find_here p x xs e) ∙ h))
    (λ e. ⊎_elim
    (λ q. true≢false (sym t ∙ ap p (sym q) ∙ e))
    (λ k. find_nothing p xs L (sym (find_later p x xs e) ∙ h) k t)
    (contains_cases x L xs c))
    (cases_Bool (p x))

found_is : (f : FieldName) (n : ℕ) (K : FieldName) → 1 ≤ n → locator_field f n ≡ Some K → IsLocatorField f n K
unfolding locator_field
found_is f n K l h =
    let t = (holds_order f n K l).0 (find_passes (holds f n) all_fields K h) in
    record {
      subfield = t.0;
      order = t.1;
      least = λ L s b o. find_first (holds f n) all_fields K L rising_fields h (each_field L) ((holds_order f n L l).1 (s, (b, o)));
    }

nothing_found : (f : FieldName) (n : ℕ) (K : FieldName) → 1 ≤ n → locator_field f n ≡ None → IsSubfield f K → (b : ℕ) → HasOrder K b n → ⊥
unfolding locator_field
nothing_found f n K l h s b o = find_nothing (holds f n) all_fields K h (each_field K) ((holds_order f n K l).1 (s, (b, o)))

only_locator : (f : FieldName) (n : ℕ) (K L : FieldName) → IsLocatorField f n K → IsLocatorField f n L → K ≡ L
only_locator f n K L h k = told_by_size K L (omega (arith, h.least L k.subfield k.order.0 k.order.1, k.least K h.subfield h.order.0 h.order.1))

is_found : (f : FieldName) (n : ℕ) (K : FieldName) (o : Option FieldName) → 1 ≤ n → IsLocatorField f n K → locator_field f n ≡ o → o ≡ Some K
is_found f n K None l h e = absurd (nothing_found f n K l e h.subfield h.order.0 h.order.1)
is_found f n K (Some L) l h e = ap (λ (M : FieldName). Some M) (only_locator f n L K (found_is f n L l e) h)

pub locator_is : (f : FieldName) (n : ℕ) (K : FieldName) → 1 ≤ n → (locator_field f n ≡ Some K) ↔ IsLocatorField f n K
locator_is f n K l = ((λ h. found_is f n K l h), (λ h. is_found f n K (locator_field f n) l h refl))

is_not_found : (f : FieldName) (n : ℕ) (o : Option FieldName) → 1 ≤ n → ((K : FieldName) → IsSubfield f K → (b : ℕ) → HasOrder K b n → ⊥) → locator_field f n ≡ o → o ≡ None
is_not_found f n None l h e = refl
is_not_found f n (Some K) l h e = let k = found_is f n K l e in absurd (h K k.subfield k.order.0 k.order.1)

pub no_locator : (f : FieldName) (n : ℕ) → 1 ≤ n → (locator_field f n ≡ None) ↔ ((K : FieldName) → IsSubfield f K → (b : ℕ) → HasOrder K b n → ⊥)
no_locator f n l = ((λ h K s b o. nothing_found f n K l h s b o), (λ h. is_not_found f n (locator_field f n) l h refl))

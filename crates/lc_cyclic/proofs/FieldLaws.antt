-- Fields found in the list of all of them.
--   find_at, find_nowhere, any_at, any_nowhere      what is found in a list, by indices
--   locator_found, locator_missing     the locator field
--   size_found, size_here, size_missing      the symbol field with q elements
--   other_characteristic, other_degree, by_order      the three parts of the test
--   size_positive          a field has elements
use Rattle.std.proofs.Common.{◌≡◌, ◌≢◌, ℕ, zero, suc, ◌-◌, ◌%◌, ◌<◌, ◌≤◌, Bool, true, false, nat_le, ◌==◌, ◌&&◌, List, [], ◌∷◌, find, length, slice_index_or, Some, None, option_map, refl, sym, ap, ◌∙◌, ⊎_elim, arith}
use Rattle.std.specs.List.{list_any}
use Rattle.std.proofs.lemmas.Bool.{cases_Bool, eq-eqb, ne_eqb, le-leb}
use Rattle.lc_algebra.specs.declared.FieldName.{FieldName}
use Rattle.lc_algebra.specs.declared.FieldName.TheVariants.{Gf2}
use Rattle.lc_algebra.specs.Field.{shape_of, size, is_symbol}
use Rattle.lc_algebra.specs.Embedding.{is_subfield}
use Rattle.lc_algebra.proofs.FieldLaws.{zero_inside}
use Rattle.lc_algebra.proofs.CommonLaws.{find_here, find_later, and_regrouped}
use Rattle.lc_constructions.specs.Cyclic.{all_fields, locator_field}
use Rattle.lc_constructions.specs.Refusals.{is_size_of_symbol_field}
use Rattle.lc_cyclic.specs.Fields.{field_number, holds_root}
use Rattle.lc_code.proofs.CoordinateSteps.{degree_nonzero}

find_at : (p : FieldName → Bool) (xs : List FieldName) (i : ℕ) (d : FieldName) → i < length xs → p (slice_index_or xs i d) ≡ true → ((k : ℕ) → k < i → p (slice_index_or xs k d) ≡ false) → find p xs ≡ Some (slice_index_or xs i d)
find_at p [] i d l t h = absurd (omega (arith, l))
find_at p (x ∷ xs) zero d l t h = find_here p x xs t
find_at p (x ∷ xs) (suc i) d l t h = find_later p x xs (h 0 (omega arith)) ∙ find_at p xs i d (omega (arith, l)) t (λ k q. h (suc k) (omega (arith, q)))

find_nowhere : (p : FieldName → Bool) (xs : List FieldName) (d : FieldName) → ((k : ℕ) → k < length xs → p (slice_index_or xs k d) ≡ false) → find p xs ≡ None
find_nowhere p [] d h = refl
find_nowhere p (x ∷ xs) d h = find_later p x xs (h 0 (omega arith)) ∙ find_nowhere p xs d (λ k q. h (suc k) (omega (arith, q)))

any_at : (p : FieldName → Bool) (xs : List FieldName) (i : ℕ) (d : FieldName) → i < length xs → p (slice_index_or xs i d) ≡ true → list_any p xs ≡ true
any_at p [] i d l t = absurd (omega (arith, l))
any_at p (x ∷ xs) zero d l t = rw t refl
any_at p (x ∷ xs) (suc i) d l t =
    let r : list_any p xs ≡ true = any_at p xs i d (omega (arith, l)) t in
    ⊎_elim (λ e. rw e refl) (λ e. rw e r) (cases_Bool (p x))

pub any_nowhere : (p : FieldName → Bool) (xs : List FieldName) (d : FieldName) → ((k : ℕ) → k < length xs → p (slice_index_or xs k d) ≡ false) → list_any p xs ≡ false
any_nowhere p [] d h = refl
any_nowhere p (x ∷ xs) d h = let e : p x ≡ false = h 0 (omega arith) in rw e (any_nowhere p xs d (λ k q. h (suc k) (omega (arith, q))))

eighteen : length all_fields ≡ 18
unfolding all_fields
eighteen = refl

abbrev pub is_locator_for : FieldName → ℕ → ℕ → Bool
is_locator_for f n i = holds_root (shape_of f).characteristic (shape_of f).degree n (shape_of (field_number i)).characteristic (shape_of (field_number i)).degree (size (field_number i))

turned : (a b : ℕ) → (a == b) ≡ (b == a)
turned a b = grind arith

same_test : (f : FieldName) (n : ℕ) (K : FieldName) → holds_root (shape_of f).characteristic (shape_of f).degree n (shape_of K).characteristic (shape_of K).degree (size K) ≡ (is_subfield f K && ((size K - 1) % n == 0))
unfolding holds_root is_subfield
same_test f n K =
    ap (λ t. t && (((shape_of K).degree % (shape_of f).degree == 0) && ((size K - 1) % n == 0))) (turned (shape_of K).characteristic (shape_of f).characteristic)
    ∙ and_regrouped ((shape_of f).characteristic == (shape_of K).characteristic) ((shape_of K).degree % (shape_of f).degree == 0) ((size K - 1) % n == 0)

pub locator_found : (f : FieldName) (n i q : ℕ) → i < 18 → q ≡ size (field_number i) → is_locator_for f n i ≡ true → ((k : ℕ) → k < i → is_locator_for f n k ≡ false) → Some q ≡ option_map size (locator_field f n)
unfolding field_number locator_field
locator_found f n i q l e t h =
    let p : FieldName → Bool = λ K. is_subfield f K && ((size K - 1) % n == 0) in
    let r : find p all_fields ≡ Some (slice_index_or all_fields i Gf2) = find_at p all_fields i Gf2 (omega (arith, l, eighteen)) (sym (same_test f n (slice_index_or all_fields i Gf2)) ∙ t) (λ k m. sym (same_test f n (slice_index_or all_fields k Gf2)) ∙ h k m) in
    ap Some e ∙ sym (ap (option_map size) r)

pub locator_missing : (f : FieldName) (n i : ℕ) → 18 ≤ i → ((k : ℕ) → k < i → is_locator_for f n k ≡ false) → None ≡ option_map size (locator_field f n)
unfolding field_number locator_field
locator_missing f n i l h =
    let p : FieldName → Bool = λ K. is_subfield f K && ((size K - 1) % n == 0) in
    let r : find p all_fields ≡ None = find_nowhere p all_fields Gf2 (λ k m. sym (same_test f n (slice_index_or all_fields k Gf2)) ∙ h k (omega (arith, l, m, eighteen))) in
    sym (ap (option_map size) r)

abbrev pub has_size : ℕ → ℕ → Bool
has_size q i = (size (field_number i) == q) && nat_le (size (field_number i)) 16

pub size_found : (q i : ℕ) → i < 18 → has_size q i ≡ true → true ≡ is_size_of_symbol_field q
unfolding field_number is_size_of_symbol_field is_symbol
size_found q i l t = sym (any_at (λ f. (size f == q) && is_symbol f) all_fields i Gf2 (omega (arith, l, eighteen)) t)

pub size_missing : (q i : ℕ) → 18 ≤ i → ((k : ℕ) → k < i → has_size q k ≡ false) → false ≡ is_size_of_symbol_field q
unfolding field_number is_size_of_symbol_field is_symbol
size_missing q i l h = sym (any_nowhere (λ f. (size f == q) && is_symbol f) all_fields Gf2 (λ k m. h k (omega (arith, l, m, eighteen))))

pub size_positive : (f : FieldName) → 1 ≤ size f
size_positive f = zero_inside f

pub size_here : (q i s : ℕ) → i < 18 → s ≡ size (field_number i) → s ≡ q → s ≤ 16 → true ≡ is_size_of_symbol_field q
size_here q i s l e h m =
    let a : (size (field_number i) == q) ≡ true = eq-eqb (size (field_number i)) q (sym e ∙ h) in
    let b : nat_le (size (field_number i)) 16 ≡ true = le-leb (size (field_number i)) 16 (omega (arith, e, m)) in
    size_found q i l (rw (a, b) refl)

pub other_characteristic : (p d n r e Q : ℕ) → r ≢ p → false ≡ holds_root p d n r e Q
unfolding holds_root
other_characteristic p d n r e Q h = let a : (r == p) ≡ false = ne_eqb r p h in rw a refl

pub other_degree : (p d n r e Q : ℕ) → r ≡ p → e % d ≢ 0 → false ≡ holds_root p d n r e Q
unfolding holds_root
other_degree p d n r e Q h k =
    let a : (r == p) ≡ true = eq-eqb r p h in
    let b : (e % d == 0) ≡ false = ne_eqb (e % d) 0 k in
    rw (a, b) refl

pub by_order : (p d n r e Q : ℕ) → r ≡ p → e % d ≡ 0 → ((Q - 1) % n == 0) ≡ holds_root p d n r e Q
unfolding holds_root
by_order p d n r e Q h k =
    let a : (r == p) ≡ true = eq-eqb r p h in
    let b : (e % d == 0) ≡ true = eq-eqb (e % d) 0 k in
    rw (a, b) refl

pub ruleset locator_size_laws = (locator_found, locator_missing)

pub ruleset is_locator_laws = (other_characteristic, other_degree, by_order, degree_nonzero)

-- How results of constructors answer refusals.
--   refused_later                    the first refusal of a list whose first test fails
--   refuses_first, refuses_nothing   the result is the refusal; there is no refusal
--   refused_or_not                   both of these
--   refused_exactly                  an error other than NoMemory is the result exactly if it is the refusal
--   decided                          a test is another one that decides the same
--   elements_fit, fits_elements, elements_told      the test for elements of a field decides whether a word fits it
--   rows_fit_elements, rows_told     so does that for rows
--   long_length, short_length        no length is above 255, and each from 1 to 255 is one
--   common_of_fields, common_of_lengths, common_fine      the first refusal of two codes that should have one field and one length
--   product_least, product_most      the product of two lengths
use Rattle.std.proofs.Common.{◌≡◌, ℕ, ◌<◌, ◌≤◌, ◌*◌, zero, suc, nat_lt, Bool, true, false, List, ◌∷◌, slice_index, slice_index_or, Option, Some, None, is_none, Result, Ok, Err, is_ok, ◌≢◌, ◌↔◌, IsTrue, subst, refl, sym, ap, ◌∙◌, true≢false, All, ⊎_elim, arith}
use Rattle.std.proofs.Math.Nat.{suc-mul, mul-le-mul}
use Rattle.std.proofs.lemmas.Bool.{cases_Bool, le-leb, ne_eqb, eq-eqb}
use Rattle.std.proofs.lemmas.List.Sums.{AllPass-from_list_all, list_all-from_AllPass}
use Rattle.std.proofs.lemmas.List.{get_or_default}
use Rattle.std.proofs.lemmas.Bool.Decides.{Decides-ltb}
use Rattle.lc_algebra.specs.declared.FieldName.{FieldName}
use Rattle.lc_algebra.specs.Field.{size}
use Rattle.lc_algebra.specs.Word.{Fits}
use Rattle.lc_algebra.specs.Matrix.{Matrix}
use Rattle.lc_algebra.proofs.EmbeddingTests.{told_by_size}
use Rattle.std.specs.Result.{IsErrOf}
use Rattle.std.specs.List.{list_all}
use Rattle.lc_constructions.specs.declared.refusal.CodeRefusal.{CodeRefusal}
use Rattle.lc_constructions.specs.declared.refusal.CodeRefusal.TheVariants.{NoMemory, FieldsDiffer, LengthsDiffer}
use Rattle.lc_constructions.specs.Refusal.{refuse_if, first_refusal, IsRefusedAs, RefusesFirst}
use Rattle.lc_constructions.specs.Refusals.{are_elements, have_elements, fields_differ, lengths_differ, intersection_refusals}
use Rattle.lc_constructions.specs.Code.{is_length}

pub refused_later : (b : Bool) (r : CodeRefusal) (rs : List (Option CodeRefusal)) → b ≡ false → first_refusal (refuse_if b r ∷ rs) ≡ first_refusal rs
unfolding first_refusal refuse_if
refused_later b r rs h = rw h refl

pub refuses_first : {T : Type 0} (result : Result T CodeRefusal) (r : Option CodeRefusal) (e : CodeRefusal) → result ≡ Err e → r ≡ Some e → RefusesFirst result r
refuses_first result r e a s x h = let t : Some e ≡ Some x = sym s ∙ h in cc (t, a)

pub refuses_nothing : {T : Type 0} (result : Result T CodeRefusal) (r : Option CodeRefusal) → r ≡ None → RefusesFirst result r
refuses_nothing result r s e h = absurd (true≢false (ap is_none (sym s ∙ h)))

pub refused_exactly : {T : Type 0} (result : Result T CodeRefusal) (r : Option CodeRefusal) (e : CodeRefusal) → IsRefusedAs result r → RefusesFirst result r → e ≢ NoMemory → IsErrOf result e ↔ (r ≡ Some e)
refused_exactly (Ok x) r e h k n = ((λ q. absurd (true≢false (ap is_ok q))), k e)
refused_exactly (Err x) r e h k n = ((λ q. let t : x ≡ e = cc q in subst (λ y. r ≡ Some y) t (h (λ m. n (sym t ∙ m)))), k e)

pub decided : (b t : Bool) (X : Type 0) → (IsTrue b ↔ X) → (t ≡ true → X) → (X → t ≡ true) → b ≡ t
decided true t X h p q = sym (q (h.0 refl))
decided false true X h p q = absurd (true≢false (sym (h.1 (p refl))))
decided false false X h p q = refl

pub elements_fit : (f : FieldName) (xs : List ℕ) → are_elements f xs ≡ true → Fits f xs
unfolding are_elements
elements_fit f xs h i l = (Decides-ltb (slice_index xs i) (size f)).0 (AllPass-from_list_all (λ a. nat_lt a (size f)) xs h i 0 l)

pub fits_elements : (f : FieldName) (xs : List ℕ) → Fits f xs → are_elements f xs ≡ true
unfolding are_elements
fits_elements f xs h =
    list_all-from_AllPass (λ a. nat_lt a (size f)) xs (λ i e m.
    (Decides-ltb (slice_index_or xs i e) (size f)).1 (subst (λ a. a < size f) (get_or_default xs i 0 e m) (h i m)))

pub elements_told : (f : FieldName) (xs : List ℕ) (b : Bool) → IsTrue b ↔ Fits f xs → b ≡ are_elements f xs
elements_told f xs b h = decided b (are_elements f xs) (Fits f xs) h (elements_fit f xs) (fits_elements f xs)

pub ruleset refused_or_not = (refuses_first, refuses_nothing)

pub rows_fit_elements : (f : FieldName) (rows : List (List ℕ)) → All (Fits f) rows → have_elements f rows ≡ true
unfolding have_elements are_elements
rows_fit_elements f rows h =
    list_all-from_AllPass (list_all (λ a. nat_lt a (size f))) rows (λ k d l.
    list_all-from_AllPass (λ a. nat_lt a (size f)) (slice_index_or rows k d) (λ i e m.
    (Decides-ltb (slice_index_or (slice_index_or rows k d) i e) (size f)).1 (subst (λ a. a < size f) (get_or_default (slice_index_or rows k d) i 0 e m) (h k d l i m))))

pub long_length : (n : ℕ) → 255 < n → is_length n ≡ false
unfolding is_length
long_length n l = grind (arith, l)

elements_fit_rows : (f : FieldName) (rows : List (List ℕ)) → have_elements f rows ≡ true → All (Fits f) rows
unfolding have_elements are_elements
elements_fit_rows f rows h k d l i m =
    (Decides-ltb (slice_index (slice_index_or rows k d) i) (size f)).0
    (AllPass-from_list_all (λ a. nat_lt a (size f)) (slice_index_or rows k d) (AllPass-from_list_all (list_all (λ a. nat_lt a (size f))) rows h k d l) i 0 m)

pub rows_told : (f : FieldName) (rows : List (List ℕ)) (b : Bool) → IsTrue b ↔ All (Fits f) rows → have_elements f rows ≡ b
rows_told f rows b h =
    ⊎_elim
    (λ t. rows_fit_elements f rows (h.0 t) ∙ sym t)
    (λ t. ⊎_elim (λ s. absurd (true≢false (sym (h.1 (elements_fit_rows f rows s)) ∙ t))) (λ s. s ∙ sym t) (cases_Bool (have_elements f rows)))
    (cases_Bool b)

pub short_length : (n : ℕ) → 1 ≤ n → n ≤ 255 → is_length n ≡ true
unfolding is_length
short_length n a b = rw (le-leb 1 n a, le-leb n 255 b) refl

pub common_of_fields : (C D : Matrix) → size C.field ≢ size D.field → first_refusal (intersection_refusals C D) ≡ Some FieldsDiffer
unfolding first_refusal refuse_if fields_differ lengths_differ intersection_refusals
common_of_fields C D a = rw (ne_eqb (size C.field) (size D.field) a) refl

pub common_of_lengths : (C D : Matrix) → size C.field ≡ size D.field → C.columns ≢ D.columns → first_refusal (intersection_refusals C D) ≡ Some LengthsDiffer
unfolding first_refusal refuse_if fields_differ lengths_differ intersection_refusals
common_of_lengths C D a e = rw (eq-eqb (size C.field) (size D.field) a, ne_eqb C.columns D.columns e) refl

pub common_fine : (C D : Matrix) → size C.field ≡ size D.field → C.columns ≡ D.columns → first_refusal (intersection_refusals C D) ≡ None
unfolding first_refusal refuse_if fields_differ lengths_differ intersection_refusals
common_fine C D a e = rw (eq-eqb (size C.field) (size D.field) a, eq-eqb C.columns D.columns e) refl

pub product_least : (n m : ℕ) → 1 ≤ n → 1 ≤ m → 1 ≤ n * m
product_least (suc n) m a b = omega (arith, suc-mul n m, b)
product_least zero m a b = absurd (omega (arith, a))

pub product_most : (n m : ℕ) → n ≤ 255 → m ≤ 255 → n * m ≤ 65025
product_most n m a b = mul-le-mul a b

pub ruleset alike_or_refused = (told_by_size, common_of_fields, common_of_lengths, common_fine)

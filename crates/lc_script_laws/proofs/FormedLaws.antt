-- The codes that constructors make with an alternant form have it, if the constructor isn't refused.
--   bch_formed, solomon_formed, goppa_formed, alternant_formed      by constructor
use Rattle.std.proofs.Common.{◌≡◌, ℕ, ◌+◌, ◌<◌, ◌≤◌, Bool, true, false, nat_le, ◌==◌, List, [], ◌∷◌, length, find, slice_index, Option, None, Some, option_map, refl, sym, ◌∙◌, ⊎_elim, arith}
use Rattle.std.specs.Prelude.{IsTrue}
use Rattle.std.proofs.lemmas.Bool.{cases_lt, and_parts, and_from, leb-true, le-leb, eq-eqb}
use Rattle.lc_algebra.specs.declared.FieldName.{FieldName}
use Rattle.lc_algebra.specs.Field.{size, is_symbol}
use Rattle.lc_algebra.specs.Polynomial.{value_at, trimmed}
use Rattle.lc_algebra.specs.Embedding.{is_subfield}
use Rattle.lc_algebra.specs.Span.{below}
use Rattle.lc_algebra.specs.Matrix.{Matrix}
use Rattle.lc_algebra.proofs.EmbeddingLaws.{decides_subfield}
use Rattle.lc_algebra.proofs.FieldTests.{above_one}
use Rattle.lc_algebra.proofs.OrderLaws.{order_of_element}
use Rattle.lc_algebra.proofs.SpanLaws.{below_contains}
use Rattle.lc_constructions.specs.declared.refusal.CodeRefusal.{CodeRefusal}
use Rattle.lc_constructions.specs.declared.refusal.CodeRefusal.TheVariants.{RootAt}
use Rattle.lc_constructions.specs.Code.{longest, is_length, IsCode}
use Rattle.lc_constructions.specs.Cyclic.{locator_field, IsBchWord, IsReedSolomonWord}
use Rattle.lc_constructions.specs.Alternant.{AlternantForm, IsFormOf, IsAlternantWord, IsGoppaWord, goppa_form, bch_form}
use Rattle.lc_constructions.specs.Refusal.{first_refusal}
use Rattle.lc_constructions.specs.Refusals.{are_elements, too_large, bad_length, bad_argument, not_subfield, root_at, bch_refusals, goppa_refusals, alternant_refusals}
use Rattle.lc_constructions.proofs.AlternantLaws.{form_of_code}
use Rattle.lc_constructions.proofs.FormLaws.{bch_form_of, reed_solomon_form_of}
use Rattle.lc_constructions.proofs.LocatorLaws.{locator_is}
use Rattle.lc_constructions.proofs.NearestLaws.{goppa_form_is_the_code}
use Rattle.lc_constructions.proofs.RefusalLaws.{elements_fit}
use Rattle.lc_constructions.proofs.WithoutLaws.{not_not}
use Rattle.lc_code.proofs.CodeLaws.{same_code}
use Rattle.lc_code.proofs.CoordinateSteps.{small_size}
use Rattle.lc_goppa.proofs.FormLaws.{none_before, passes, none_found, distinct_points, form_from_refusals}
use Rattle.lc_goppa.proofs.GoppaLaws.{goppa_fine}
use Rattle.lc_language.specs.Refusal.{first_of, from_codes}

unrefused : (rs : List (Option CodeRefusal)) → first_of (from_codes rs) ≡ None → first_refusal rs ≡ None
unfolding first_of from_codes first_refusal
unrefused [] e = refl
unrefused (None ∷ rs) e = unrefused rs e
unrefused (Some r ∷ rs) e = absurd (let f = e in cc)

-- ---- BCH and Reed-Solomon codes

bch_fine : (f : FieldName) (n d : ℕ) → first_refusal (bch_refusals f n d) ≡ None → (is_symbol f ≡ true) × (is_length n ≡ true)
unfolding bch_refusals too_large bad_length
bch_fine f n d e =
    let one = none_before _ _ e in
    let two = none_before _ _ one.1 in
    (not_not (is_symbol f) (passes _ _ one.0), not_not (is_length n) (passes _ _ two.0))

positive : (n : ℕ) → is_length n ≡ true → 1 ≤ n
unfolding is_length
positive n e = leb-true 1 n (and_parts (nat_le 1 n) (nat_le n longest) e).0

pub bch_formed : (f K : FieldName) (n b d : ℕ) (C : Matrix) → first_of (from_codes (bch_refusals f n d)) ≡ None → locator_field f n ≡ Some K → IsCode f n (IsBchWord f K n b d) C → IsFormOf C (bch_form K n b d)
bch_formed f K n b d C e found code =
    let (symbol, long) = bch_fine f n d (unrefused (bch_refusals f n d) e) in
    let l = positive n long in
    let locator = (locator_is f n K l).0 found in
    bch_form_of f K n b d C symbol locator.subfield long (order_of_element K locator.order.0 n locator.order.1) code

pub solomon_formed : (f : FieldName) (n d : ℕ) (C : Matrix) → size f ≡ n + 1 → IsTrue (is_symbol f) → IsCode f n (IsReedSolomonWord f d) C → IsFormOf C (bch_form f n 1 d)
unfolding is_length
solomon_formed f n d C e symbol code =
    let some : 1 ≤ n = omega (arith, above_one f, e) in
    let most : n ≤ longest = omega (arith, small_size f symbol, e) in
    reed_solomon_form_of f n d C symbol e (and_from (nat_le 1 n) (nat_le n longest) (le-leb 1 n some) (le-leb n longest most)) code

-- ---- Goppa and alternant codes

no_root : (o : Option ℕ) → option_map (λ i. RootAt i) o ≡ None → o ≡ None
no_root None e = refl
no_root (Some i) e = absurd (let f = e in cc)

nonzero_at : (K : FieldName) (g points : List ℕ) → root_at K g points ≡ None → (i : ℕ) → i < length points → 0 < value_at K g (slice_index points i)
unfolding root_at
nonzero_at K g points e i l =
    let test : ℕ → Bool = λ i. value_at K g (slice_index points i) == 0 in
    let fails : (value_at K g (slice_index points i) == 0) ≡ false = none_found test (below (length points)) i (no_root (find test (below (length points))) e) (below_contains (length points) i l) in
    ⊎_elim
    (λ (m : 0 < value_at K g (slice_index points i)). m)
    (λ (m : value_at K g (slice_index points i) ≤ 0). absurd (let q = sym (eq-eqb (value_at K g (slice_index points i)) 0 (omega (arith, m))) ∙ fails in cc))
    (cases_lt 0 (value_at K g (slice_index points i)))

pub goppa_formed : (f K : FieldName) (g points : List ℕ) (C : Matrix) → first_of (from_codes (goppa_refusals f K g points)) ≡ None → IsCode f (length points) (IsGoppaWord f K (trimmed g) points) C → IsFormOf C (goppa_form K (trimmed g) points)
unfolding goppa_refusals too_large not_subfield bad_length bad_argument goppa_form
goppa_formed f K g points C e code =
    let one = none_before _ _ (unrefused (goppa_refusals f K g points) e) in
    let two = none_before _ _ one.1 in
    let three = none_before _ _ two.1 in
    let four = none_before _ _ three.1 in
    let five = none_before _ _ four.1 in
    let six = none_before _ _ five.1 in
    let seven = none_before _ _ six.1 in
    let form = goppa_form K (trimmed g) points in
    let fine =
    goppa_fine f K g points
    (not_not (is_symbol f) (passes _ _ one.0))
    ((decides_subfield f K).0 (not_not (is_subfield f K) (passes _ _ two.0)))
    (not_not (is_length (length points)) (passes _ _ three.0))
    (elements_fit K points (not_not (are_elements K points) (passes _ _ five.0)))
    (distinct_points points six.0)
    (nonzero_at K g points seven.0) in
    form_of_code f form C fine (same_code f (length points) (IsGoppaWord f K (trimmed g) points) (IsAlternantWord f form) C (λ w m. goppa_form_is_the_code f K (trimmed g) points w) code)

pub alternant_formed : (f K : FieldName) (r : ℕ) (points multipliers : List ℕ) (C : Matrix) (form : AlternantForm) → form ≡ record { locator = K; points = points; multipliers = multipliers; r = r } → first_of (from_codes (alternant_refusals f K r points multipliers)) ≡ None → IsCode f (length points) (IsAlternantWord f form) C → IsFormOf C form
unfolding alternant_refusals
alternant_formed f K r points multipliers C form same e code =
    rw same (form_of_code f (record { locator = K; points = points; multipliers = multipliers; r = r }) C (form_from_refusals f K _ points multipliers r (unrefused (alternant_refusals f K r points multipliers) e)) (rw (← same) code))

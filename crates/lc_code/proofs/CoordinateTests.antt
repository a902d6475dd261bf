-- The powers of the primitive element are a basis of each locator field over each symbol field in it, by evaluation.
--   expand K im g cs       the sum of c_i g^i, where im lists what stands for the elements of the small field
--   expand_is              it is the value of the polynomial of the elements
--   covers, only_zero      what is tested: each element is such a sum, and 0 only with coefficients 0
--   fits_digits            digits in base q are elements
--   degree_positive        the degree of a locator field is at least 1
--   element_covered        each element has coordinates
--   zero_coordinates       0 has none but zeros
use Rattle.std.proofs.Common.{◌≡◌, ℕ, zero, suc, ◌/◌, ◌<◌, Bool, true, not, ◌%◌, nat_lt, ◌==◌, ◌&&◌, ◌||◌, List, [], ◌∷◌, map, length, slice_index, refl, sym, ap, ◌∙◌, arith}
use Rattle.std.specs.Prelude.{IsTrue}
use Rattle.std.specs.List.{list_any, list_all}
use Rattle.std.proofs.Math.Nat.{mod-lt}
use Rattle.std.proofs.lemmas.Bool.{and_parts, ltb-true, eqb-true, eq-eqb}
use Rattle.lc_algebra.specs.declared.FieldName.{FieldName}
use Rattle.lc_algebra.specs.Residue.{digits, number, plus, minus, times, top, up, times_x, product}
use Rattle.lc_algebra.specs.Field.{shape, shape_of, size, is_symbol, coefficients, add, mul}
use Rattle.lc_algebra.specs.Polynomial.{value_at}
use Rattle.lc_algebra.specs.Embedding.{embed, IsSubfield, is_subfield}
use Rattle.lc_algebra.specs.Word.{Fits, IsWord, zero_word}
use Rattle.lc_algebra.specs.Span.{below}
use Rattle.lc_algebra.proofs.EmbeddingTests.{found_from, found_root, found_is_root, images, image_at}
use Rattle.lc_algebra.proofs.EmbeddingLaws.{decides_subfield}
use Rattle.lc_algebra.proofs.WordLaws.{fits_head, fits_tail, fits_cons}
use Rattle.lc_algebra.proofs.FieldLaws.{zero_inside}
use Rattle.lc_algebra.proofs.SpanLaws.{contains_map, below_contains, contains_below}
use Rattle.lc_algebra.proofs.SpanSearch.{any_contains}
use Rattle.lc_constructions.specs.Basic.{all_lists}
use Rattle.lc_constructions.specs.Cyclic.{all_fields}
use Rattle.lc_constructions.proofs.LocatorLaws.{each_field}
use Rattle.lc_constructions.proofs.ExpansionLaws.{each_list, passes}
use Rattle.lc_code.specs.Coordinates.{relative_degree, element_of}

unfoldable expand : FieldName → List ℕ → ℕ → List ℕ → ℕ
expand K im g [] = 0
expand K im g (c ∷ cs) = add K (slice_index im c) (mul K g (expand K im g cs))

unfoldable covers : ℕ → List ℕ → Bool
covers n values = list_all (λ a. list_any (λ v. a == v) values) (below n)

unfoldable only_zero : FieldName → List ℕ → ℕ → List (List ℕ) → Bool
only_zero K im g us = list_all (λ cs. not (expand K im g cs == 0) || list_all (λ c. c == 0) cs) us

unfoldable basis_test : FieldName → FieldName → List ℕ → ℕ → Bool
basis_test f K im s = nat_lt 0 s && (covers (size K) (map (λ t. expand K im (shape_of K).primitive (digits (size f) s t)) (below (size K))) && only_zero K im (shape_of K).primitive (all_lists (size f) s))

unfoldable pair_test : FieldName → FieldName → Bool
pair_test K f = not (is_symbol f && is_subfield f K) || basis_test f K (images f K (found_root f K) 0 (size f)) (relative_degree f K)

all_pass : list_all (λ K. list_all (pair_test K) all_fields) all_fields ≡ true
unfolding digits number plus minus times top up times_x product shape shape_of size is_symbol coefficients add mul value_at found_from found_root images is_subfield below all_lists all_fields relative_degree expand covers only_zero basis_test pair_test
all_pass = refl

expand_is : (f K : FieldName) (g : ℕ) (cs : List ℕ) → Fits f cs → expand K (images f K (found_root f K) 0 (size f)) g cs ≡ value_at K (map (embed f K) cs) g
unfolding expand value_at embed
expand_is f K g [] h = refl
expand_is f K g (c ∷ cs) h =
    cc (image_at f K (found_root f K) c (fits_head f c cs h), found_is_root f K, expand_is f K g cs (fits_tail f c cs h))

pub fits_digits : (f : FieldName) (n t : ℕ) → Fits f (digits (size f) n t)
unfolding digits
fits_digits f zero t = λ i l. absurd (omega (arith, l))
fits_digits f (suc n) t = fits_cons f (t % size f) (digits (size f) n (t / size f)) (mod-lt t (zero_inside f)) (fits_digits f n (t / size f))

abbrev table : FieldName → FieldName → List ℕ
table f K = images f K (found_root f K) 0 (size f)

passed : (f K : FieldName) → IsTrue (is_symbol f) → IsSubfield f K → basis_test f K (table f K) (relative_degree f K) ≡ true
unfolding pair_test
passed f K s t =
    let h : (not (is_symbol f && is_subfield f K) || basis_test f K (table f K) (relative_degree f K)) ≡ true = passes (pair_test K) all_fields f (passes (λ K. list_all (pair_test K) all_fields) all_fields K all_pass (each_field K)) (each_field f) in
    let e : is_subfield f K ≡ true = (decides_subfield f K).1 t in
    rw (s, e) at h

parts : (f K : FieldName) → IsTrue (is_symbol f) → IsSubfield f K → (0 < relative_degree f K) × (covers (size K) (map (λ t. expand K (table f K) (shape_of K).primitive (digits (size f) (relative_degree f K) t)) (below (size K))) ≡ true) × (only_zero K (table f K) (shape_of K).primitive (all_lists (size f) (relative_degree f K)) ≡ true)
unfolding basis_test
parts f K s t =
    let c = covers (size K) (map (λ t. expand K (table f K) (shape_of K).primitive (digits (size f) (relative_degree f K) t)) (below (size K))) in
    let z = only_zero K (table f K) (shape_of K).primitive (all_lists (size f) (relative_degree f K)) in
    let h = and_parts (nat_lt 0 (relative_degree f K)) (c && z) (passed f K s t) in
    let k = and_parts c z h.1 in
    (ltb-true 0 (relative_degree f K) h.0, k.0, k.1)

pub degree_positive : (f K : FieldName) → IsTrue (is_symbol f) → IsSubfield f K → 0 < relative_degree f K
degree_positive f K s t = (parts f K s t).0

pub element_covered : (f K : FieldName) (a : ℕ) → IsTrue (is_symbol f) → IsSubfield f K → a < size K → (t : ℕ) × (t < size K) × (element_of f K t ≡ a)
unfolding covers element_of
element_covered f K a s t l =
    let n = relative_degree f K in
    let h : ℕ → ℕ = λ t. expand K (table f K) (shape_of K).primitive (digits (size f) n t) in
    let p = passes (λ a. list_any (λ v. a == v) (map h (below (size K)))) (below (size K)) a (parts f K s t).1 (below_contains (size K) a l) in
    let (v, c, e) = any_contains (λ v. a == v) (map h (below (size K))) p in
    let (k, d, q) = contains_map h (below (size K)) v c in
    (k, contains_below (size K) k d, sym (expand_is f K (shape_of K).primitive (digits (size f) n k) (fits_digits f n k)) ∙ sym q ∙ sym (eqb-true a v e))

zeros_told : (cs : List ℕ) → list_all (λ c. c == 0) cs ≡ true → cs ≡ zero_word (length cs)
zeros_told [] h = refl
zeros_told (c ∷ cs) h =
    let t = and_parts (c == 0) (list_all (λ c. c == 0) cs) h in
    cc (eqb-true c 0 t.0, zeros_told cs t.1)

pub zero_coordinates : (f K : FieldName) (cs : List ℕ) → IsTrue (is_symbol f) → IsSubfield f K → IsWord f (relative_degree f K) cs → value_at K (map (embed f K) cs) (shape_of K).primitive ≡ 0 → cs ≡ zero_word (relative_degree f K)
unfolding only_zero
zero_coordinates f K cs s t w e =
    let us = all_lists (size f) (relative_degree f K) in
    let h : (not (expand K (table f K) (shape_of K).primitive cs == 0) || list_all (λ c. c == 0) cs) ≡ true =
    passes (λ cs. not (expand K (table f K) (shape_of K).primitive cs == 0) || list_all (λ c. c == 0) cs) us cs (parts f K s t).2 (each_list f (relative_degree f K) cs w) in
    let z : (expand K (table f K) (shape_of K).primitive cs == 0) ≡ true = eq-eqb (expand K (table f K) (shape_of K).primitive cs) 0 (expand_is f K (shape_of K).primitive cs w.fits ∙ e) in
    zeros_told cs (rw z at h) ∙ ap zero_word w.long

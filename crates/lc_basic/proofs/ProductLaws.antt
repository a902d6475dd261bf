-- The rows of a Reed-Muller code, variable by variable.
--   times_none, times_more, times_made, times_next, times_first      the values times no variable, and times one variable more
--   products_none, products_constant, products_more, products_both      no variable left, no factor left, and one variable less
--   variables_below               the variables from 0 on
--   products_whole, products_rows      the products of the value list of 1 are the rows of the code
--   monomials_rows                they are words
--   binary_rows, binary_code      over the field of two elements
--   long_power, short_power       when 2^m is a length
--   reed_muller_long, reed_muller_high, reed_muller_fine      the first refusal
use Rattle.std.proofs.Common.{◌≡◌, ℕ, zero, suc, ◌+◌, ◌-◌, ◌/◌, ◌%◌, ◌^◌, ◌<◌, ◌≤◌, ◌==◌, ◌&&◌, Bool, true, false, Some, None, nat_lt, if◌then◌else◌, List, [], ◌∷◌, ◌++◌, map, length, slice_index, slice_index_or, refl, sym, ap, subst, ◌∙◌, arith, add-zero}
use Rattle.std.specs.List.{list_all}
use Rattle.std.proofs.Math.Nat.{one-le-pow, pow-le-pow_right}
use Rattle.std.proofs.lemmas.List.{map-append, append_assoc, length-map, ext_get_or, get_or-map}
use Rattle.std.proofs.lemmas.Simd.{map-map}
use Rattle.std.proofs.lemmas.List.Elements.{All-map}
use Rattle.lc_algebra.specs.declared.FieldName.{FieldName}
use Rattle.lc_algebra.specs.declared.FieldName.TheVariants.{Gf2}
use Rattle.lc_algebra.specs.Field.{shape, shape_of, size}
use Rattle.lc_algebra.specs.Word.{IsWord}
use Rattle.lc_algebra.specs.Span.{below}
use Rattle.lc_algebra.specs.Matrix.{Matrix, AreRows}
use Rattle.lc_algebra.proofs.EmbeddingTests.{two_elements, has_two_elements, binary_symbols}
use Rattle.lc_algebra.proofs.SpanLaws.{length_below, index_below}
use Rattle.lc_algebra.proofs.CommonLaws.{small_bit}
use Rattle.lc_constructions.specs.Code.{IsCode}
use Rattle.lc_constructions.specs.Basic.{GeneratedBy, subsets, monomial, reed_muller_rows}
use Rattle.lc_constructions.specs.declared.refusal.CodeRefusal.TheVariants.{BadLength, BadArgument}
use Rattle.lc_constructions.specs.Code.{is_length}
use Rattle.lc_constructions.specs.Refusal.{refuse_if, first_refusal}
use Rattle.lc_constructions.specs.Refusals.{bad_length, bad_argument, reed_muller_refusals}
use Rattle.lc_basic.specs.Column.{points}
use Rattle.lc_basic.specs.Product.{variables, times_all, times_part, products}
use Rattle.lc_basic.proofs.FamilyLaws.{ones, length_ones, index_ones}
use Rattle.lc_basic.proofs.ColumnLaws.{map_below, map_inside, map_more, points_more}

length_times : (values vs : List ℕ) → length (times_all values vs) ≡ length values
unfolding times_all
length_times values vs = length-map (below (length values)) (λ place. if list_all (λ v. place / 2 ^ v % 2 == 1) vs then slice_index values place else 0) ∙ length_below (length values)

index_times : (values vs : List ℕ) (i : ℕ) → i < length values → slice_index (times_all values vs) i ≡ (if list_all (λ v. i / 2 ^ v % 2 == 1) vs then slice_index values i else 0)
unfolding times_all
index_times values vs i l =
    get_or-map (λ place. if list_all (λ v. place / 2 ^ v % 2 == 1) vs then slice_index values place else 0) (below (length values)) i 0 0 (omega (arith, l, length_below (length values))) ∙ ap (λ place. if list_all (λ v. place / 2 ^ v % 2 == 1) vs then slice_index values place else 0) (index_below (length values) i 0 l)

times_none : (values : List ℕ) → times_all values [] ≡ values
times_none values =
    ext_get_or 0 (times_all values []) values (length_times values []) (λ i l. index_times values [] i (omega (arith, l, length_times values [])))

-- a factor more, as one test more
one_factor : (a b : Bool) (x : ℕ) → (if b then (if a && true then x else 0) else 0) ≡ (if a && b then x else 0)
one_factor true true x = refl
one_factor true false x = refl
one_factor false true x = refl
one_factor false false x = refl

pub times_more : (values vs : List ℕ) (v : ℕ) → times_all (times_all values (v ∷ [])) vs ≡ times_all values (v ∷ vs)
times_more values vs v =
    let u = times_all values (v ∷ []) in
    let e : length u ≡ length values = length_times values (v ∷ []) in
    ext_get_or 0 (times_all u vs) (times_all values (v ∷ vs)) (length_times u vs ∙ e ∙ sym (length_times values (v ∷ vs))) (λ i l.
    let m : i < length values = omega (arith, l, length_times u vs, e) in
    let n : i < length u = omega (arith, m, e) in
    index_times u vs i n ∙ ap (λ x. if list_all (λ w. i / 2 ^ w % 2 == 1) vs then x else 0) (index_times values (v ∷ []) i m) ∙ one_factor (i / 2 ^ v % 2 == 1) (list_all (λ w. i / 2 ^ w % 2 == 1) vs) (slice_index values i) ∙ sym (index_times values (v ∷ vs) i m))

one_test : (a : Bool) (x : ℕ) → (if a then x else 0) ≡ (if a && true then x else 0)
one_test true x = refl
one_test false x = refl

-- what a factor makes, symbol by symbol
pub times_made : (values new : List ℕ) (v unit n : ℕ) → unit ≡ 2 ^ v → n ≡ length values → new ≡ times_part values unit n → new ≡ times_all values (v ∷ [])
unfolding times_all times_part
times_made values new v unit n e l a =
    a ∙ ap (times_part values unit) l ∙ ap (λ k. times_part values k (length values)) e ∙ map_below (λ place. if place / 2 ^ v % 2 == 1 then slice_index values place else 0) (λ place. if list_all (λ w. place / 2 ^ w % 2 == 1) (v ∷ []) then slice_index values place else 0) (length values) (λ place m. one_test (place / 2 ^ v % 2 == 1) (slice_index values place))

pub times_next : (values now new : List ℕ) (unit n a : ℕ) → now ≡ times_part values unit n → a ≡ (if n / unit % 2 == 1 then slice_index values n else 0) → new ≡ now ++ a ∷ [] → new ≡ times_part values unit (n + 1)
unfolding times_part
times_next values now new unit n a e h s =
    s ∙ cc (e, h) ∙ sym (map_more (λ place. if place / unit % 2 == 1 then slice_index values place else 0) n)

pub times_first : (values : List ℕ) (unit : ℕ) → [] ≡ times_part values unit 0
unfolding times_part below
times_first values unit = refl

pub products_none : (values : List ℕ) (v r : ℕ) → products values v 0 r ≡ values ∷ []
unfolding products variables subsets
products_none values v r = ap (λ u. u ∷ []) (times_none values)

pub products_constant : (values : List ℕ) (v left : ℕ) → products values v left 0 ≡ values ∷ []
unfolding products variables subsets
products_constant values v zero = ap (λ u. u ∷ []) (times_none values)
products_constant values v (suc left) = ap (λ u. u ∷ []) (times_none values)

map_same : {X Y : Type 0} (h g : X → Y) (xs : List X) → ((x : X) → h x ≡ g x) → map h xs ≡ map g xs
map_same h g [] e = refl
map_same h g (x ∷ xs) e = cc (e x, map_same h g xs e)

products_step : (values : List ℕ) (v left r : ℕ) → products values v (suc left) (suc r) ≡ products (times_all values (v ∷ [])) (suc v) left r ++ products values (suc v) left (suc r)
unfolding products variables subsets
products_step values v left r =
    let s = subsets (variables (suc v) left) r in
    let t = subsets (variables (suc v) left) (suc r) in
    let e : map (times_all values) (map (λ u. v ∷ u) s) ≡ map (times_all (times_all values (v ∷ []))) s = map-map (times_all values) (λ u. v ∷ u) s ∙ map_same (λ u. times_all values (v ∷ u)) (times_all (times_all values (v ∷ []))) s (λ u. sym (times_more values u v)) in
    map-append (times_all values) (map (λ u. v ∷ u) s) t ∙ ap (λ u. u ++ map (times_all values) t) e

pub products_more : (values new : List ℕ) (v left r : ℕ) → 0 < left → 0 < r → new ≡ times_all values (v ∷ []) → products values v left r ≡ products new (v + 1) (left - 1) (r - 1) ++ products values (v + 1) (left - 1) r
products_more values new v left r l k e =
    let a : suc (left - 1) ≡ left = omega (arith, l) in
    let b : suc (r - 1) ≡ r = omega (arith, k) in
    let c : suc v ≡ v + 1 = omega arith in
    let s : products values v (suc (left - 1)) (suc (r - 1)) ≡ products (times_all values (v ∷ [])) (suc v) (left - 1) (r - 1) ++ products values (suc v) (left - 1) (suc (r - 1)) = products_step values v (left - 1) (r - 1) in
    let t : products values v left r ≡ products (times_all values (v ∷ [])) (suc v) (left - 1) (r - 1) ++ products values (suc v) (left - 1) r = subst (λ n. products values v left n ≡ products (times_all values (v ∷ [])) (suc v) (left - 1) (r - 1) ++ products values (suc v) (left - 1) n) b (subst (λ n. products values v n (suc (r - 1)) ≡ products (times_all values (v ∷ [])) (suc v) (left - 1) (r - 1) ++ products values (suc v) (left - 1) (suc (r - 1))) a s) in
    t ∙ ap (λ w. products (times_all values (v ∷ [])) w (left - 1) (r - 1) ++ products values w (left - 1) r) c ∙ ap (λ u. products u (v + 1) (left - 1) (r - 1) ++ products values (v + 1) (left - 1) r) (sym e)

pub products_both : (values new : List ℕ) (v left r : ℕ) (old mid last : List (List ℕ)) → 0 < left → 0 < r → new ≡ times_all values (v ∷ []) → mid ≡ old ++ products new (v + 1) (left - 1) (r - 1) → last ≡ mid ++ products values (v + 1) (left - 1) r → last ≡ old ++ products values v left r
products_both values new v left r old mid last l k e a b =
    b ∙ ap (λ u. u ++ products values (v + 1) (left - 1) r) a ∙ append_assoc old (products new (v + 1) (left - 1) (r - 1)) (products values (v + 1) (left - 1) r) ∙ ap (λ u. old ++ u) (sym (products_more values new v left r l k e))

variables_last : (v left : ℕ) → variables v (suc left) ≡ variables v left ++ (v + left) ∷ []
unfolding variables
variables_last v zero = ap (λ k. k ∷ []) (sym (add-zero v))
variables_last v (suc left) =
    let e : suc v + left ≡ v + suc left = omega arith in
    ap (λ u. v ∷ u) (variables_last (suc v) left) ∙ ap (λ k. v ∷ variables (suc v) left ++ k ∷ []) e

pub variables_below : (m : ℕ) → variables 0 m ≡ below m
unfolding below variables
variables_below zero = refl
variables_below (suc m) =
    let e : 0 + m ≡ m = omega arith in
    variables_last 0 m ∙ ap (λ k. variables 0 m ++ k ∷ []) e ∙ ap (λ u. u ++ m ∷ []) (variables_below m)

times_ones : (m : ℕ) (vs : List ℕ) → times_all (ones (2 ^ m)) vs ≡ monomial m vs
unfolding times_all monomial
times_ones m vs =
    ap (λ n. map (λ place. if list_all (λ v. place / 2 ^ v % 2 == 1) vs then slice_index (ones (2 ^ m)) place else 0) (below n)) (length_ones (2 ^ m)) ∙ map_below (λ place. if list_all (λ v. place / 2 ^ v % 2 == 1) vs then slice_index (ones (2 ^ m)) place else 0) (λ place. if list_all (λ v. place / 2 ^ v % 2 == 1) vs then 1 else 0) (2 ^ m) (λ place l. ap (λ x. if list_all (λ v. place / 2 ^ v % 2 == 1) vs then x else 0) (index_ones (2 ^ m) place l))

products_whole : (m r n : ℕ) (values : List ℕ) → n ≡ 2 ^ m → values ≡ ones n → products values 0 m r ≡ reed_muller_rows r m
unfolding products reed_muller_rows
products_whole m r n values a b =
    ap (λ u. map (times_all u) (subsets (variables 0 m) r)) (b ∙ ap ones a) ∙ ap (λ vs. map (times_all (ones (2 ^ m))) (subsets vs r)) (variables_below m) ∙ map_same (times_all (ones (2 ^ m))) (monomial m) (subsets (below m) r) (times_ones m)

pub products_rows : (m r n : ℕ) (values : List ℕ) (old rows : List (List ℕ)) → n ≡ 2 ^ m → values ≡ ones n → old ≡ [] → rows ≡ old ++ products values 0 m r → rows ≡ reed_muller_rows r m
products_rows m r n values old rows a b c e = e ∙ ap (λ u. u ++ products values 0 m r) c ∙ products_whole m r n values a b

monomial_word : (m : ℕ) (vs : List ℕ) → IsWord Gf2 (2 ^ m) (monomial m vs)
unfolding monomial size shape shape_of
monomial_word m vs = record {
  long = length-map (below (2 ^ m)) (λ place. if list_all (λ v. place / 2 ^ v % 2 == 1) vs then 1 else 0) ∙ length_below (2 ^ m);
  fits = λ i l. map_inside 2 (λ place. if list_all (λ v. place / 2 ^ v % 2 == 1) vs then 1 else 0) (below (2 ^ m)) (omega arith) (λ place. small_bit (list_all (λ v. place / 2 ^ v % 2 == 1) vs)) i;
}

pub monomials_rows : (r m : ℕ) → AreRows Gf2 (2 ^ m) (reed_muller_rows r m)
unfolding reed_muller_rows
monomials_rows r m = All-map (IsWord Gf2 (2 ^ m)) (monomial m) (subsets (below m) r) (λ k d l. monomial_word m (slice_index_or (subsets (below m) r) k d))

pub binary_rows : (f : FieldName) (n r m : ℕ) (rows : List (List ℕ)) → f ≡ Gf2 → n ≡ 2 ^ m → rows ≡ reed_muller_rows r m → AreRows f n rows
binary_rows f n r m rows a b c =
    subst (λ g. AreRows g n rows) (sym a) (subst (λ k. AreRows Gf2 k rows) (sym b) (subst (AreRows Gf2 (2 ^ m)) (sym c) (monomials_rows r m)))

pub binary_code : (f : FieldName) (n r m : ℕ) (rows : List (List ℕ)) (C : Matrix) → f ≡ Gf2 → n ≡ 2 ^ m → rows ≡ reed_muller_rows r m → IsCode f n (GeneratedBy f n rows) C → IsCode Gf2 (2 ^ m) (GeneratedBy Gf2 (2 ^ m) (reed_muller_rows r m)) C
binary_code f n r m rows C a b c h =
    subst (λ u. IsCode Gf2 (2 ^ m) (GeneratedBy Gf2 (2 ^ m) u) C) c (subst (λ k. IsCode Gf2 k (GeneratedBy Gf2 k rows) C) b (subst (λ g. IsCode g n (GeneratedBy g n rows) C) a h))

pub few_points : (v : ℕ) → v ≤ 8 → points 2 v ≤ 255
unfolding points
few_points v l = omega (arith, points_more 2 v 8 l)

long_power : (m : ℕ) → 7 < m → is_length (2 ^ m) ≡ false
unfolding is_length
long_power m l =
    let a : 2 ^ 8 ≤ 2 ^ m = pow-le-pow_right (omega arith) l in
    grind (arith, a)

pub short_power : (m : ℕ) → m ≤ 7 → 2 ^ m ≤ 128
short_power m l = pow-le-pow_right (omega arith) l

short_length : (m : ℕ) → m ≤ 7 → is_length (2 ^ m) ≡ true
unfolding is_length
short_length m l =
    let a : 2 ^ m ≤ 128 = short_power m l in
    let b : 1 ≤ 2 ^ m = one-le-pow m 2 (omega arith) in
    grind (arith, a, b)

pub reed_muller_long : (r m : ℕ) → 7 < m → first_refusal (reed_muller_refusals r m) ≡ Some BadLength
unfolding first_refusal refuse_if bad_length bad_argument reed_muller_refusals
reed_muller_long r m l = rw (long_power m l) refl

pub reed_muller_high : (r m : ℕ) → m ≤ 7 → nat_lt m r ≡ true → first_refusal (reed_muller_refusals r m) ≡ Some (BadArgument 1)
unfolding first_refusal refuse_if bad_length bad_argument reed_muller_refusals
reed_muller_high r m l e = rw (short_length m l, e) refl

pub reed_muller_fine : (r m : ℕ) → m ≤ 7 → nat_lt m r ≡ false → first_refusal (reed_muller_refusals r m) ≡ None
unfolding first_refusal refuse_if bad_length bad_argument reed_muller_refusals
reed_muller_fine r m l e = rw (short_length m l, e) refl

pub ruleset check_reed_muller_laws = (reed_muller_long, reed_muller_high, reed_muller_fine)

pub ruleset code_of_products_laws = (binary_symbols, binary_rows, binary_code)

pub ruleset binary_laws = (two_elements, has_two_elements)

pub ruleset places_laws = (few_points, short_power)

pub ruleset add_products_laws = (products_none, products_constant)

pub ruleset times_variable_laws = (times_first, times_next, times_made)

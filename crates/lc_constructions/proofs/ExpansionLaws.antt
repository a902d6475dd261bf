-- Each element of a symbol field is written over a smaller one in one way.
--   each_list, word_of_list      the list of all lists of s elements has exactly the words of s symbols
--   same_from_distinct     a map with distinct values takes equal values at equal entries alone
--   expansion_test         of each field over each: the values are distinct and cover the field
--   expansion_once, expansion_exists      so each element has one expansion
use Rattle.std.proofs.Common.{◌≡◌, ℕ, zero, suc, ◌<◌, Bool, true, false, not, ◌==◌, ◌&&◌, ◌||◌, List, [], ◌∷◌, map, Option, Some, None, Contains, refl, sym, ap, subst, ◌∙◌, ⊎_elim, arith, true≢false}
use Rattle.std.specs.Prelude.{IsTrue}
use Rattle.std.specs.List.{list_any, list_all}
use Rattle.std.proofs.lemmas.Bool.{and_parts, eqb-true, eq-eqb}
use Rattle.std.proofs.lemmas.List.Elements.{All-contains}
use Rattle.std.proofs.lemmas.List.Sums.{AllPass-from_list_all}
use Rattle.lc_algebra.specs.declared.FieldName.{FieldName}
use Rattle.lc_algebra.specs.Residue.{digits, number, plus, minus, times, top, up, times_x, product}
use Rattle.lc_algebra.specs.Field.{shape, shape_of, size, is_symbol, coefficients, add, mul}
use Rattle.lc_algebra.specs.Polynomial.{value_at}
use Rattle.lc_algebra.specs.Embedding.{first_from, first_that, root, embed}
use Rattle.lc_algebra.specs.Word.{IsWord}
use Rattle.lc_algebra.specs.Span.{below}
use Rattle.lc_algebra.proofs.WordLaws.{word_head, word_tail, word_cons, IsWord_zero}
use Rattle.lc_algebra.proofs.SpanLaws.{contains_cases, map_contains, flat_map_contains, below_contains, contains_map, contains_flat_map, contains_below}
use Rattle.lc_algebra.proofs.SpanSearch.{any_contains, contains_any}
use Rattle.lc_constructions.specs.Basic.{all_lists}
use Rattle.lc_constructions.specs.Cyclic.{all_fields}
use Rattle.lc_constructions.specs.Refusals.{degree_over}
use Rattle.lc_constructions.specs.Concatenated.{IsExpansion}
use Rattle.lc_constructions.proofs.LocatorLaws.{each_field}

pub each_list : (f : FieldName) (s : ℕ) (cs : List ℕ) → IsWord f s cs → Contains (all_lists (size f) s) cs
unfolding all_lists
each_list f zero [] w = (0, omega arith, refl)
each_list f zero (c ∷ cs) w = absurd (omega (arith, w.long))
each_list f (suc s) [] w = absurd (omega (arith, w.long))
each_list f (suc s) (c ∷ cs) w =
    flat_map_contains (λ c. map (λ u. c ∷ u) (all_lists (size f) s)) (below (size f)) c (c ∷ cs) (below_contains (size f) c (word_head f (suc s) c cs w))
    (map_contains (λ u. c ∷ u) (all_lists (size f) s) cs (each_list f s cs (word_tail f s c cs w)))

pub word_of_list : (f : FieldName) (s : ℕ) (cs : List ℕ) → Contains (all_lists (size f) s) cs → IsWord f s cs
unfolding all_lists
word_of_list f zero cs c = ⊎_elim (λ e. subst (IsWord f 0) e (IsWord_zero f 0)) (λ k. absurd (omega (arith, k.1))) (contains_cases [] cs [] c)
word_of_list f (suc s) cs c =
    let (a, m, k) = contains_flat_map (λ c. map (λ u. c ∷ u) (all_lists (size f) s)) (below (size f)) cs c in
    let (u, i, e) = contains_map (λ u. a ∷ u) (all_lists (size f) s) cs k in
    subst (IsWord f (suc s)) (sym e) (word_cons f s a u (contains_below (size f) a m) (word_of_list f s u i))

unfoldable all_distinct : List ℕ → Bool
all_distinct [] = true
all_distinct (x ∷ xs) = not (list_any (λ y. x == y) xs) && all_distinct xs

pub not_true : (b : Bool) → not b ≡ true → b ≡ false
not_true true h = absurd (true≢false (sym h))
not_true false h = refl

not_later : (h : List ℕ → ℕ) (x : List ℕ) (xs : List (List ℕ)) (y : List ℕ) → all_distinct (map h (x ∷ xs)) ≡ true → Contains xs y → h x ≡ h y → ⊥
unfolding all_distinct
not_later h x xs y d c e =
    let t = and_parts (not (list_any (λ y. h x == y) (map h xs))) (all_distinct (map h xs)) d in
    true≢false (sym (contains_any (λ y. h x == y) (map h xs) (h y) (map_contains h xs y c) (eq-eqb (h x) (h y) e)) ∙ not_true (list_any (λ y. h x == y) (map h xs)) t.0)

distinct_rest : (x : ℕ) (xs : List ℕ) → all_distinct (x ∷ xs) ≡ true → all_distinct xs ≡ true
unfolding all_distinct
distinct_rest x xs d = (and_parts (not (list_any (λ y. x == y) xs)) (all_distinct xs) d).1

same_from_distinct : (h : List ℕ → ℕ) (xs : List (List ℕ)) (x y : List ℕ) → all_distinct (map h xs) ≡ true → Contains xs x → Contains xs y → h x ≡ h y → x ≡ y
same_from_distinct h [] x y d a b e = absurd (omega (arith, a.1))
same_from_distinct h (z ∷ xs) x y d a b e =
    ⊎_elim
    (λ p. ⊎_elim
    (λ q. sym p ∙ q)
    (λ k. absurd (not_later h z xs y d k (ap h p ∙ e)))
    (contains_cases z y xs b))
    (λ k. ⊎_elim
    (λ q. absurd (not_later h z xs x d k (ap h q ∙ sym e)))
    (λ m. same_from_distinct h xs x y (distinct_rest (h z) (map h xs) d) k m e)
    (contains_cases z y xs b))
    (contains_cases z x xs a)

unfoldable value_of : FieldName → FieldName → List ℕ → ℕ
value_of small large cs = value_at large (map (embed small large) cs) (shape_of large).primitive

unfoldable degree_test : FieldName → FieldName → Option ℕ → Bool
degree_test small large None = true
degree_test small large (Some s) = all_distinct (map (value_of small large) (all_lists (size small) s)) && list_all (λ a. list_any (λ cs. a == value_of small large cs) (all_lists (size small) s)) (below (size large))

unfoldable expansion_test : FieldName → FieldName → Bool
expansion_test large small = not (is_symbol large) || degree_test small large (degree_over (size small) (size large))

all_pass : list_all (λ large. list_all (expansion_test large) all_fields) all_fields ≡ true
unfolding digits number plus minus times top up times_x product shape shape_of size is_symbol coefficients add mul value_at first_from first_that root embed below all_lists all_fields degree_over all_distinct value_of degree_test expansion_test
all_pass = refl

pub passes : {X : Type 0} (p : X → Bool) (xs : List X) (x : X) → list_all p xs ≡ true → Contains xs x → p x ≡ true
passes p xs x h c = All-contains (λ y. p y ≡ true) xs x (AllPass-from_list_all p xs h) c

tested : (b c : Bool) → IsTrue b → (not b || c) ≡ true → c ≡ true
tested true c t h = h
tested false c t h = absurd (true≢false (sym t))

passed : (small large : FieldName) (s : ℕ) → IsTrue (is_symbol large) → degree_over (size small) (size large) ≡ Some s → degree_test small large (Some s) ≡ true
unfolding expansion_test
passed small large s t e =
    let h : (not (is_symbol large) || degree_test small large (degree_over (size small) (size large))) ≡ true = passes (expansion_test large) all_fields small (passes (λ large. list_all (expansion_test large) all_fields) all_fields large all_pass (each_field large)) (each_field small) in
    subst (λ o. degree_test small large o ≡ true) e (tested (is_symbol large) (degree_test small large (degree_over (size small) (size large))) t h)

pub expansion_once : (small large : FieldName) (s a : ℕ) (cs ds : List ℕ) → IsTrue (is_symbol large) → degree_over (size small) (size large) ≡ Some s → IsWord small s cs → IsWord small s ds → IsExpansion small large a cs → IsExpansion small large a ds → cs ≡ ds
unfolding degree_test value_of
expansion_once small large s a cs ds t e u v p q =
    let us = all_lists (size small) s in
    let h = and_parts (all_distinct (map (value_of small large) us)) (list_all (λ a. list_any (λ cs. a == value_of small large cs) us) (below (size large))) (passed small large s t e) in
    same_from_distinct (value_of small large) us cs ds h.0 (each_list small s cs u) (each_list small s ds v) (sym p ∙ q)

pub expansion_exists : (small large : FieldName) (s a : ℕ) → IsTrue (is_symbol large) → degree_over (size small) (size large) ≡ Some s → a < size large → (cs : List ℕ) × IsWord small s cs × IsExpansion small large a cs
unfolding degree_test value_of
expansion_exists small large s a t e l =
    let us = all_lists (size small) s in
    let h = and_parts (all_distinct (map (value_of small large) us)) (list_all (λ a. list_any (λ cs. a == value_of small large cs) us) (below (size large))) (passed small large s t e) in
    let (cs, c, k) = any_contains (λ cs. a == value_of small large cs) us (passes (λ a. list_any (λ cs. a == value_of small large cs) us) (below (size large)) a h.1 (below_contains (size large) a l)) in
    (cs, word_of_list small s cs c, eqb-true a (value_of small large cs) k)

pub ruleset expansion_is_unique_laws = (expansion_once, expansion_exists)

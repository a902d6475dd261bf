-- A nonzero word of a code that no set has seen is at least as heavy as the levels of the sets say.
--   coefficients_are_symbols    the coefficients of a word over a systematic matrix are its symbols on the basis
--   some_symbol                 a nonzero word has a nonzero symbol on the basis
--   above_level                 an unseen word has more nonzero symbols there than the level
--   has_symbol                  whether a word has a nonzero symbol at a column
--   count_cons                  counting over a list with one more entry
--   weight_restrict             the weight of a restriction counts the nonzero symbols
--   CountsPart, counts_part     counting over some different entries of a list, and over the whole list
--   above_on_fresh              how many nonzero symbols an unseen word has on the fresh columns of a set
--   all_fresh, sum_on_fresh     and on those of all sets
--   Apart, later_apart, pairs_tail      no column is fresh in two sets
--   distinct_fresh              so the fresh columns of all sets are different
--   restrict_all, weight_by_places      the weight of a word counts its nonzero symbols over all columns
--   place_inside                a column of a basis is a column of the code
--   fresh_at_most               a word has at most its weight in nonzero symbols on all fresh columns
--   unseen_weight, unseen_whole      the bound; and no word is unseen if some level is k
use Rattle.std.proofs.Common.{◌≡◌, ◌≢◌, ℕ, suc, ◌+◌, ◌-◌, ◌<◌, ◌≤◌, Bool, not, cond, ◌==◌, if◌then◌else◌, List, [], ◌∷◌, ◌++◌, length, flat_map, slice_index, slice_index_or, count_by, All, AllPairs, Contains, IsPermutation, remove, refl, sym, ap, subst, ◌∙◌, ⊎_elim, arith}
use Rattle.std.proofs.lemmas.List.{ext_get_or, get_or_default, get_or_past}
use Rattle.std.proofs.lemmas.List.Concat.{flat_map-cons}
use Rattle.std.proofs.lemmas.Bool.{cases_lt, eq-eqb}
use Rattle.std.proofs.lemmas.List.Elements.{All-head, All-tail, All-weaker, All-contains}
use Rattle.std.proofs.lemmas.List.Sums.{sum_by-cons, sum_by-append, count_by-le-length}
use Rattle.std.proofs.lemmas.List.Sorted.{IsPermutation-remove, Contains-permutation, sum_by-IsPermutation}
use Rattle.std.proofs.lemmas.List.Edits.{length-remove}
use Rattle.lc_algebra.specs.declared.FieldName.{FieldName}
use Rattle.lc_algebra.specs.Word.{IsWord, zero_word, weight}
use Rattle.lc_algebra.specs.Span.{combine, below, InSpan}
use Rattle.lc_algebra.specs.Matrix.{AreRows, IsIdentityOn}
use Rattle.lc_algebra.specs.SpanLaws.{restrict}
use Rattle.lc_algebra.proofs.WordLaws.{zero_from_weight, weight_zero_word, weight_at_most_length, weight_cons, index_zero_word}
use Rattle.lc_algebra.proofs.SpanLaws.{contains_head, contains_tail, contains_cases, contains_flat_map, below_contains, length_below, combination_of_word, span_zero, span_word, index_below}
use Rattle.lc_algebra.proofs.ColumnLaws.{length_restrict, index_restrict}
use Rattle.lc_algebra.proofs.DimensionLaws.{AreDistinct, distinct_append, distinct_from_pairs}
use Rattle.lc_algebra.proofs.ReducedLaws.{symbol_of_combination, told_by_places}
use Rattle.lc_enumeration.specs.Search.{bound_sum}
use Rattle.lc_enumeration.proofs.GreedyLaws.{each_contained}
use Rattle.lc_infoset.specs.Bound.{LevelSet, IsLevelSet, AreLevelSets, IsUnseen, set_bound}

pub coefficients_are_symbols : (f : FieldName) (n : ℕ) (set : List ℕ) (rows : List (List ℕ)) (c : List ℕ) → AreRows f n rows → length rows ≡ length set → IsIdentityOn set rows → InSpan f n rows c → IsWord f (length rows) (restrict set c) × (c ≡ combine f n (restrict set c) rows)
coefficients_are_symbols f n set rows c r e d h =
    let a = combination_of_word f n rows c h in
    let same : restrict set c ≡ a.0 = ext_get_or 0 (restrict set c) a.0 (length_restrict set c ∙ sym e ∙ sym a.1.long) (λ i l.
    let m : i < length set = omega (arith, l, length_restrict set c) in
    index_restrict set c i m ∙ ap (λ w. slice_index w (slice_index set i)) a.2 ∙ symbol_of_combination f n set rows a.0 i r e d a.1 m) in
    (subst (IsWord f (length rows)) (sym same) a.1, a.2 ∙ ap (λ x. combine f n x rows) (sym same))

pub some_symbol : (f : FieldName) (n : ℕ) (set : List ℕ) (rows : List (List ℕ)) (c : List ℕ) → AreRows f n rows → length rows ≡ length set → IsIdentityOn set rows → InSpan f n rows c → 0 < weight c → 0 < weight (restrict set c)
some_symbol f n set rows c r e d h p =
    ⊎_elim
    (λ l. l)
    (λ l.
    let nothing : restrict set c ≡ zero_word (length set) = zero_from_weight (length set) (restrict set c) (length_restrict set c) (omega (arith, l)) in
    let none : c ≡ zero_word n = told_by_places f n set rows c (zero_word n) r e d h (span_zero f n rows r) (λ i m. sym (index_restrict set c i m) ∙ ap (λ w. slice_index w i) nothing ∙ index_zero_word (length set) i ∙ sym (index_zero_word n (slice_index set i))) in
    absurd (omega (arith, p, ap weight none, weight_zero_word n)))
    (cases_lt 0 (weight (restrict set c)))

pub above_level : (f : FieldName) (n k : ℕ) (rows : List (List ℕ)) (s : LevelSet) (c : List ℕ) → IsLevelSet f n k rows s → InSpan f n rows c → 0 < weight c → IsUnseen f n c s → s.level < weight (restrict s.basis c)
above_level f n k rows s c h i p u =
    let sy = h.systematic in
    let j = (sy.same c).0 i in
    let a = coefficients_are_symbols f n s.basis s.matrix c sy.words sy.count sy.identity j in
    let some = some_symbol f n s.basis s.matrix c sy.words sy.count sy.identity j p in
    ⊎_elim (λ l. l) (λ l. absurd (u (restrict s.basis c) a.0 some (omega (arith, l)) a.1)) (cases_lt s.level (weight (restrict s.basis c)))

abbrev pub has_symbol : List ℕ → ℕ → Bool
has_symbol c p = not (slice_index c p == 0)

pub count_cons : {X : Type 0} (p : X → Bool) (x : X) (xs : List X) → count_by p (x ∷ xs) ≡ cond (p x) 1 0 + count_by p xs
count_cons p x xs = sum_by-cons (λ y. cond (p y) 1 0) x xs

pub weight_restrict : (set c : List ℕ) → weight (restrict set c) ≡ count_by (has_symbol c) set
weight_restrict [] c = refl
weight_restrict (p ∷ set) c = weight_cons (slice_index c p) (restrict set c) ∙ ap (λ m. cond (has_symbol c p) 1 0 + m) (weight_restrict set c) ∙ sym (count_cons (has_symbol c) p set)

pub record CountsPart {X : Type 0} (p : X → Bool) (xs ys : List X) : Type 0 where
  pub few : count_by p xs ≤ count_by p ys
  pub many : count_by p ys + length xs ≤ count_by p xs + length ys

pub counts_part : {X : Type 0} (p : X → Bool) (xs ys : List X) → AreDistinct xs → ((x : X) → Contains xs x → Contains ys x) → CountsPart p xs ys
counts_part p [] ys a h = record { few = omega arith; many = omega (arith, count_by-le-length p ys) }
counts_part p (x ∷ xs) ys a h =
    let c = h x (contains_head x xs) in
    let q : IsPermutation ys (x ∷ remove ys c.0) = IsPermutation-remove ys c.0 x c.1 (sym c.2) in
    let t = counts_part p xs (remove ys c.0) a.1 (λ y d. ⊎_elim (λ e. absurd (a.0 (subst (Contains xs) (sym e) d))) (λ s. s) (contains_cases x y (remove ys c.0) (Contains-permutation ys (x ∷ remove ys c.0) y q (h y (contains_tail x y xs d))))) in
    let whole : count_by p (x ∷ remove ys c.0) ≡ count_by p ys = sum_by-IsPermutation (λ y. cond (p y) 1 0) ys (x ∷ remove ys c.0) q in
    let left = count_cons p x (remove ys c.0) in
    let right = count_cons p x xs in
    let f = t.few in
    let m = t.many in
    let l = length-remove ys c.0 c.1 in
    record { few = omega (arith, whole, left, right, f); many = omega (arith, whole, left, right, m, l, c.1) }

pub above_on_fresh : (f : FieldName) (n k : ℕ) (rows : List (List ℕ)) (s : LevelSet) (c : List ℕ) → IsLevelSet f n k rows s → InSpan f n rows c → 0 < weight c → IsUnseen f n c s → (s.level + 1) - (k - length s.fresh) ≤ count_by (has_symbol c) s.fresh
above_on_fresh f n k rows s c h i p u =
    let above = above_level f n k rows s c h i p u in
    let counts = counts_part (has_symbol c) s.fresh s.basis (distinct_from_pairs s.fresh h.once) (λ x l. All-contains (Contains s.basis) s.fresh x h.part l) in
    let m = counts.many in
    omega (arith, above, m, weight_restrict s.basis c, h.many)

abbrev pub all_fresh : List LevelSet → List ℕ
all_fresh sets = flat_map (λ s. s.fresh) sets

pub sum_on_fresh : (k : ℕ) (sets : List LevelSet) (c : List ℕ) → All (λ s. (s.level + 1) - (k - length s.fresh) ≤ count_by (has_symbol c) s.fresh) sets → set_bound k sets ≤ count_by (has_symbol c) (all_fresh sets)
unfolding bound_sum
sum_on_fresh k [] c h = omega arith
sum_on_fresh k (s ∷ sets) c h =
    let P : LevelSet → Type 0 = λ t. (t.level + 1) - (k - length t.fresh) ≤ count_by (has_symbol c) t.fresh in
    let here = All-head P s sets h in
    let there = sum_on_fresh k sets c (All-tail P s sets h) in
    let both : count_by (has_symbol c) (s.fresh ++ all_fresh sets) ≡ count_by (has_symbol c) s.fresh + count_by (has_symbol c) (all_fresh sets) = sum_by-append (λ y. cond (has_symbol c y) 1 0) s.fresh (all_fresh sets) in
    rw (flat_map-cons (λ (t : LevelSet). t.fresh) s sets) (omega (arith, here, there, both))

abbrev pub Apart : LevelSet → LevelSet → Type 0
Apart one other = (column : ℕ) → Contains one.fresh column → ¬ Contains other.fresh column

pub later_apart : (s : LevelSet) (sets : List LevelSet) → AllPairs Apart (s ∷ sets) → (t : LevelSet) → Contains sets t → Apart s t
later_apart s sets h t l = subst (Apart s) l.2 (h 0 (suc l.0) t (omega arith) (omega (arith, l.1)))

pub pairs_tail : {X : Type 0} (R : X → X → Type 0) (x : X) (xs : List X) → AllPairs R (x ∷ xs) → AllPairs R xs
pairs_tail R x xs h i j d l m = h (suc i) (suc j) d (omega (arith, l)) (omega (arith, m))

pub distinct_fresh : (sets : List LevelSet) → All (λ s. AreDistinct s.fresh) sets → AllPairs Apart sets → AreDistinct (all_fresh sets)
distinct_fresh [] each apart = tt
distinct_fresh (s ∷ sets) each apart =
    distinct_append s.fresh (all_fresh sets) (All-head (λ t. AreDistinct t.fresh) s sets each)
    (distinct_fresh sets (All-tail (λ t. AreDistinct t.fresh) s sets each) (pairs_tail Apart s sets apart))
    (λ x c d. let t = contains_flat_map (λ (r : LevelSet). r.fresh) sets x d in later_apart s sets apart t.0 t.1 x c t.2)

pub restrict_all : (n : ℕ) (c : List ℕ) → length c ≡ n → restrict (below n) c ≡ c
restrict_all n c e =
    ext_get_or 0 (restrict (below n) c) c (length_restrict (below n) c ∙ length_below n ∙ sym e) (λ i l.
    let m : i < length (below n) = omega (arith, l, length_restrict (below n) c) in
    index_restrict (below n) c i m ∙ ap (slice_index c) (index_below n i 0 (omega (arith, m, length_below n))))

pub weight_by_places : (n : ℕ) (c : List ℕ) → length c ≡ n → weight c ≡ count_by (has_symbol c) (below n)
weight_by_places n c e = ap weight (sym (restrict_all n c e)) ∙ weight_restrict (below n) c

pub place_inside : (f : FieldName) (n : ℕ) (set : List ℕ) (rows : List (List ℕ)) (p : ℕ) → AreRows f n rows → length rows ≡ length set → IsIdentityOn set rows → Contains set p → p < n
place_inside f n set rows p r e d l =
    let j = l.0 in
    let row = slice_index_or rows j [] in
    let inside : j < length rows = omega (arith, l.1, e) in
    let one : slice_index row (slice_index set j) ≡ 1 = d j j inside l.1 ∙ ap (λ b. if b then 1 else 0) (eq-eqb j j refl) in
    let place : slice_index set j ≡ p = get_or_default set j 0 p l.1 ∙ l.2 in
    let one_here : slice_index row p ≡ 1 = subst (λ x. slice_index row x ≡ 1) place one in
    let long : length row ≡ n = (r j [] inside).long in
    ⊎_elim (λ m. m) (λ m. absurd (omega (arith, one_here, get_or_past row p 0 (omega (arith, m, long))))) (cases_lt p n)

pub fresh_at_most : (f : FieldName) (n k : ℕ) (rows : List (List ℕ)) (sets : List LevelSet) (c : List ℕ) → AreLevelSets f n k rows sets → length c ≡ n → count_by (has_symbol c) (all_fresh sets) ≤ weight c
fresh_at_most f n k rows sets c h e =
    let distinct = distinct_fresh sets (All-weaker (IsLevelSet f n k rows) (λ s. AreDistinct s.fresh) (λ s i. distinct_from_pairs s.fresh i.once) sets h.each) h.apart in
    let counts = counts_part (has_symbol c) (all_fresh sets) (below n) distinct (λ x l.
    let t = contains_flat_map (λ (s : LevelSet). s.fresh) sets x l in
    let i : IsLevelSet f n k rows t.0 = All-contains (IsLevelSet f n k rows) sets t.0 h.each t.1 in
    below_contains n x (place_inside f n t.0.basis t.0.matrix x i.systematic.words i.systematic.count i.systematic.identity (All-contains (Contains t.0.basis) t.0.fresh x i.part t.2))) in
    let few = counts.few in
    omega (arith, few, weight_by_places n c e)

pub unseen_weight : (f : FieldName) (n k : ℕ) (rows : List (List ℕ)) (sets : List LevelSet) (c : List ℕ) → AreRows f n rows → AreLevelSets f n k rows sets → InSpan f n rows c → 0 < weight c → All (IsUnseen f n c) sets → set_bound k sets ≤ weight c
unseen_weight f n k rows sets c r h i p u =
    let sum = sum_on_fresh k sets c (each_contained (λ s. (s.level + 1) - (k - length s.fresh) ≤ count_by (has_symbol c) s.fresh) sets (λ s l. above_on_fresh f n k rows s c (All-contains (IsLevelSet f n k rows) sets s h.each l) i p (All-contains (IsUnseen f n c) sets s u l))) in
    let most = fresh_at_most f n k rows sets c h (span_word f n rows c r i).long in
    omega (arith, sum, most)

pub unseen_whole : (f : FieldName) (n k : ℕ) (rows : List (List ℕ)) (sets : List LevelSet) (c : List ℕ) → AreLevelSets f n k rows sets → InSpan f n rows c → 0 < weight c → All (IsUnseen f n c) sets → (s : LevelSet) → Contains sets s → k ≤ s.level → ⊥
unseen_whole f n k rows sets c h i p u s l m =
    let is = All-contains (IsLevelSet f n k rows) sets s h.each l in
    let above = above_level f n k rows s c is i p (All-contains (IsUnseen f n c) sets s u l) in
    omega (arith, m, above, weight_at_most_length (restrict s.basis c), length_restrict s.basis c, is.many)

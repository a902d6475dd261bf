-- The fresh columns of the information sets, and the sets of a search with the levels that it has seen.
--   Passed, filter_passes       a member of what a filter keeps
--   distinct_filter             a filter keeps entries different
--   IsSetAfter, next_is         the fresh columns of a next set are in its basis, each once, and aren't used
--   AreApart, AreSetsAfter, after_fewer, one_more_set, sets_after_are, information_sets_are      those of all sets, of which no
--                               two share a fresh column
--   level_set, search_sets      the information sets of a code with the levels that lie wholly below l
--   map_below                   a map over the indexes of a list is one over the list
--   sets_are, count_is, set_listed      the sets of a code
--   level_set_is, at_index, search_sets_are      they are level sets
--   search_bound                their bound is that of the search
use Rattle.std.proofs.Common.{◌≡◌, ◌≢◌, ℕ, zero, suc, ◌*◌, ◌<◌, Bool, true, false, not, cond, nat_le, List, [], ◌∷◌, ◌++◌, length, map, filter, slice_index_or, All, AllPairs, Contains, refl, sym, ap, subst, ◌∙◌, ⊎_elim, arith}
use Rattle.std.proofs.lemmas.List.{ext_get_or, length-map, get_or-map}
use Rattle.std.proofs.lemmas.Bool.{cases_Bool, false≢true}
use Rattle.std.proofs.lemmas.List.Elements.{All-nil, All-cons, All-weaker, All-contains, Contains-get_or, Contains-append_left, Contains-append_right}
use Rattle.std.proofs.lemmas.List.Kept.{AllPairs-cons}
use Rattle.std.proofs.lemmas.Simd.{map-map}
use Rattle.lc_algebra.specs.declared.FieldName.{FieldName}
use Rattle.lc_algebra.specs.Span.{below}
use Rattle.lc_algebra.specs.Matrix.{Matrix}
use Rattle.lc_algebra.proofs.SpanLaws.{contains_head, contains_tail, contains_cases, length_below, index_below}
use Rattle.lc_algebra.proofs.DimensionLaws.{AreDistinct, distinct_below, pairs_from_distinct}
use Rattle.lc_algebra.proofs.DivisorLaws.{no_member}
use Rattle.lc_enumeration.specs.InformationSet.{InformationSet, is_member, first_basis, with_fresh, next_set, sets_after, information_sets}
use Rattle.lc_enumeration.specs.Search.{bound_sum, sets_of, set_count, ranks_of, generator_at, level_below, levels_below}
use Rattle.lc_enumeration.proofs.MemberLaws.{member_true}
use Rattle.lc_enumeration.proofs.GreedyLaws.{each_contained}
use Rattle.lc_infoset.specs.Bound.{LevelSet, IsLevelSet, AreLevelSets, set_bound, set_at, AreGenerators}

pub record Passed {X : Type 0} (p : X → Bool) (xs : List X) (x : X) : Type 0 where
  pub member : Contains xs x
  pub passes : p x ≡ true

pub filter_passes : {X : Type 0} (p : X → Bool) (xs : List X) (x : X) → Contains (filter p xs) x → Passed p xs x
filter_passes p [] x l = absurd (no_member x l)
filter_passes {X} p (y ∷ xs) x l =
    ⊎_elim
    (λ t. ⊎_elim
    (λ e. record { member = subst (Contains (y ∷ xs)) e (contains_head y xs); passes = ap p (sym e) ∙ t })
    (λ r. let s = filter_passes p xs x r in record { member = contains_tail y x xs s.member; passes = s.passes })
    (contains_cases y x (filter p xs) (subst (λ (b : Bool). Contains (cond b (y ∷ filter p xs) (filter p xs)) x) t l)))
    (λ t. let s = filter_passes p xs x (subst (λ (b : Bool). Contains (cond b (y ∷ filter p xs) (filter p xs)) x) t l) in record { member = contains_tail y x xs s.member; passes = s.passes })
    (cases_Bool (p y))

pub distinct_filter : {X : Type 0} (p : X → Bool) (xs : List X) → AreDistinct xs → AreDistinct (filter p xs)
distinct_filter p [] h = tt
distinct_filter {X} p (y ∷ xs) h =
    let goal = λ (b : Bool). AreDistinct (cond b (y ∷ filter p xs) (filter p xs)) in
    let rest = distinct_filter p xs h.1 in
    ⊎_elim
    (λ t. subst goal (sym t) ((λ c. h.0 (filter_passes p xs y c).member), rest))
    (λ t. subst goal (sym t) rest)
    (cases_Bool (p y))

pub record IsSetAfter (used : List ℕ) (s : InformationSet) : Type 0 where
  pub part : All (Contains s.basis) s.fresh
  pub once : AllPairs (λ a b. a ≢ b) s.fresh
  pub unused : (c : ℕ) → Contains s.fresh c → Contains used c → ⊥

not_true : (b : Bool) → not b ≡ true → b ≡ true → ⊥
not_true true h e = false≢true h
not_true false h e = false≢true e

pub next_is : (f : FieldName) (n : ℕ) (rows : List (List ℕ)) (used : List ℕ) → IsSetAfter used (next_set f n rows used)
unfolding next_set with_fresh first_basis
next_is f n rows used =
    let set = next_set f n rows used in
    record {
      part = each_contained (Contains set.basis) set.fresh (λ c l. (filter_passes (λ d. not (is_member used d)) set.basis c l).member);
      once = pairs_from_distinct set.fresh (distinct_filter (λ d. not (is_member used d)) set.basis (distinct_filter _ (below n) (distinct_below n)));
      unused = λ c l u. not_true (is_member used c) (filter_passes (λ d. not (is_member used d)) set.basis c l).passes (member_true used c u);
    }

abbrev pub AreApart : InformationSet → InformationSet → Type 0
AreApart one other = (column : ℕ) → Contains one.fresh column → ¬ Contains other.fresh column

pub record AreSetsAfter (used : List ℕ) (sets : List InformationSet) : Type 0 where
  pub each : All (IsSetAfter used) sets
  pub apart : AllPairs AreApart sets

no_pairs : {X : Type 0} (R : X → X → Type 0) → AllPairs R []
no_pairs R i j d l m = absurd (omega (arith, m))

-- what is after more columns is after these
pub after_fewer : (used more : List ℕ) (s : InformationSet) → IsSetAfter (used ++ more) s → IsSetAfter used s
after_fewer used more s h = record { part = h.part; once = h.once; unused = λ c l u. h.unused c l (Contains-append_left used more c u) }

pub one_more_set : (used : List ℕ) (s : InformationSet) (sets : List InformationSet) → IsSetAfter used s → AreSetsAfter (used ++ s.fresh) sets → AreSetsAfter used (s ∷ sets)
one_more_set used s sets h rest = record {
  each = All-cons (IsSetAfter used) s sets h (All-weaker (IsSetAfter (used ++ s.fresh)) (IsSetAfter used) (after_fewer used s.fresh) sets rest.each);
  apart = AllPairs-cons AreApart s sets (each_contained (AreApart s) sets (λ t l c one other. (All-contains (IsSetAfter (used ++ s.fresh)) sets t rest.each l).unused c other (Contains-append_right used s.fresh c one))) rest.apart;
}

pub sets_after_are : (f : FieldName) (n : ℕ) (rows : List (List ℕ)) (most : ℕ) (used : List ℕ) → AreSetsAfter used (sets_after f n rows used most)
unfolding sets_after
sets_after_are f n rows zero used = record { each = All-nil (IsSetAfter used); apart = no_pairs AreApart }
sets_after_are f n rows (suc most) used =
    let s = next_set f n rows used in
    let goal = λ (b : Bool). AreSetsAfter used (cond b (s ∷ sets_after f n rows (used ++ s.fresh) most) []) in
    ⊎_elim
    (λ t. subst goal (sym t) (one_more_set used s (sets_after f n rows (used ++ s.fresh) most) (next_is f n rows used) (sets_after_are f n rows most (used ++ s.fresh))))
    (λ t. subst goal (sym t) (record { each = All-nil (IsSetAfter used); apart = no_pairs AreApart }))
    (cases_Bool (nat_le (length rows) (2 * length s.fresh)))

pub information_sets_are : (f : FieldName) (n : ℕ) (rows : List (List ℕ)) → AreSetsAfter [] (information_sets f n rows)
unfolding information_sets
information_sets_are f n rows = one_more_set [] (next_set f n rows []) (sets_after f n rows (next_set f n rows []).fresh n) (next_is f n rows []) (sets_after_are f n rows n (next_set f n rows []).fresh)

abbrev pub level_set : Matrix → ℕ → ℕ → LevelSet
level_set C l j = record { basis = (set_at C j).basis; fresh = (set_at C j).fresh; matrix = generator_at C j; level = level_below C l j }

abbrev pub search_sets : Matrix → ℕ → List LevelSet
search_sets C l = map (level_set C l) (below (set_count C))

pub map_below : {X Y : Type 0} (h : X → Y) (xs : List X) (d : X) → map (λ j. h (slice_index_or xs j d)) (below (length xs)) ≡ map h xs
map_below {Y = Y} h xs d =
    ext_get_or (h d) (map (λ j. h (slice_index_or xs j d)) (below (length xs))) (map h xs)
    (length-map (below (length xs)) (λ j. h (slice_index_or xs j d)) ∙ length_below (length xs) ∙ sym (length-map xs h))
    (λ i l.
    let m : i < length xs = omega (arith, l, length-map (below (length xs)) (λ j. h (slice_index_or xs j d)), length_below (length xs)) in
    get_or-map (λ j. h (slice_index_or xs j d)) (below (length xs)) i 0 (h d) (omega (arith, m, length_below (length xs)))
    ∙ ap (λ j. h (slice_index_or xs j d)) (index_below (length xs) i 0 m)
    ∙ sym (get_or-map h xs i d (h d) m))

pub sets_are : (C : Matrix) → AreSetsAfter [] (sets_of C)
unfolding sets_of
sets_are C = information_sets_are C.field C.columns C.rows

pub count_is : (C : Matrix) → set_count C ≡ length (sets_of C)
unfolding set_count
count_is C = refl

pub ranks_are : (C : Matrix) → ranks_of C ≡ map (λ (s : InformationSet). length s.fresh) (sets_of C)
unfolding ranks_of
ranks_are C = refl

pub levels_are : (C : Matrix) (l : ℕ) → levels_below C l ≡ map (level_below C l) (below (set_count C))
unfolding levels_below
levels_are C l = refl

pub set_listed : (C : Matrix) (j : ℕ) → j < set_count C → Contains (sets_of C) (set_at C j)
set_listed C j l = Contains-get_or (sets_of C) j (record { basis = []; fresh = [] }) (omega (arith, l, count_is C))

pub level_set_is : (C : Matrix) (l j : ℕ) → AreGenerators C → j < set_count C → IsLevelSet C.field C.columns (length C.rows) C.rows (level_set C l j)
level_set_is C l j g inside =
    let s : IsSetAfter [] (set_at C j) = All-contains (IsSetAfter []) (sets_of C) (set_at C j) (sets_are C).each (set_listed C j inside) in
    record { many = (g j inside).0; systematic = (g j inside).1; part = s.part; once = s.once }

-- two of the list of level sets at two indexes
pub at_index : (C : Matrix) (l i : ℕ) (d : LevelSet) → i < length (search_sets C l) → (i < set_count C) × (slice_index_or (search_sets C l) i d ≡ level_set C l i)
at_index C l i d m =
    let inside : i < set_count C = omega (arith, m, length-map (below (set_count C)) (level_set C l), length_below (set_count C)) in
    (inside, get_or-map (level_set C l) (below (set_count C)) i 0 d (omega (arith, inside, length_below (set_count C))) ∙ ap (level_set C l) (index_below (set_count C) i 0 inside))

pub search_sets_are : (C : Matrix) (l : ℕ) → AreGenerators C → AreLevelSets C.field C.columns (length C.rows) C.rows (search_sets C l)
search_sets_are C l g = record {
  each = λ i d m. let t = at_index C l i d m in subst (IsLevelSet C.field C.columns (length C.rows) C.rows) (sym t.1) (level_set_is C l i g t.0);
  apart = λ i j d less m.
      let a = at_index C l i d (omega (arith, less, m)) in
      let b = at_index C l j d m in
      let apart : AreApart (set_at C i) (set_at C j) = (sets_are C).apart i j (record { basis = []; fresh = [] }) less (omega (arith, b.0, count_is C)) in
      rw (a.1, b.1) apart;
}

pub search_bound : (C : Matrix) (l : ℕ) → set_bound (length C.rows) (search_sets C l) ≡ bound_sum (length C.rows) (ranks_of C) (levels_below C l)
search_bound C l =
    let k = length C.rows in
    let levels : map (λ (s : LevelSet). s.level) (search_sets C l) ≡ levels_below C l = map-map (λ (s : LevelSet). s.level) (level_set C l) (below (set_count C)) ∙ sym (levels_are C l) in
    let ranks : map (λ (s : LevelSet). length s.fresh) (search_sets C l) ≡ ranks_of C = map-map (λ (s : LevelSet). length s.fresh) (level_set C l) (below (set_count C)) ∙ ap (λ n. map (λ j. length (set_at C j).fresh) (below n)) (count_is C) ∙ map_below (λ (s : InformationSet). length s.fresh) (sets_of C) (record { basis = []; fresh = [] }) ∙ sym (ranks_are C) in
    ap (λ r. bound_sum k r (map (λ (s : LevelSet). s.level) (search_sets C l))) ranks ∙ ap (bound_sum k (ranks_of C)) levels

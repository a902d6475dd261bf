-- The code of a certificate: its dimension, its information sets and its generator matrices, of rows that may be dependent.
--   dimension_is               the dimension is the number of rows of the reduced matrix
--   systematic_is              a matrix that is systematic on a set is the one of the definition
--   greedy_append              the greedy rule on one order after another
--   pivot_free, other_spanned  a column is a sum of multiples of the pivot columns before it exactly if it is no pivot
--   greedy_pivots, basis_is    the first basis of all columns is that of the pivots
--   echelon_is                 the echelon rows of the definition are the reduced matrix
use Rattle.std.proofs.Common.{◌≡◌, ◌≢◌, ℕ, zero, suc, ◌+◌, ◌<◌, ◌≤◌, Bool, true, false, cond, List, [], ◌∷◌, ◌++◌, map, find, filter, length, take, slice_index, slice_index_or, Contains, unwrap_or, refl, sym, ap, ap₂, subst, ◌∙◌, ⊎_elim, arith, append-nil}
use Rattle.std.proofs.lemmas.Bool.{cases_Bool, cases_lt, cases_eq}
use Rattle.std.proofs.lemmas.List.{length-map, get_or_default, get_or-map, ext_get_or, get_or-take, length-take-le, take_all, take_more}
use Rattle.std.proofs.lemmas.List.Elements.{filter-append}
use Rattle.lc_algebra.specs.declared.FieldName.{FieldName}
use Rattle.lc_algebra.specs.Word.{zero_word}
use Rattle.lc_algebra.specs.Span.{below, InSpan, words, SameSpan}
use Rattle.lc_algebra.specs.Matrix.{column, entry, AreRows, HasPivots, IsEchelon, IsSystematic, IsIdentityOn}
use Rattle.lc_algebra.specs.SpanLaws.{restrict}
use Rattle.lc_algebra.proofs.SpanLaws.{span_row, same_span_symmetric, same_span_transitive, length_below, member_of_word, word_of_member}
use Rattle.lc_algebra.proofs.ReducedLaws.{identity_on_pivots, systematic_told, reduced_independent}
use Rattle.lc_algebra.proofs.ColumnLaws.{index_restrict, length_restrict, column_outside, column_inside}
use Rattle.lc_algebra.proofs.DimensionLaws.{dimension_unique}
use Rattle.lc_enumeration.specs.InformationSet.{same_word, in_span, greedy, dimension, is_member, first_basis, unit_word, systematic, echelon_rows}
use Rattle.lc_enumeration.proofs.MemberLaws.{same_from_test, test_from_same, in_span_true, true_in_span, member_true, true_member}
use Rattle.lc_enumeration.proofs.PlanLaws.{find_only}
use Rattle.lc_enumeration.proofs.DependentLaws.{independent_rows}
use Rattle.lc_enumeration.proofs.GreedyLaws.{index_unit, length_unit}
use Rattle.lc_matrix.proofs.PlaceLaws.{index_below}

-- ---- the dimension

pub dimension_is : (f : FieldName) (n : ℕ) (rows e : List (List ℕ)) → AreRows f n rows → IsEchelon f n rows e → dimension f n rows ≡ length e
dimension_is f n rows e r h =
    let t = independent_rows f n rows r in
    sym t.many ∙ dimension_unique f n t.others e t.words h.words t.free (reduced_independent f n e h.words h.reduced) (same_span_transitive f n t.others rows e (same_span_symmetric f n rows t.others t.same) h.same)

-- ---- systematic matrices

unit_there : (set : List ℕ) (e : List (List ℕ)) (i : ℕ) → IsIdentityOn set e → i < length e → restrict set (slice_index_or e i []) ≡ unit_word (length set) i
unit_there set e i h l =
    let g = slice_index_or e i [] in
    ext_get_or 0 (restrict set g) (unit_word (length set) i) (length_restrict set g ∙ sym (length_unit (length set) i)) (λ j m.
    let b : j < length set = omega (arith, m, length_restrict set g) in
    index_restrict set g j b ∙ h i j l b ∙ sym (index_unit (length set) i j b))

pub systematic_is : (f : FieldName) (n : ℕ) (rows e : List (List ℕ)) (set : List ℕ) → IsSystematic f n rows set e → systematic f n rows set ≡ e
unfolding systematic
systematic_is f n rows e set h =
    let k = length set in
    let is_unit = λ (i : ℕ) (w : List ℕ). same_word (map (slice_index w) set) (unit_word k i) in
    let row = λ (i : ℕ). unwrap_or (find (is_unit i) (words f n rows)) (zero_word n) in
    ext_get_or [] (map row (below k)) e (length-map (below k) row ∙ length_below k ∙ sym h.count) (λ i l.
    let a : i < k = omega (arith, l, length-map (below k) row, length_below k) in
    let b : i < length e = omega (arith, a, h.count) in
    let g = slice_index_or e i [] in
    let there : InSpan f n rows g = (h.same g).1 (span_row f n e h.words i [] b) in
    let unit = unit_there set e i h.identity b in
    get_or-map row (below k) i 0 [] (omega (arith, a, length_below k))
    ∙ ap row (index_below k i a)
    ∙ ap (λ o. unwrap_or o (zero_word n)) (find_only (is_unit i) (words f n rows) g (member_of_word f n rows g there) (test_from_same (map (slice_index g) set) (unit_word k i) unit) (λ w c t.
    systematic_told f n rows set e w g h (word_of_member f n rows w c) there (λ j m.
    sym (index_restrict set w j m) ∙ ap (λ v. slice_index v j) (same_from_test (map (slice_index w) set) (unit_word k i) t ∙ sym unit) ∙ index_restrict set g j m))))

-- ---- the first basis of all columns

greedy_append : (f : FieldName) (n : ℕ) (v : ℕ → List ℕ) (taken xs ys : List ℕ) → greedy f n v taken (xs ++ ys) ≡ greedy f n v (greedy f n v taken xs) ys
unfolding greedy
greedy_append f n v taken [] ys = refl
greedy_append f n v taken (i ∷ xs) ys =
    let one = greedy f n v taken xs in
    let two = greedy f n v (taken ++ i ∷ []) xs in
    ap₂ (λ x y. cond (in_span f n (map v taken) (v i)) x y) (greedy_append f n v taken xs ys) (greedy_append f n v (taken ++ i ∷ []) xs ys)
    ∙ either (in_span f n (map v taken) (v i)) one two
  where
    either : (b : Bool) (x y : List ℕ) → cond b (greedy f n v x ys) (greedy f n v y ys) ≡ greedy f n v (cond b x y) ys
    either true x y = refl
    either false x y = refl

record Pivoted (f : FieldName) (n : ℕ) (ps : List ℕ) (rows e : List (List ℕ)) : Type 0 where
  pub original : AreRows f n rows
  pub words : AreRows f n e
  pub same : SameSpan f n rows e
  pub pivots : HasPivots n ps e

take_member : (i x : ℕ) (ps : List ℕ) → i ≤ length ps → Contains (take i ps) x → (j : ℕ) × (j < i) × (slice_index ps j ≡ x)
take_member i x ps few c =
    let j : ℕ = c.0 in
    let m : j < length (take i ps) = c.1 in
    let l : j < i = omega (arith, m, length-take-le i ps few) in
    (j, l, sym (get_or-take i ps j 0 l) ∙ get_or_default (take i ps) j 0 x m ∙ c.2)

pivot_free : (f : FieldName) (n i : ℕ) (ps : List ℕ) (rows e : List (List ℕ)) → Pivoted f n ps rows e → i < length ps → InSpan f (length rows) (map (column rows) (take i ps)) (column rows (slice_index ps i)) → ⊥
pivot_free f n i ps rows e h l s =
    let inside : i < length e = omega (arith, l, h.pivots.count) in
    column_outside f n i (slice_index ps i) (take i ps) rows e h.original h.words h.same inside (h.pivots.leads i inside) (λ c m.
    let j = take_member i c ps (omega (arith, l)) m in
    ap (entry e i) (sym j.2) ∙ h.pivots.clears j.0 i (omega (arith, j.1, inside)) inside (λ q. omega (arith, q, j.1))) s

other_spanned : (f : FieldName) (n t i : ℕ) (ps : List ℕ) (rows e : List (List ℕ)) → Pivoted f n ps rows e → i ≤ length ps → ((j : ℕ) → i ≤ j → j < length ps → t < slice_index ps j) → InSpan f (length rows) (map (column rows) (take i ps)) (column rows t)
other_spanned f n t i ps rows e h l above =
    let many : length (take i ps) ≡ i = length-take-le i ps l in
    let enough : i ≤ length e = omega (arith, l, h.pivots.count) in
    column_inside f n t (take i ps) rows e h.original h.words h.same (omega (arith, many, enough))
    (λ j a.
    let b : j < i = omega (arith, a, many) in
    ap (entry e j) (get_or-take i ps j 0 b) ∙ h.pivots.leads j (omega (arith, b, enough)))
    (λ j r a d o.
    let b : j < i = omega (arith, a, many) in
    ap (entry e r) (get_or-take i ps j 0 b) ∙ h.pivots.clears j r (omega (arith, b, enough)) d o)
    (λ j a b. h.pivots.before j t b (above j (omega (arith, a, many)) (omega (arith, b, h.pivots.count))))

record IsAt (ps : List ℕ) (t i : ℕ) : Type 0 where
  pub few : i ≤ length ps
  pub past : (j : ℕ) → j < i → slice_index ps j < t
  pub ahead : (j : ℕ) → i ≤ j → j < length ps → t ≤ slice_index ps j

record Reached (f : FieldName) (m : ℕ) (v : ℕ → List ℕ) (ps : List ℕ) (t : ℕ) : Type 0 where
  pub i : ℕ
  pub at : IsAt ps t i
  pub is : greedy f m v [] (below t) ≡ take i ps
  pub kept : filter (is_member ps) (below t) ≡ take i ps

one_more : (f : FieldName) (m : ℕ) (v : ℕ → List ℕ) (taken : List ℕ) (t : ℕ) → greedy f m v taken (t ∷ []) ≡ cond (in_span f m (map v taken) (v t)) taken (taken ++ t ∷ [])
unfolding greedy
one_more f m v taken t = refl

below_more : (t : ℕ) → below (suc t) ≡ below t ++ t ∷ []
unfolding below
below_more t = refl

below_nothing : below 0 ≡ []
unfolding below
below_nothing = refl

greedy_nothing : (f : FieldName) (m : ℕ) (v : ℕ → List ℕ) → greedy f m v [] [] ≡ []
unfolding greedy
greedy_nothing f m v = refl

filter_one : (p : ℕ → Bool) (t : ℕ) → filter p (t ∷ []) ≡ cond (p t) (t ∷ []) []
filter_one p t = refl

kept_more : (ps : List ℕ) (t i : ℕ) → filter (is_member ps) (below t) ≡ take i ps → filter (is_member ps) (below (suc t)) ≡ take i ps ++ cond (is_member ps t) (t ∷ []) []
kept_more ps t i e = ap (filter (is_member ps)) (below_more t) ∙ filter-append (is_member ps) (below t) (t ∷ []) ∙ ap₂ (λ x y. x ++ y) e (filter_one (is_member ps) t)

no_place : (ps : List ℕ) (t i : ℕ) → ((j : ℕ) → j < i → slice_index ps j < t) → ((j : ℕ) → i ≤ j → j < length ps → t < slice_index ps j) → is_member ps t ≡ false
no_place ps t i past above =
    ⊎_elim
    (λ e.
    let c = true_member ps t e in
    let j : ℕ = c.0 in
    let l : j < length ps = c.1 in
    let at : slice_index ps j ≡ t = get_or_default ps j 0 t l ∙ c.2 in
    absurd (⊎_elim (λ a. omega (arith, past j a, at)) (λ a. omega (arith, above j a l, at)) (cases_lt j i)))
    (λ e. e)
    (cases_Bool (is_member ps t))

greedy_pivots : (f : FieldName) (n : ℕ) (ps : List ℕ) (rows e : List (List ℕ)) → Pivoted f n ps rows e → (t : ℕ) → Reached f (length rows) (column rows) ps t
greedy_pivots f n ps rows e h zero = record {
  i = 0;
  at = record { few = omega arith; past = λ j l. absurd (omega (arith, l)); ahead = λ j l m. omega arith };
  is = ap (greedy f (length rows) (column rows) []) below_nothing ∙ greedy_nothing f (length rows) (column rows);
  kept = ap (filter (is_member ps)) below_nothing;
}
greedy_pivots f n ps rows e h (suc t) =
    let m = length rows in
    let v = column rows in
    let w = greedy_pivots f n ps rows e h t in
    let taken = take w.i ps in
    let step : greedy f m v [] (below (suc t)) ≡ cond (in_span f m (map v taken) (v t)) taken (taken ++ t ∷ []) =
    ap (greedy f m v []) (below_more t) ∙ greedy_append f m v [] (below t) (t ∷ []) ∙ ap (λ x. greedy f m v x (t ∷ [])) w.is ∙ one_more f m v taken t in
    let passed : ((j : ℕ) → w.i ≤ j → j < length ps → t < slice_index ps j) → Reached f m v ps (suc t) = λ above. record {
      i = w.i;
      at = record { few = w.at.few; past = λ j l. omega (arith, w.at.past j l); ahead = λ j l k. omega (arith, above j l k) };
      is = step ∙ ap (λ b. cond b taken (taken ++ t ∷ [])) (true_in_span f m (map v taken) (v t) (other_spanned f n t w.i ps rows e h w.at.few above));
      kept = kept_more ps t w.i w.kept ∙ ap (λ b. taken ++ cond b (t ∷ []) []) (no_place ps t w.i w.at.past above) ∙ append-nil taken;
    } in
    ⊎_elim
    (λ l. ⊎_elim
    (λ q.
    let out : InSpan f m (map v taken) (v t) → ⊥ = λ s. pivot_free f n w.i ps rows e h l (subst (λ c. InSpan f m (map v taken) (v c)) (sym q) s) in
    let test : in_span f m (map v taken) (v t) ≡ false = ⊎_elim (λ a. absurd (out (in_span_true f m (map v taken) (v t) a))) (λ a. a) (cases_Bool (in_span f m (map v taken) (v t))) in
    record {
      i = w.i + 1;
      at = record {
        few = omega (arith, l);
        past = λ j o. ⊎_elim (λ a. omega (arith, w.at.past j a)) (λ a. let z : j ≡ w.i = omega (arith, a, o) in omega (arith, ap (slice_index ps) z, q)) (cases_lt j w.i);
        ahead = λ j o k. omega (arith, h.pivots.rises w.i j (omega (arith, o)) k, q);
      };
      is = step ∙ ap (λ b. cond b taken (taken ++ t ∷ [])) test ∙ ap (λ c. taken ++ c ∷ []) (sym q) ∙ sym (take_more ps w.i 0 l);
      kept = kept_more ps t w.i w.kept ∙ ap (λ b. taken ++ cond b (t ∷ []) []) (member_true ps t (w.i, l, get_or_default ps w.i t 0 l ∙ q)) ∙ ap (λ c. taken ++ c ∷ []) (sym q) ∙ sym (take_more ps w.i 0 l);
    })
    (λ o. passed (λ j a b. ⊎_elim
    (λ d. omega (arith, w.at.ahead w.i (omega arith) l, h.pivots.rises w.i j d b))
    (λ d. let z : j ≡ w.i = omega (arith, d, a) in subst (λ y. t < slice_index ps y) (sym z) (larger (slice_index ps w.i) t (w.at.ahead w.i (omega arith) l) o))
    (cases_lt w.i j)))
    (cases_eq (slice_index ps w.i) t))
    (λ l. passed (λ j a b. absurd (omega (arith, l, a, b))))
    (cases_lt w.i (length ps))
  where
    larger : (a t : ℕ) → t ≤ a → a ≢ t → t < a
    larger a t l o = ⊎_elim (λ b. b) (λ b. absurd (o (omega (arith, b, l)))) (cases_lt t a)

basis_is : (f : FieldName) (n : ℕ) (ps : List ℕ) (rows e : List (List ℕ)) → Pivoted f n ps rows e → first_basis f n rows (below n) ≡ ps
unfolding first_basis
basis_is f n ps rows e h =
    let w = greedy_pivots f n ps rows e h n in
    let all : length ps ≤ w.i = ⊎_elim (λ l. absurd (omega (arith, w.at.ahead w.i (omega arith) l, h.pivots.inside w.i l))) (λ l. l) (cases_lt w.i (length ps)) in
    let whole = take_all w.i ps all in
    ap (λ set. filter (is_member set) (below n)) (w.is ∙ whole) ∙ w.kept ∙ whole

pub echelon_is : (f : FieldName) (n : ℕ) (rows e : List (List ℕ)) → AreRows f n rows → IsEchelon f n rows e → echelon_rows f n rows ≡ e
unfolding echelon_rows
echelon_is f n rows e r h =
    let ps = h.reduced.pivots.0 in
    let p = h.reduced.pivots.1 in
    let basis = basis_is f n ps rows e (record { original = r; words = h.words; same = h.same; pivots = p }) in
    ap (systematic f n rows) basis
    ∙ systematic_is f n rows e ps (record { same = h.same; words = h.words; count = sym p.count; identity = identity_on_pivots n ps e p })

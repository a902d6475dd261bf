-- What an elimination over a list of columns takes for pivots is the greedy choice of the definition, and its rows are the
-- generator matrix.
--   picked                       the columns at the chosen indexes of an order
--   IsReducedFrom                the rows are reduced over the order, and have the words of the original ones
--   pivot_outside                the column of a pivot is no sum of multiples of those of the earlier pivots
--   passed_inside                any other column is
--   greedy_rest, greedy_picked   so the greedy choice is that of the pivots
--   distinct_indexes, turned_unit, turned_generator      the rows in the order of the set's columns are the generator matrix on it
use Rattle.std.proofs.Common.{◌≡◌, ◌≢◌, ℕ, suc, ◌+◌, ◌<◌, ◌≤◌, Bool, false, cond, ◌==◌, if◌then◌else◌, filter, List, [], ◌∷◌, ◌++◌, length, map, take, slice_index, slice_index_or, Contains, sym, ap, subst, ◌∙◌, ⊎_elim, arith}
use Rattle.std.proofs.lemmas.Bool.{cases_Bool, cases_eq, cases_lt, eq-eqb, ne_eqb}
use Rattle.std.proofs.lemmas.List.{ext_get_or, length-map, get_or-map, get_or_default, get_or-take, length-take, length-take-le, take_all, take_more, map-append}
use Rattle.lc_algebra.specs.declared.FieldName.{FieldName}
use Rattle.lc_algebra.specs.Span.{below, InSpan, SameSpan}
use Rattle.lc_algebra.specs.Matrix.{AreRows, entry, column}
use Rattle.lc_algebra.specs.SpanLaws.{restrict}
use Rattle.lc_algebra.proofs.SpanLaws.{contains_map, span_row}
use Rattle.lc_algebra.proofs.ColumnLaws.{length_restrict, index_restrict, column_outside, column_inside}
use Rattle.lc_algebra.proofs.DimensionLaws.{pairs_from_distinct, distinct_below}
use Rattle.lc_enumeration.specs.InformationSet.{in_span, greedy, unit_word, systematic}
use Rattle.lc_enumeration.proofs.MemberLaws.{in_span_true, true_in_span}
use Rattle.lc_enumeration.proofs.GreedyLaws.{index_unit, length_unit}
use Rattle.lc_matrix.specs.Elimination.{IsReducedTo}
use Rattle.lc_infoset.specs.Choice.{AreTurned}
use Rattle.lc_infoset.proofs.ExistLaws.{told_on_set, row_looked, length_systematic}
use Rattle.lc_infoset.proofs.GreedyLaws.{IsBasis}
use Rattle.lc_infoset.proofs.SetLaws.{distinct_filter}

abbrev pub picked : List ℕ → List ℕ → List ℕ
picked order at = map (slice_index order) at

pub record IsReducedFrom (f : FieldName) (n : ℕ) (order at : List ℕ) (rows e : List (List ℕ)) : Type 0 where
  pub original : AreRows f n rows
  pub words : AreRows f n e
  pub same : SameSpan f n rows e
  pub count : length e ≡ length rows
  pub reduced : IsReducedTo order (length order) at e

take_member : (i x : ℕ) (at : List ℕ) → Contains (take i at) x → (j : ℕ) × (j < i) × ((j < length at) × (slice_index at j ≡ x))
take_member i x at l =
    let j : ℕ = l.0 in
    let m : j < length (take i at) = l.1 in
    ⊎_elim
    (λ a. ⊎_elim
    (λ b. (j, a, (b, sym (get_or-take i at j 0 a) ∙ get_or_default (take i at) j 0 x m ∙ l.2)))
    (λ b. absurd (omega (arith, m, b, length-take i at)))
    (cases_lt j (length at)))
    (λ a. absurd (omega (arith, m, a, length-take i at)))
    (cases_lt j i)

pub pivot_outside : (f : FieldName) (n i : ℕ) (order at : List ℕ) (rows e : List (List ℕ)) → IsReducedFrom f n order at rows e → i < length at → InSpan f (length rows) (map (column rows) (picked order (take i at))) (column rows (slice_index order (slice_index at i))) → ⊥
pivot_outside f n i order at rows e h l s =
    let inside : i < length e = omega (arith, l, h.reduced.at_most) in
    column_outside f n i (slice_index order (slice_index at i)) (picked order (take i at)) rows e h.original h.words h.same inside (h.reduced.leads i l) (λ c m.
    let u = contains_map (slice_index order) (take i at) c m in
    let j = take_member i u.0 at u.1 in
    ap (entry e i) (u.2 ∙ ap (slice_index order) (sym j.2.1)) ∙ h.reduced.clears j.0 i j.2.0 inside (λ q. omega (arith, q, j.1))) s

pick_is : (i j : ℕ) (order at : List ℕ) → i ≤ length at → j < i → slice_index (picked order (take i at)) j ≡ slice_index order (slice_index at j)
pick_is i j order at l m =
    get_or-map (slice_index order) (take i at) j 0 0 (omega (arith, m, length-take-le i at l)) ∙ ap (slice_index order) (get_or-take i at j 0 m)

pub passed_inside : (f : FieldName) (n t i : ℕ) (order at : List ℕ) (rows e : List (List ℕ)) → IsReducedFrom f n order at rows e → i ≤ length at → t < length order → ((j : ℕ) → i ≤ j → j < length at → t < slice_index at j) → InSpan f (length rows) (map (column rows) (picked order (take i at))) (column rows (slice_index order t))
passed_inside f n t i order at rows e h l m above =
    let c = slice_index order t in
    let set = picked order (take i at) in
    let many : length set ≡ i = length-map (take i at) (slice_index order) ∙ length-take-le i at l in
    column_inside f n c set rows e h.original h.words h.same (omega (arith, many, l, h.reduced.at_most))
    (λ j a.
    let b : j < i = omega (arith, a, many) in
    ap (entry e j) (pick_is i j order at l b) ∙ h.reduced.leads j (omega (arith, b, l)))
    (λ j r a d o.
    let b : j < i = omega (arith, a, many) in
    ap (entry e r) (pick_is i j order at l b) ∙ h.reduced.clears j r (omega (arith, b, l)) d o)
    (λ j a b. ⊎_elim (λ d. h.reduced.before j t d (above j (omega (arith, a, many)) d)) (λ d. h.reduced.below j t d b m) (cases_lt j (length at)))

pub record IsFollowed (t i : ℕ) (order at rest : List ℕ) : Type 0 where
  pub whole : t + length rest ≡ length order
  pub entries : (s : ℕ) → s < length rest → slice_index rest s ≡ slice_index order (t + s)
  pub few : i ≤ length at
  pub past : (j : ℕ) → j < i → slice_index at j < t
  pub ahead : (j : ℕ) → i ≤ j → j < length at → t ≤ slice_index at j

followed_more : (t i i' x : ℕ) (order at rest : List ℕ) → IsFollowed t i order at (x ∷ rest) → i' ≤ length at → ((j : ℕ) → j < i' → slice_index at j < suc t) → ((j : ℕ) → i' ≤ j → j < length at → t < slice_index at j) → IsFollowed (suc t) i' order at rest
followed_more t i i' x order at rest h few past ahead = record {
  whole = omega (arith, h.whole);
  entries = λ s l. h.entries (suc s) (omega (arith, l)) ∙ ap (slice_index order) (omega arith);
  few = few;
  past = past;
  ahead = λ j l m. omega (arith, ahead j l m);
}

pub greedy_rest : (f : FieldName) (n t i : ℕ) (order at rest : List ℕ) (rows e : List (List ℕ)) → IsReducedFrom f n order at rows e → IsFollowed t i order at rest → greedy f (length rows) (column rows) (picked order (take i at)) rest ≡ picked order at
unfolding greedy
greedy_rest f n t i order at [] rows e h w =
    let all : length at ≤ i = ⊎_elim (λ l. absurd (omega (arith, w.ahead i (omega arith) l, h.reduced.inside i l, w.whole))) (λ l. l) (cases_lt i (length at)) in
    ap (picked order) (take_all i at all)
greedy_rest f n t i order at (x ∷ rest) rows e h w =
    let k = length rows in
    let taken = picked order (take i at) in
    let here : x ≡ slice_index order t = w.entries 0 (omega arith) ∙ ap (slice_index order) (omega arith) in
    let inside : t < length order = omega (arith, w.whole) in
    let goal = λ (b : Bool). cond b (greedy f k (column rows) taken rest) (greedy f k (column rows) (taken ++ x ∷ []) rest) ≡ picked order at in
    let passed : ((j : ℕ) → i ≤ j → j < length at → t < slice_index at j) → goal (in_span f k (map (column rows) taken) (column rows x)) = λ above.
    let s : InSpan f k (map (column rows) taken) (column rows x) = subst (λ c. InSpan f k (map (column rows) taken) (column rows c)) (sym here) (passed_inside f n t i order at rows e h w.few inside above) in
    subst goal (sym (true_in_span f k (map (column rows) taken) (column rows x) s)) (greedy_rest f n (suc t) i order at rest rows e h (followed_more t i i x order at rest w w.few (λ j l. omega (arith, w.past j l)) above)) in
    ⊎_elim
    (λ l. ⊎_elim
    (λ q.
    let out : InSpan f k (map (column rows) taken) (column rows x) → ⊥ = λ s. pivot_outside f n i order at rows e h l (subst (λ c. InSpan f k (map (column rows) taken) (column rows c)) (here ∙ ap (slice_index order) (sym q)) s) in
    let test : in_span f k (map (column rows) taken) (column rows x) ≡ false = ⊎_elim (λ a. absurd (out (in_span_true f k (map (column rows) taken) (column rows x) a))) (λ a. a) (cases_Bool (in_span f k (map (column rows) taken) (column rows x))) in
    let next_i : suc i ≡ i + 1 = omega arith in
    let more : picked order (take (suc i) at) ≡ taken ++ x ∷ [] = ap (picked order) (ap (λ m. take m at) next_i ∙ take_more at i 0 l) ∙ map-append (slice_index order) (take i at) (slice_index at i ∷ []) ∙ ap (λ c. taken ++ c ∷ []) (ap (slice_index order) q ∙ sym here) in
    let next : IsFollowed (suc t) (suc i) order at rest = followed_more t i (suc i) x order at rest w (omega (arith, l)) (λ j m. ⊎_elim (λ a. omega (arith, w.past j a)) (λ a. let z : j ≡ i = omega (arith, a, m) in omega (arith, ap (slice_index at) z, q)) (cases_lt j i)) (λ j m o. omega (arith, h.reduced.rises i j (omega (arith, m)) o, q)) in
    subst goal (sym test) (ap (λ us. greedy f k (column rows) us rest) (sym more) ∙ greedy_rest f n (suc t) (suc i) order at rest rows e h next))
    (λ o. passed (λ j m b. ⊎_elim
    (λ a. omega (arith, w.ahead i (omega arith) l, h.reduced.rises i j a b))
    (λ a. let z : j ≡ i = omega (arith, a, m) in subst (λ y. t < slice_index at y) (sym z) (larger (slice_index at i) t (w.ahead i (omega arith) l) o))
    (cases_lt i j)))
    (cases_eq (slice_index at i) t))
    (λ l. passed (λ j m b. absurd (omega (arith, l, m, b))))
    (cases_lt i (length at))
  where
    larger : (a t : ℕ) → t ≤ a → a ≢ t → t < a
    larger a t l o = ⊎_elim (λ b. b) (λ b. absurd (o (omega (arith, b, l)))) (cases_lt t a)

pub greedy_picked : (f : FieldName) (n : ℕ) (order at : List ℕ) (rows e : List (List ℕ)) → IsReducedFrom f n order at rows e → greedy f (length rows) (column rows) [] order ≡ picked order at
greedy_picked f n order at rows e h = greedy_rest f n 0 0 order at order rows e h (record {
  whole = omega arith;
  entries = λ s l. ap (slice_index order) (omega arith);
  few = omega arith;
  past = λ j l. absurd (omega (arith, l));
  ahead = λ j l m. omega arith;
})

distinct_indexes : (p : ℕ → Bool) (n i j : ℕ) → i < length (filter p (below n)) → j < length (filter p (below n)) → i ≢ j → slice_index (filter p (below n)) i ≢ slice_index (filter p (below n)) j
distinct_indexes p n i j l m o q =
    let pairs = pairs_from_distinct (filter p (below n)) (distinct_filter p (below n) (distinct_below n)) in
    ⊎_elim (λ a. pairs i j 0 a m q) (λ a. pairs j i 0 (other i j a o) l (sym q)) (cases_lt i j)
  where
    other : (i j : ℕ) → j ≤ i → i ≢ j → j < i
    other i j l o = ⊎_elim (λ b. b) (λ b. absurd (o (omega (arith, b, l)))) (cases_lt j i)

pub turned_unit : (f : FieldName) (n i : ℕ) (p : ℕ → Bool) (order at turn : List ℕ) (rows e : List (List ℕ)) → IsReducedFrom f n order at rows e → AreTurned (filter p (below n)) (picked order at) turn → i < length turn → restrict (filter p (below n)) (slice_index_or e (slice_index turn i) []) ≡ unit_word (length (filter p (below n))) i
turned_unit f n i p order at turn rows e h t l =
    let set = filter p (below n) in
    let r = slice_index turn i in
    let row = slice_index_or e r [] in
    let many : length (picked order at) ≡ length at = length-map at (slice_index order) in
    let inside_r : r < length at = omega (arith, t.inside i l, many) in
    ext_get_or 0 (restrict set row) (unit_word (length set) i) (length_restrict set row ∙ sym (length_unit (length set) i)) (λ j m.
    let b : j < length set = omega (arith, m, length_restrict set row) in
    let a : j < length turn = omega (arith, b, t.count) in
    let q = slice_index turn j in
    let inside_q : q < length at = omega (arith, t.inside j a, many) in
    let col : slice_index set j ≡ slice_index order (slice_index at q) = sym (t.places j a) ∙ get_or-map (slice_index order) at q 0 0 inside_q in
    index_restrict set row j b ∙ ap (entry e r) col
    ∙ ⊎_elim
    (λ z. subst (λ y. entry e (slice_index turn y) (slice_index order (slice_index at q)) ≡ (if i == j then 1 else 0)) (sym z) (rw (eq-eqb i j z) (h.reduced.leads q inside_q)))
    (λ z. rw (ne_eqb i j z) (h.reduced.clears q r inside_q (omega (arith, inside_r, h.reduced.at_most)) (λ y. distinct_indexes p n i j (omega (arith, l, t.count)) b z (sym (t.places i l) ∙ ap (slice_index (picked order at)) (sym y) ∙ t.places j a))))
    (cases_eq i j)
    ∙ sym (index_unit (length set) i j b))

pub turned_generator : (f : FieldName) (n : ℕ) (p : ℕ → Bool) (order at turn : List ℕ) (rows e : List (List ℕ)) → IsReducedFrom f n order at rows e → AreTurned (filter p (below n)) (picked order at) turn → IsBasis f n rows (filter p (below n)) → map (λ r. slice_index_or e r []) turn ≡ systematic f n rows (filter p (below n))
turned_generator f n p order at turn rows e h t basis =
    let set = filter p (below n) in
    let row : ℕ → List ℕ = λ r. slice_index_or e r [] in
    let long = length_systematic f n rows set in
    ext_get_or [] (map row turn) (systematic f n rows set) (length-map turn row ∙ t.count ∙ sym long) (λ i l.
    let m : i < length turn = omega (arith, l, length-map turn row) in
    let r = slice_index turn i in
    let inside : r < length e = omega (arith, t.inside i m, length-map at (slice_index order), h.reduced.at_most) in
    let there : InSpan f n rows (row r) = (h.same (row r)).1 (span_row f n e h.words r [] inside) in
    let look = row_looked f n rows set i h.original basis.many basis.square (omega (arith, m, t.count)) [] in
    get_or-map row turn i 0 [] m
    ∙ told_on_set f n set rows (row r) (slice_index_or (systematic f n rows set) i []) h.original basis.square there look.inside (turned_unit f n i p order at turn rows e h t m ∙ sym look.unit))

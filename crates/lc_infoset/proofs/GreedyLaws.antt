-- The greedy first basis of the columns of independent rows is an information set.
--   other_in_span                 of two words whose sum is zero, one is in the span if the other is
--   independent_cons              independent rows stay so with a row outside their span
--   AreVectors      the vectors of some indexes
--   Taken, taken_none, taken_more      what the greedy choice has taken: vectors of which none is in the span of those before
--   Greedy, greedy_is             it takes enough to span every vector of the order, and nothing else
--   columns_are                   the columns are words
--   spanning_square               rows are independent on columns that span all of them
--   IsBasis, HasColumns, first_basis_is      the first basis has k columns, and the rows are independent on them
--   in_order                      the order of the columns of a next set has all of them
--   HasBasis, next_basis, bases_after, bases_are      so has every information set
--   generators_are                independent rows have a generator for each of their information sets
use Rattle.std.proofs.Common.{◌≡◌, ℕ, zero, suc, ◌*◌, ◌<◌, ◌≤◌, ◌⊎◌, Bool, not, cond, nat_le, filter, List, [], ◌∷◌, ◌++◌, length, map, slice_index, All, Contains, refl, sym, ap, subst, ◌∙◌, inl, inr, ⊎_elim, arith}
use Rattle.std.proofs.lemmas.Bool.{cases_Bool, false≢true, not_from_false}
use Rattle.std.proofs.lemmas.List.{ext_get_or, length-map, get_or_default}
use Rattle.std.proofs.lemmas.List.Elements.{All-nil, All-cons, All-contains, Contains-append_left, Contains-append_right, Contains-append_cases}
use Rattle.lc_algebra.specs.declared.FieldName.{FieldName}
use Rattle.lc_algebra.specs.Word.{IsWord, zero_word, word_sum, scale, word_dot}
use Rattle.lc_algebra.specs.Span.{below, combine, InSpan, AreIndependent}
use Rattle.lc_algebra.specs.Matrix.{Matrix, AreRows, IsOrthogonal, column, IsSystematic}
use Rattle.lc_algebra.specs.SpanLaws.{restrict}
use Rattle.lc_algebra.specs.Field.{neg}
use Rattle.lc_algebra.proofs.FieldLaws.{inverse_of, mul_comm}
use Rattle.lc_algebra.proofs.WordLaws.{length_zero_word, index_zero_word, zero_scale, zero_sum, sum_zero, sum_assoc, sum_negative, word_head, word_tail, IsWord_scale, dot_comm}
use Rattle.lc_algebra.proofs.SpanLaws.{contains_head, contains_tail, contains_cases, map_contains, contains_map, contains_below, below_contains, span_word, span_zero, span_sum, span_scale, length_combine, word_of_combination, dot_span, span_of_member}
use Rattle.lc_algebra.proofs.ColumnLaws.{column_word, index_restrict}
use Rattle.lc_algebra.proofs.DimensionLaws.{AreDistinct, distinct_at_most, distinct_below, independent_few}
use Rattle.lc_algebra.proofs.ReducedLaws.{index_combine}
use Rattle.lc_algebra.proofs.DivisorLaws.{no_member}
use Rattle.lc_enumeration.specs.InformationSet.{InformationSet, in_span, is_member, greedy, first_basis, columns_in_order, with_fresh, next_set, sets_after, information_sets, systematic}
use Rattle.lc_enumeration.specs.Search.{sets_of, generator_at}
use Rattle.lc_enumeration.proofs.MemberLaws.{member_true, true_member, in_span_true, true_in_span}
use Rattle.lc_enumeration.proofs.GreedyLaws.{vectors_are_rows, each_contained}
use Rattle.lc_enumeration.proofs.DependentLaws.{set_wider}
use Rattle.lc_infoset.specs.Bound.{set_at, AreGenerators}
use Rattle.lc_infoset.proofs.MultipleLaws.{inverse_multiple}
use Rattle.lc_infoset.proofs.SetLaws.{filter_passes, distinct_filter, set_listed}
use Rattle.lc_infoset.proofs.AnswerLaws.{filter_keeps}
use Rattle.lc_infoset.proofs.ExistLaws.{combine_restrict, restricted_rows, systematic_from_square}

-- of two words whose sum is zero, one is in the span where the other is
pub other_in_span : (f : FieldName) (n : ℕ) (rows : List (List ℕ)) (u v : List ℕ) → AreRows f n rows → IsWord f n u → length v ≡ n → InSpan f n rows v → word_sum f u v ≡ zero_word n → InSpan f n rows u
other_in_span f n rows u v r is long i e =
    let back : word_sum f (word_sum f u v) (scale f (neg f 1) v) ≡ u = sum_assoc f u v (scale f (neg f 1) v) ∙ ap (word_sum f u) (sum_negative f n v long) ∙ sum_zero f n u is in
    subst (InSpan f n rows) (ap (λ w. word_sum f w (scale f (neg f 1) v)) (sym e) ∙ back) (span_sum f n rows (zero_word n) (scale f (neg f 1) v) (span_zero f n rows r) (span_scale f n rows (neg f 1) v i))

pub independent_cons : (f : FieldName) (n : ℕ) (g : List ℕ) (rows : List (List ℕ)) → IsWord f n g → AreRows f n rows → AreIndependent f n rows → (InSpan f n rows g → ⊥) → AreIndependent f n (g ∷ rows)
unfolding combine
independent_cons f n g rows is r h out [] w e = absurd (omega (arith, w.long))
independent_cons f n g rows is r h out (zero ∷ cs) w e =
    let tail = word_tail f (length rows) 0 cs w in
    let rest : combine f n cs rows ≡ zero_word n = sym (zero_sum f n (combine f n cs rows) (span_word f n rows (combine f n cs rows) r (word_of_combination f n rows cs tail))) ∙ ap (λ u. word_sum f u (combine f n cs rows)) (sym (zero_scale f n g is.long)) ∙ e in
    ap (λ u. 0 ∷ u) (h cs tail rest)
independent_cons f n g rows is r h out (suc a ∷ cs) w e =
    let tail = word_tail f (length rows) (suc a) cs w in
    let there = word_of_combination f n rows cs tail in
    let multiple : InSpan f n rows (scale f (suc a) g) = other_in_span f n rows (scale f (suc a) g) (combine f n cs rows) r (IsWord_scale f n (suc a) g is.long) (length_combine f n cs rows r) there e in
    let b = inverse_of f (suc a) (word_head f (suc (length rows)) (suc a) cs w) (omega arith) in
    absurd (out (subst (InSpan f n rows) (inverse_multiple f b.0 (suc a) g is.fits (mul_comm f b.0 (suc a) ∙ b.1.one)) (span_scale f n rows b.0 (scale f (suc a) g) multiple)))

abbrev pub AreVectors : FieldName → ℕ → (ℕ → List ℕ) → Type 0
AreVectors f n vector = (i : ℕ) → IsWord f n (vector i)

-- the same indexes in another order, of which none has a vector in the span of those after it
pub record Taken (f : FieldName) (n : ℕ) (vector : ℕ → List ℕ) (taken : List ℕ) : Type 0 where
  pub back : List ℕ
  pub inside : (i : ℕ) → Contains back i → Contains taken i
  pub all : (i : ℕ) → Contains taken i → Contains back i
  pub independent : AreIndependent f n (map vector back)
  pub distinct : AreDistinct back

pub taken_none : (f : FieldName) (n : ℕ) (vector : ℕ → List ℕ) → Taken f n vector []
taken_none f n vector = record {
  back = [];
  inside = λ i l. l;
  all = λ i l. l;
  independent = nothing;
  distinct = tt;
}
  where
    nothing : (cs : List ℕ) → IsWord f 0 cs → combine f n cs [] ≡ zero_word n → cs ≡ zero_word 0
    nothing [] w e = refl
    nothing (c ∷ cs) w e = absurd (omega (arith, w.long))

pub taken_more : (f : FieldName) (n : ℕ) (vector : ℕ → List ℕ) (taken : List ℕ) (i : ℕ) → AreVectors f n vector → Taken f n vector taken → (InSpan f n (map vector taken) (vector i) → ⊥) → Taken f n vector (taken ++ i ∷ [])
taken_more f n vector taken i h t out = record {
  back = i ∷ t.back;
  inside = λ j l. ⊎_elim (λ e. Contains-append_right taken (i ∷ []) j (subst (Contains (i ∷ [])) e (contains_head i []))) (λ m. Contains-append_left taken (i ∷ []) j (t.inside j m)) (contains_cases i j t.back l);
  all = λ j l. ⊎_elim (λ m. contains_tail i j t.back (t.all j m)) (λ m. ⊎_elim (λ e. subst (Contains (i ∷ t.back)) e (contains_head i t.back)) (λ s. absurd (no_member j s)) (contains_cases i j [] m)) (Contains-append_cases taken (i ∷ []) j l);
  independent = independent_cons f n (vector i) (map vector t.back) (h i) (vectors_are_rows f n vector t.back h) t.independent (λ s. out (set_wider f n vector t.back taken (vector i) h t.inside s));
  distinct = ((λ l. out (span_of_member f n (map vector taken) (vector i) (vectors_are_rows f n vector taken h) (map_contains vector taken i (t.inside i l)))), t.distinct);
}

pub record Greedy (f : FieldName) (n : ℕ) (vector : ℕ → List ℕ) (taken order result : List ℕ) : Type 0 where
  pub part : Taken f n vector result
  pub keeps : (i : ℕ) → Contains taken i → Contains result i
  pub spans : (i : ℕ) → Contains order i → InSpan f n (map vector result) (vector i)
  pub within : (i : ℕ) → Contains result i → Contains taken i ⊎ Contains order i

pub greedy_is : (f : FieldName) (n : ℕ) (vector : ℕ → List ℕ) (taken order : List ℕ) → AreVectors f n vector → Taken f n vector taken → Greedy f n vector taken order (greedy f n vector taken order)
unfolding greedy
greedy_is f n vector taken [] h t = record {
  part = t;
  keeps = λ i l. l;
  spans = λ i l. absurd (no_member i l);
  within = λ i l. inl l;
}
greedy_is f n vector taken (i ∷ order) h t =
    let goal = λ (b : Bool). Greedy f n vector taken (i ∷ order) (cond b (greedy f n vector taken order) (greedy f n vector (taken ++ i ∷ []) order)) in
    ⊎_elim
    (λ e. subst goal (sym e) (
    let r = greedy_is f n vector taken order h t in
    let here = in_span_true f n (map vector taken) (vector i) e in
    record {
      part = r.part;
      keeps = r.keeps;
      spans = λ j l. ⊎_elim (λ s. subst (λ k. InSpan f n (map vector (greedy f n vector taken order)) (vector k)) s (set_wider f n vector taken (greedy f n vector taken order) (vector i) h r.keeps here)) (λ m. r.spans j m) (contains_cases i j order l);
      within = λ j l. ⊎_elim (λ m. inl m) (λ m. inr (contains_tail i j order m)) (r.within j l);
    }))
    (λ e. subst goal (sym e) (
    let more = taken ++ i ∷ [] in
    let result = greedy f n vector more order in
    let out : InSpan f n (map vector taken) (vector i) → ⊥ = λ s. false≢true (sym e ∙ true_in_span f n (map vector taken) (vector i) s) in
    let r = greedy_is f n vector more order h (taken_more f n vector taken i h t out) in
    let added : Contains result i = r.keeps i (Contains-append_right taken (i ∷ []) i (contains_head i [])) in
    record {
      part = r.part;
      keeps = λ j l. r.keeps j (Contains-append_left taken (i ∷ []) j l);
      spans = λ j l. ⊎_elim (λ s. subst (λ k. InSpan f n (map vector result) (vector k)) s (span_of_member f n (map vector result) (vector i) (vectors_are_rows f n vector result h) (map_contains vector result i added))) (λ m. r.spans j m) (contains_cases i j order l);
      within = λ j l. ⊎_elim
          (λ m. ⊎_elim (λ s. inl s) (λ s. ⊎_elim (λ q. inr (subst (Contains (i ∷ order)) q (contains_head i order))) (λ q. absurd (no_member j q)) (contains_cases i j [] s)) (Contains-append_cases taken (i ∷ []) j m))
          (λ m. inr (contains_tail i j order m))
          (r.within j l);
    }))
    (cases_Bool (in_span f n (map vector taken) (vector i)))

pub columns_are : (f : FieldName) (n : ℕ) (rows : List (List ℕ)) → AreRows f n rows → AreVectors f (length rows) (column rows)
columns_are f n rows r p = column_word f n rows p r

pub spanning_square : (f : FieldName) (n : ℕ) (rows : List (List ℕ)) (set : List ℕ) → AreRows f n rows → AreIndependent f n rows → ((p : ℕ) → p < n → InSpan f (length rows) (map (column rows) set) (column rows p)) → AreIndependent f (length set) (map (restrict set) rows)
spanning_square f n rows set r h spans cs w e =
    let many : length (map (restrict set) rows) ≡ length rows = length-map rows (restrict set) in
    let is : IsWord f (length rows) cs = subst (λ k. IsWord f k cs) many w in
    let word = combine f n cs rows in
    let on : restrict set word ≡ zero_word (length set) = combine_restrict f n set cs rows r ∙ e in
    let orthogonal : IsOrthogonal f (map (column rows) set) cs = each_contained (λ row. word_dot f row cs ≡ 0) (map (column rows) set) (λ x l.
    let t = contains_map (column rows) set x l in
    let p : ℕ = t.0 in
    let j : ℕ = t.1.0 in
    let place : slice_index set j ≡ p = get_or_default set j 0 p t.1.1 ∙ t.1.2 in
    let nothing : slice_index word p ≡ 0 = ap (slice_index word) (sym place) ∙ sym (index_restrict set word j t.1.1) ∙ ap (λ v. slice_index v j) on ∙ index_zero_word (length set) j in
    ap (λ v. word_dot f v cs) t.2 ∙ dot_comm f (column rows p) cs ∙ sym (index_combine f n cs rows p r) ∙ nothing) in
    let zero_there : word ≡ zero_word n = ext_get_or 0 word (zero_word n) (length_combine f n cs rows r ∙ sym (length_zero_word n)) (λ p l.
    let inside : p < n = omega (arith, l, length_combine f n cs rows r) in
    index_combine f n cs rows p r ∙ dot_comm f cs (column rows p) ∙ dot_span f (length rows) (map (column rows) set) cs (column rows p) (vectors_are_rows f (length rows) (column rows) set (columns_are f n rows r)) orthogonal (spans p inside) ∙ sym (index_zero_word n p)) in
    h cs is zero_there ∙ ap zero_word (sym many)

pub record IsBasis (f : FieldName) (n : ℕ) (rows : List (List ℕ)) (set : List ℕ) : Type 0 where
  pub many : length set ≡ length rows
  pub square : AreIndependent f (length set) (map (restrict set) rows)

pub record HasColumns (n : ℕ) (order : List ℕ) : Type 0 where
  pub all : (p : ℕ) → p < n → Contains order p
  pub inside : (p : ℕ) → Contains order p → p < n

basis_is : (f : FieldName) (n : ℕ) (rows : List (List ℕ)) (order : List ℕ) → first_basis f n rows order ≡ filter (is_member (greedy f (length rows) (column rows) [] order)) (below n)
unfolding first_basis
basis_is f n rows order = refl

pub first_basis_is : (f : FieldName) (n : ℕ) (rows : List (List ℕ)) (order : List ℕ) → AreRows f n rows → AreIndependent f n rows → HasColumns n order → IsBasis f n rows (first_basis f n rows order)
first_basis_is f n rows order r h columns =
    let k = length rows in
    let vector = column rows in
    let are = columns_are f n rows r in
    let chosen = greedy f k vector [] order in
    let g = greedy_is f k vector [] order are (taken_none f k vector) in
    let set = filter (is_member chosen) (below n) in
    let t = g.part in
    let below_n : (i : ℕ) → Contains chosen i → i < n = λ i l. ⊎_elim (λ m. absurd (no_member i m)) (λ m. columns.inside i m) (g.within i l) in
    let to_set : (i : ℕ) → Contains chosen i → Contains set i = λ i l. filter_keeps (is_member chosen) (below n) i (below_contains n i (below_n i l)) (member_true chosen i l) in
    let from_set : (i : ℕ) → Contains set i → Contains chosen i = λ i l. true_member chosen i (filter_passes (is_member chosen) (below n) i l).passes in
    let spans : (p : ℕ) → p < n → InSpan f k (map vector set) (vector p) = λ p l. set_wider f k vector chosen set (vector p) are to_set (g.spans p (columns.all p l)) in
    let square = spanning_square f n rows set r h spans in
    let few : length (map (restrict set) rows) ≤ length set = independent_few f (length set) (map (restrict set) rows) (restricted_rows f n set rows r) square in
    let rows_few : length (map vector t.back) ≤ k = independent_few f k (map vector t.back) (vectors_are_rows f k vector t.back are) t.independent in
    let shorter : length set ≤ length t.back = distinct_at_most set t.back (distinct_filter (is_member chosen) (below n) (distinct_below n)) (λ i l. t.all i (from_set i l)) in
    let basis : IsBasis f n rows set = record {
      many = omega (arith, few, rows_few, shorter, length-map rows (restrict set), length-map t.back vector);
      square = square;
    } in
    subst (IsBasis f n rows) (sym (basis_is f n rows order)) basis

pub in_order : (n : ℕ) (used : List ℕ) → HasColumns n (columns_in_order n used)
unfolding columns_in_order
in_order n used =
    let fresh = filter (λ c. not (is_member used c)) (below n) in
    let old = filter (is_member used) (below n) in
    record {
      all = λ p l.
          ⊎_elim
          (λ t. Contains-append_right fresh old p (filter_keeps (is_member used) (below n) p (below_contains n p l) t))
          (λ t. Contains-append_left fresh old p (filter_keeps (λ c. not (is_member used c)) (below n) p (below_contains n p l) (not_from_false (is_member used p) t)))
          (cases_Bool (is_member used p));
      inside = λ p l. ⊎_elim (λ m. contains_below n p (filter_passes (λ c. not (is_member used c)) (below n) p m).member) (λ m. contains_below n p (filter_passes (is_member used) (below n) p m).member) (Contains-append_cases fresh old p l);
    }

abbrev pub HasBasis : FieldName → ℕ → List (List ℕ) → InformationSet → Type 0
HasBasis f n rows s = IsBasis f n rows s.basis

pub next_basis : (f : FieldName) (n : ℕ) (rows : List (List ℕ)) (used : List ℕ) → AreRows f n rows → AreIndependent f n rows → HasBasis f n rows (next_set f n rows used)
unfolding next_set with_fresh
next_basis f n rows used r h = first_basis_is f n rows (columns_in_order n used) r h (in_order n used)

pub bases_after : (f : FieldName) (n : ℕ) (rows : List (List ℕ)) (most : ℕ) (used : List ℕ) → AreRows f n rows → AreIndependent f n rows → All (HasBasis f n rows) (sets_after f n rows used most)
unfolding sets_after
bases_after f n rows zero used r h = All-nil (HasBasis f n rows)
bases_after f n rows (suc most) used r h =
    let s = next_set f n rows used in
    let rest = sets_after f n rows (used ++ s.fresh) most in
    let goal = λ (b : Bool). All (HasBasis f n rows) (cond b (s ∷ rest) []) in
    ⊎_elim
    (λ t. subst goal (sym t) (All-cons (HasBasis f n rows) s rest (next_basis f n rows used r h) (bases_after f n rows most (used ++ s.fresh) r h)))
    (λ t. subst goal (sym t) (All-nil (HasBasis f n rows)))
    (cases_Bool (nat_le (length rows) (2 * length s.fresh)))

pub bases_are : (f : FieldName) (n : ℕ) (rows : List (List ℕ)) → AreRows f n rows → AreIndependent f n rows → All (HasBasis f n rows) (information_sets f n rows)
unfolding information_sets
bases_are f n rows r h = All-cons (HasBasis f n rows) (next_set f n rows []) (sets_after f n rows (next_set f n rows []).fresh n) (next_basis f n rows [] r h) (bases_after f n rows n (next_set f n rows []).fresh r h)

sets_are : (C : Matrix) → sets_of C ≡ information_sets C.field C.columns C.rows
unfolding sets_of
sets_are C = refl

pub generator_is : (C : Matrix) (j : ℕ) → generator_at C j ≡ systematic C.field C.columns C.rows (set_at C j).basis
unfolding generator_at
generator_is C j = refl

pub generators_are : (C : Matrix) → AreRows C.field C.columns C.rows → AreIndependent C.field C.columns C.rows → AreGenerators C
generators_are C r h j l =
    let b : HasBasis C.field C.columns C.rows (set_at C j) = All-contains (HasBasis C.field C.columns C.rows) (sets_of C) (set_at C j) (subst (All (HasBasis C.field C.columns C.rows)) (sym (sets_are C)) (bases_are C.field C.columns C.rows r h)) (set_listed C j l) in
    (b.many, subst (IsSystematic C.field C.columns C.rows (set_at C j).basis) (sym (generator_is C j)) (systematic_from_square C.field C.columns C.rows (set_at C j).basis r b.many b.square))

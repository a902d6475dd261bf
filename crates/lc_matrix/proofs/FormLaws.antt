-- What an elimination gives, in the words of reduced and systematic matrices.
--   zero_rows_dropped      rows that are 0 may be left out at the end
--   pivots_of, echelon_of  over all columns in order: the reduced matrix and its places
--   rank_is                its number of rows is the rank
--   rest_none, rest_more, rest_told, in_span_made      a word less multiples of reduced rows
--   rise, full             rising places: place i is at least i, and is i if there are as many as they may be
--   IsGap, gap_from        else there is a first place that is left out
--   systematic_of          over a set whose columns are all taken: the systematic matrix
--   dependent_of           if a column is left out, the columns are dependent
--   echelon_made, systematic_made, dependent_made      the same, in the shape of the calls
use Rattle.std.proofs.Common.{◌≡◌, ◌≢◌, ℕ, zero, suc, ◌+◌, ◌-◌, ◌<◌, ◌≤◌, ◌↔◌, Bool, IsTrue, inl, inr, ◌==◌, List, [], ◌∷◌, ◌++◌, length, map, take, slice_index, slice_index_or, Contains, sym, ap, subst, ◌∙◌, ⊎_elim, arith}
use Rattle.std.proofs.lemmas.Bool.{cases_eq, cases_lt, eq-eqb, ne_eqb, eqb-true}
use Rattle.std.proofs.lemmas.List.{length-take-le, get_or-take, get_or_default, get_or-map, length-map, ext_get_or, length-append}
use Rattle.std.proofs.Math.ListN.{get_or-append}
use Rattle.std.proofs.Math.Seq.{get_or-append_right}
use Rattle.std.proofs.lemmas.List.Elements.{All-take, Contains-get_or}
use Rattle.lc_algebra.specs.declared.FieldName.{FieldName}
use Rattle.lc_algebra.specs.Field.{size, add, mul, neg}
use Rattle.lc_algebra.specs.Word.{IsWord, zero_word, word_sum, scale, word_dot, weight}
use Rattle.lc_algebra.specs.Span.{InSpan, SameSpan}
use Rattle.lc_algebra.specs.Matrix.{AreRows, HasPivots, IsEchelon, IsSystematic, AreIndependentColumns, Matrix, entry}
use Rattle.lc_algebra.specs.SpanLaws.{restrict}
use Rattle.lc_algebra.proofs.FieldLaws.{zero_inside, zero_add, add_neg, mul_zero, zero_mul, mul_one, neg_inside, neg_one_mul}
use Rattle.lc_algebra.proofs.WordLaws.{length_scale, length_zero_word, index_zero_word, index_scale, index_word_sum, word_symbol, multiple_undone, IsWord_sum, neg_one_nonzero, weight_zero}
use Rattle.lc_algebra.proofs.SpanLaws.{span_row, span_sum, span_scale, span_zero, span_but_zeros, same_span_transitive}
use Rattle.lc_algebra.proofs.ReducedLaws.{reduced_told, echelon_unique, dot_nothing}
use Rattle.lc_algebra.proofs.ColumnLaws.{length_restrict, index_restrict, relation_from_columns, independent_columns_shared}
use Rattle.lc_matrix.specs.Elimination.{IsReducedTo, IsInOrder, IsRest}
use Rattle.lc_matrix.proofs.PlaceLaws.{dot_two}

pub zero_rows_dropped : (f : FieldName) (n r : ℕ) (rows : List (List ℕ)) → AreRows f n rows → r ≤ length rows → ((j : ℕ) → r ≤ j → j < length rows → slice_index_or rows j [] ≡ zero_word n) → SameSpan f n rows (take r rows)
zero_rows_dropped f n r rows w l z =
    let long : length (take r rows) ≡ r = length-take-le r rows l in
    span_but_zeros f n rows (take r rows) w (All-take (IsWord f n) r rows w)
    (λ k d m. ⊎_elim
    (λ a. inr (subst (Contains (take r rows)) (get_or-take r rows k d a) (Contains-get_or (take r rows) k d (omega (arith, a, long)))))
    (λ a. inl (get_or_default rows k d [] m ∙ z k a m))
    (cases_lt k r))
    (λ k d m. let a : k < r = omega (arith, m, long) in inr (subst (Contains rows) (sym (get_or-take r rows k d a)) (Contains-get_or rows k d (omega (arith, a, l)))))

zero_row : (f : FieldName) (n : ℕ) (order at : List ℕ) (rows : List (List ℕ)) → AreRows f n rows → IsInOrder n order → IsReducedTo order (length order) at rows → (j : ℕ) → length at ≤ j → j < length rows → slice_index_or rows j [] ≡ zero_word n
zero_row f n order at rows w o h j l m =
    ext_get_or 0 (slice_index_or rows j []) (zero_word n) ((w j [] m).long ∙ sym (length_zero_word n)) (λ c k.
    let b : c < n = omega (arith, k, (w j [] m).long) in
    ap (λ x. entry rows j x) (sym (o.entries c b)) ∙ h.below j c l m (omega (arith, b, o.count)) ∙ sym (index_zero_word n c))

pub pivots_of : (n : ℕ) (order at : List ℕ) (rows : List (List ℕ)) → IsInOrder n order → IsReducedTo order (length order) at rows → HasPivots n at (take (length at) rows)
pivots_of n order at rows o h =
    let r = length at in
    let long : length (take r rows) ≡ r = length-take-le r rows h.at_most in
    let here : (i c : ℕ) → i < r → entry (take r rows) i c ≡ entry rows i c = λ i c l. ap (λ u. slice_index u c) (get_or-take r rows i [] l) in
    let col : (s : ℕ) → s < length order → slice_index order s ≡ s = λ s l. o.entries s (omega (arith, l, o.count)) in
    record {
      count = sym long;
      inside = λ i l. omega (arith, h.inside i l, o.count);
      rises = h.rises;
      before = λ i c l m.
          let a : i < r = omega (arith, l, long) in
          here i c a ∙ ap (entry rows i) (sym (col c (omega (arith, m, h.inside i a)))) ∙ h.before i c a m;
      leads = λ i l.
          let a : i < r = omega (arith, l, long) in
          here i (slice_index at i) a ∙ ap (entry rows i) (sym (col (slice_index at i) (h.inside i a))) ∙ h.leads i a;
      clears = λ i j l m q.
          let a : i < r = omega (arith, l, long) in
          let b : j < r = omega (arith, m, long) in
          here j (slice_index at i) b ∙ ap (entry rows j) (sym (col (slice_index at i) (h.inside i a))) ∙ h.clears i j a (omega (arith, b, h.at_most)) q;
    }

pub echelon_of : (f : FieldName) (n : ℕ) (order at : List ℕ) (original rows : List (List ℕ)) → AreRows f n rows → SameSpan f n original rows → IsInOrder n order → IsReducedTo order (length order) at rows → IsEchelon f n original (take (length at) rows)
echelon_of f n order at original rows w s o h =
    record {
      same = same_span_transitive f n original rows (take (length at) rows) s (zero_rows_dropped f n (length at) rows w h.at_most (zero_row f n order at rows w o h));
      reduced = record { pivots = (at, pivots_of n order at rows o h) };
      words = All-take (IsWord f n) (length at) rows w;
    }

pub rank_is : (f : FieldName) (n r : ℕ) (rows d : List (List ℕ)) → IsEchelon f n rows d → r ≡ length d → (e : List (List ℕ)) → IsEchelon f n rows e → length e ≡ r
rank_is f n r rows d h e x k = ap length (echelon_unique f n rows x d k h) ∙ sym e

pub rest_none : (f : FieldName) (n : ℕ) (ps : List ℕ) (rows : List (List ℕ)) (w : List ℕ) → IsWord f n w → IsRest f n ps rows w 0 w
rest_none f n ps rows w h = record { word = h; same = (λ a. a, λ a. a); zeros = λ j l. absurd (omega (arith, l)) }

pub rest_more : (f : FieldName) (n i : ℕ) (ps : List ℕ) (rows : List (List ℕ)) (w rest new : List ℕ) → AreRows f n rows → HasPivots n ps rows → IsRest f n ps rows w i rest → i < length ps → new ≡ word_sum f rest (scale f (neg f (slice_index rest (slice_index ps i))) (slice_index_or rows i [])) → IsRest f n ps rows w (i + 1) new
rest_more f n i ps rows w rest new r p h l q =
    let g = slice_index_or rows i [] in
    let a = slice_index rest (slice_index ps i) in
    let m : i < length rows = omega (arith, l, p.count) in
    let row = r i [] m in
    let is = word_sum f rest (scale f (neg f a) g) in
    let inside : InSpan f n rows g = span_row f n rows r i [] m in
    let symbol : (c : ℕ) → slice_index is c ≡ add f (slice_index rest c) (mul f (neg f a) (slice_index g c)) = λ c. index_word_sum f rest (scale f (neg f a) g) c (h.word.long ∙ sym (length_scale f (neg f a) g ∙ row.long)) ∙ ap (add f (slice_index rest c)) (index_scale f (neg f a) g c) in
    subst (IsRest f n ps rows w (i + 1)) (sym q) (record {
      word = IsWord_sum f n rest (scale f (neg f a) g) h.word.long (length_scale f (neg f a) g ∙ row.long);
      same = (λ x. span_sum f n rows rest (scale f (neg f a) g) (h.same.0 x) (span_scale f n rows (neg f a) g inside), λ x. h.same.1 (subst (InSpan f n rows) (multiple_undone f n (neg f a) rest g h.word row.long) (span_sum f n rows is (scale f (neg f (neg f a)) g) x (span_scale f n rows (neg f (neg f a)) g inside))));
      zeros = λ j k. ⊎_elim
          (λ e. subst (λ x. slice_index is (slice_index ps x) ≡ 0) (sym e) (symbol (slice_index ps i) ∙ ap (λ x. add f a (mul f (neg f a) x)) (p.leads i m) ∙ ap (add f a) (mul_one f (neg f a) (neg_inside f a)) ∙ add_neg f a))
          (λ o.
          let b : j < i = ⊎_elim (λ x. x) (λ x. absurd (o (omega (arith, x, k)))) (cases_lt j i) in
          symbol (slice_index ps j) ∙ ap (λ x. add f x (mul f (neg f a) (slice_index g (slice_index ps j)))) (h.zeros j b) ∙ ap (λ x. add f 0 (mul f (neg f a) x)) (p.clears j i (omega (arith, b, m)) m o) ∙ ap (add f 0) (mul_zero f (neg f a)) ∙ zero_add f 0 (zero_inside f))
          (cases_eq j i);
    })

pub rest_told : (f : FieldName) (n k : ℕ) (ps : List ℕ) (rows : List (List ℕ)) (w rest : List ℕ) → AreRows f n rows → HasPivots n ps rows → IsRest f n ps rows w (length ps) rest → k ≡ weight rest → IsTrue (k == 0) ↔ InSpan f n rows w
rest_told f n k ps rows w rest r p h q =
    let told = weight_zero n rest h.word.long in
    (λ t. h.same.1 (subst (InSpan f n rows) (sym (told.0 (sym q ∙ eqb-true k 0 t))) (span_zero f n rows r)), λ x. eq-eqb k 0 (q ∙ told.1 (reduced_told f n ps rows rest (zero_word n) r p (h.same.0 x) (span_zero f n rows r) (λ j m. h.zeros j m ∙ sym (index_zero_word n (slice_index ps j))))))

pub in_span_made : (original e : Matrix) (w old : List ℕ) (b : Bool) → e.field ≡ original.field → e.columns ≡ original.columns → IsEchelon original.field original.columns original.rows e.rows → old ≡ w → (IsTrue b ↔ InSpan e.field e.columns e.rows old) → IsTrue b ↔ InSpan original.field original.columns original.rows w
in_span_made original e w old b ef ec h eo t =
    let s = subst (λ x. IsTrue b ↔ InSpan original.field original.columns e.rows x) eo (subst (λ x. IsTrue b ↔ InSpan original.field x e.rows old) ec (subst (λ x. IsTrue b ↔ InSpan x e.columns e.rows old) ef t)) in
    (λ x. (h.same w).1 (s.0 x), λ x. s.1 ((h.same w).0 x))

pub rise : (at : List ℕ) → ((i j : ℕ) → i < j → j < length at → slice_index at i < slice_index at j) → (i : ℕ) → i < length at → i ≤ slice_index at i
rise at r zero l = omega arith
rise at r (suc i) l = omega (arith, rise at r i (omega (arith, l)), r i (suc i) (omega arith) l)

above : (k i t : ℕ) (at : List ℕ) → ((i j : ℕ) → i < j → j < length at → slice_index at i < slice_index at j) → ((i : ℕ) → i < length at → slice_index at i < t) → i + suc k ≡ length at → slice_index at i + suc k ≤ t
above zero i t at r b e = omega (arith, b i (omega (arith, e)))
above (suc k) i t at r b e = omega (arith, above k (suc i) t at r b (omega (arith, e)), r i (suc i) (omega arith) (omega (arith, e)))

pub full : (t : ℕ) (at : List ℕ) → ((i j : ℕ) → i < j → j < length at → slice_index at i < slice_index at j) → ((i : ℕ) → i < length at → slice_index at i < t) → t ≤ length at → (i : ℕ) → i < length at → slice_index at i ≡ i
full t at r b e i l =
    let k = length at - suc i in
    omega (arith, rise at r i l, above k i t at r b (omega (arith, l)), e)

pub systematic_of : (f : FieldName) (n : ℕ) (set at : List ℕ) (original rows : List (List ℕ)) → AreRows f n rows → SameSpan f n original rows → IsReducedTo set (length set) at rows → length set ≡ length rows → length set ≤ length at → IsSystematic f n original set rows
systematic_of f n set at original rows w s h e k =
    let place : (i : ℕ) → i < length set → slice_index at i ≡ i = λ i l. full (length set) at h.rises h.inside k i (omega (arith, l, k)) in
    record {
      same = s;
      words = w;
      count = sym e;
      identity = λ i j l m.
          let a : j < length at = omega (arith, m, k) in
          let col : slice_index set (slice_index at j) ≡ slice_index set j = ap (slice_index set) (place j m) in
          ⊎_elim
          (λ q. rw (eq-eqb i j q) (ap (λ x. entry rows x (slice_index set j)) q ∙ ap (entry rows j) (sym col) ∙ h.leads j a))
          (λ q. rw (ne_eqb i j q) (ap (entry rows i) (sym col) ∙ h.clears j i a l (λ x. q (sym x))))
          (cases_eq i j);
    }

at_least : (i g : ℕ) → g ≤ i → i ≢ g → g < i
at_least i g l o = ⊎_elim (λ a. a) (λ a. absurd (o (omega (arith, a, l)))) (cases_lt g i)

at_seam : (front rest : List ℕ) (x g : ℕ) → length front ≡ g → slice_index (front ++ x ∷ rest) g ≡ x
at_seam front rest x g e =
    let k : g - length front ≡ 0 = omega (arith, e) in
    get_or-append_right front (x ∷ rest) g 0 (omega (arith, e)) ∙ ap (slice_index (x ∷ rest)) k

past_seam : (front : List ℕ) (x m i g : ℕ) → length front ≡ g → g < i → slice_index (front ++ x ∷ zero_word m) i ≡ 0
past_seam front x m i g e l =
    let k : i - length front ≡ suc (i - suc g) = omega (arith, e, l) in
    get_or-append_right front (x ∷ zero_word m) i 0 (omega (arith, e, l)) ∙ ap (slice_index (x ∷ zero_word m)) k ∙ index_zero_word m (i - suc g)

record IsGap (at : List ℕ) (g : ℕ) : Type 0 where
  inside : g ≤ length at
  first : (i : ℕ) → i < g → slice_index at i ≡ i
  after : (i : ℕ) → g ≤ i → i < length at → g < slice_index at i

gap_from : (k m : ℕ) (at : List ℕ) → m + k ≡ length at → ((i j : ℕ) → i < j → j < length at → slice_index at i < slice_index at j) → ((i : ℕ) → i < m → slice_index at i ≡ i) → (g : ℕ) × IsGap at g
gap_from zero m at e r h = (m, record { inside = omega (arith, e); first = h; after = λ i l o. absurd (omega (arith, l, o, e)) })
gap_from (suc k) m at e r h =
    ⊎_elim
    (λ a. gap_from k (suc m) at (omega (arith, e)) r (λ i l. ⊎_elim (λ b. h i b) (λ b. let q : i ≡ m = omega (arith, b, l) in subst (λ x. slice_index at x ≡ x) (sym q) a) (cases_lt i m)))
    (λ a.
    let up : m < slice_index at m = at_least (slice_index at m) m (rise at r m (omega (arith, e))) a in (
      m,
      record {
        inside = omega (arith, e);
        first = h;
        after = λ i l o. ⊎_elim (λ b. omega (arith, up, r m i b o)) (λ b. let q : m ≡ i = omega (arith, b, l) in subst (λ x. m < slice_index at x) q up) (cases_lt m i);
      },
    ))
    (cases_eq (slice_index at m) m)

pub dependent_of : (f : FieldName) (n : ℕ) (set at : List ℕ) (original rows : List (List ℕ)) → AreRows f n original → AreRows f n rows → SameSpan f n original rows → IsReducedTo set (length set) at rows → length at < length set → AreIndependentColumns f original set → ⊥
dependent_of f n set at original rows r w s h k ind =
    let found = gap_from (length at) 0 at (omega arith) h.rises (λ i l. absurd (omega (arith, l))) in
    let g = found.0 in
    let gap = found.1 in
    let c = slice_index set g in
    let here : g < length set = omega (arith, gap.inside, k) in
    let front = map (λ row. slice_index row c) (take g rows) in
    let long_front : length front ≡ g = length-map (take g rows) (λ row. slice_index row c) ∙ length-take-le g rows (omega (arith, gap.inside, h.at_most)) in
    let rest = zero_word (length set - suc g) in
    let xs = front ++ neg f 1 ∷ rest in
    let long : length xs ≡ length set = omega (arith, length-append front (neg f 1 ∷ rest), long_front, length_zero_word (length set - suc g), here) in
    let low : (i : ℕ) → i < g → slice_index xs i ≡ entry rows i c = λ i l. get_or-append front (neg f 1 ∷ rest) 0 i (omega (arith, l, long_front)) ∙ get_or-map (λ row. slice_index row c) (take g rows) i [] 0 (omega (arith, l, length-take-le g rows (omega (arith, gap.inside, h.at_most)))) ∙ ap (λ u. slice_index u c) (get_or-take g rows i [] l) in
    let mid : slice_index xs g ≡ neg f 1 = at_seam front rest (neg f 1) g long_front in
    let high : (i : ℕ) → g < i → slice_index xs i ≡ 0 = λ i l. past_seam front (neg f 1) (length set - suc g) i g long_front l in
    let word : IsWord f (length set) xs = record {
      long = long;
      fits = λ i l. ⊎_elim
          (λ a. rw (low i a) (word_symbol f n (slice_index_or rows i []) (w i [] (omega (arith, a, gap.inside, h.at_most))) c))
          (λ a. ⊎_elim
          (λ e. subst (λ x. slice_index xs x < size f) (sym e) (rw mid (neg_inside f 1)))
          (λ o. rw (high i (at_least i g a o)) (zero_inside f))
          (cases_eq i g))
          (cases_lt i g);
    } in
    let zero_at : (j i : ℕ) → j < length rows → i < g → i ≢ j → entry rows j (slice_index set i) ≡ 0 = λ j i l m o. ap (λ x. entry rows j (slice_index set x)) (sym (gap.first i m)) ∙ h.clears i j (omega (arith, m, gap.inside)) l o in
    let at_gap : (j : ℕ) → j < length rows → g ≤ j → entry rows j c ≡ 0 = λ j l m. ⊎_elim (λ a. h.before j g a (gap.after j m a)) (λ a. h.below j g a l here) (cases_lt j (length at)) in
    let relation : (j : ℕ) → j < length rows → word_dot f xs (restrict set (slice_index_or rows j [])) ≡ 0 = λ j l.
    let us = restrict set (slice_index_or rows j []) in
    let us_long : length us ≡ length set = length_restrict set (slice_index_or rows j []) in
    let us_at : (i : ℕ) → i < length set → slice_index us i ≡ entry rows j (slice_index set i) = λ i m. index_restrict set (slice_index_or rows j []) i m in
    ⊎_elim
    (λ a.
    let one : slice_index us j ≡ 1 = us_at j (omega (arith, a, here)) ∙ ap (λ x. entry rows j (slice_index set x)) (sym (gap.first j a)) ∙ h.leads j (omega (arith, a, gap.inside)) in
    let b : entry rows j c < size f = word_symbol f n (slice_index_or rows j []) (w j [] l) c in
    dot_two f xs us j g a (λ i m o q. ⊎_elim
    (λ x. ap (mul f (slice_index xs i)) (us_at i (omega (arith, m, us_long)) ∙ zero_at j i l x o) ∙ mul_zero f (slice_index xs i))
    (λ x. ap (λ y. mul f y (slice_index us i)) (high i (at_least i g x q)) ∙ zero_mul f (slice_index us i))
    (cases_lt i g)) ∙ ap (λ y. add f (mul f y (slice_index us j)) (mul f (slice_index xs g) (slice_index us g))) (low j a) ∙ ap (λ y. add f (mul f (entry rows j c) y) (mul f (slice_index xs g) (slice_index us g))) one ∙ ap (λ y. add f y (mul f (slice_index xs g) (slice_index us g))) (mul_one f (entry rows j c) b) ∙ ap (λ y. add f (entry rows j c) (mul f y (slice_index us g))) mid ∙ ap (λ y. add f (entry rows j c) (mul f (neg f 1) y)) (us_at g here) ∙ ap (add f (entry rows j c)) (neg_one_mul f (entry rows j c)) ∙ add_neg f (entry rows j c))
    (λ a. dot_nothing f xs us (λ i m. ⊎_elim
    (λ x. ap (mul f (slice_index xs i)) (us_at i (omega (arith, m, us_long)) ∙ zero_at j i l x (λ e. omega (arith, e, x, a))) ∙ mul_zero f (slice_index xs i))
    (λ x. ⊎_elim
    (λ e. ap (mul f (slice_index xs i)) (us_at i (omega (arith, m, us_long)) ∙ ap (λ y. entry rows j (slice_index set y)) e ∙ at_gap j l a) ∙ mul_zero f (slice_index xs i))
    (λ o. ap (λ y. mul f y (slice_index us i)) (high i (at_least i g x o)) ∙ zero_mul f (slice_index us i))
    (cases_eq i g))
    (cases_lt i g)))
    (cases_lt j g) in
    let independent = independent_columns_shared f n original rows set r w s ind in
    let nothing : xs ≡ zero_word (length set) = relation_from_columns f n rows set xs w independent word (λ j d l. rw (get_or_default rows j d [] l) (relation j l)) in
    omega (arith, neg_one_nonzero f, sym mid ∙ ap (λ u. slice_index u g) nothing ∙ index_zero_word (length set) g)

pub echelon_made : (original copy reduced kept : Matrix) (n r : ℕ) (order read at : List ℕ) → copy ≡ original → reduced.field ≡ copy.field → reduced.columns ≡ copy.columns → AreRows reduced.field reduced.columns reduced.rows → SameSpan copy.field copy.columns copy.rows reduced.rows → n ≡ original.columns → IsInOrder n order → read ≡ order → IsReducedTo read (length read) at reduced.rows → r ≡ length at → kept.rows ≡ take r reduced.rows → IsEchelon original.field original.columns original.rows kept.rows × HasPivots original.columns at kept.rows
echelon_made original copy reduced kept n r order read at es ef ec w s en o er h el ek =
    let words : AreRows copy.field copy.columns reduced.rows = subst (λ x. AreRows x copy.columns reduced.rows) ef (subst (λ x. AreRows reduced.field x reduced.rows) ec w) in
    let in_order : IsInOrder copy.columns order = subst (λ x. IsInOrder x order) (en ∙ ap (λ (x : Matrix). x.columns) (sym es)) o in
    let state : IsReducedTo order (length order) at reduced.rows = subst (λ x. IsReducedTo x (length x) at reduced.rows) er h in
    let rows : kept.rows ≡ take (length at) reduced.rows = ek ∙ ap (λ x. take x reduced.rows) el in
    let a : IsEchelon copy.field copy.columns copy.rows kept.rows = subst (IsEchelon copy.field copy.columns copy.rows) (sym rows) (echelon_of copy.field copy.columns order at copy.rows reduced.rows words s in_order state) in
    let b : HasPivots copy.columns at kept.rows = subst (HasPivots copy.columns at) (sym rows) (pivots_of copy.columns order at reduced.rows in_order state) in
    (subst (λ (x : Matrix). IsEchelon x.field x.columns x.rows kept.rows) es a, subst (λ (x : Matrix). HasPivots x.columns at kept.rows) es b)

pub systematic_made : (original copy reduced : Matrix) (set at : List ℕ) → copy ≡ original → reduced.field ≡ copy.field → reduced.columns ≡ copy.columns → AreRows reduced.field reduced.columns reduced.rows → SameSpan copy.field copy.columns copy.rows reduced.rows → length reduced.rows ≡ length copy.rows → IsReducedTo set (length set) at reduced.rows → length set ≡ length original.rows → length set ≤ length at → IsSystematic original.field original.columns original.rows set reduced.rows
systematic_made original copy reduced set at es ef ec w s el h e k =
    let words : AreRows copy.field copy.columns reduced.rows = subst (λ x. AreRows x copy.columns reduced.rows) ef (subst (λ x. AreRows reduced.field x reduced.rows) ec w) in
    let count : length set ≡ length reduced.rows = e ∙ ap (λ (x : Matrix). length x.rows) (sym es) ∙ sym el in
    subst (λ (x : Matrix). IsSystematic x.field x.columns x.rows set reduced.rows) es (systematic_of copy.field copy.columns set at copy.rows reduced.rows words s h count k)

pub dependent_made : (original copy reduced : Matrix) (set at : List ℕ) → AreRows original.field original.columns original.rows → copy ≡ original → reduced.field ≡ copy.field → reduced.columns ≡ copy.columns → AreRows reduced.field reduced.columns reduced.rows → SameSpan copy.field copy.columns copy.rows reduced.rows → IsReducedTo set (length set) at reduced.rows → length at < length set → AreIndependentColumns original.field original.rows set → ⊥
dependent_made original copy reduced set at r es ef ec w s h k =
    let words : AreRows copy.field copy.columns reduced.rows = subst (λ x. AreRows x copy.columns reduced.rows) ef (subst (λ x. AreRows reduced.field x reduced.rows) ec w) in
    let own : AreRows copy.field copy.columns copy.rows = subst (λ (x : Matrix). AreRows x.field x.columns x.rows) (sym es) r in
    subst (λ (x : Matrix). AreIndependentColumns x.field x.rows set → ⊥) es (dependent_of copy.field copy.columns set at copy.rows reduced.rows own words s h k)

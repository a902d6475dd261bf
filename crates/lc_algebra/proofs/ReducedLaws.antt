-- The laws of reduced and of systematic matrices over a field.
-- Symbols of a combination
--   index_combine          the symbol of a combination at a column is the dot of the coefficients and the column
--   dot_nothing, dot_unit  the dot with what is zero term by term, and with a word that is 1 at one place and 0 elsewhere
--   dot_front              the dot with a word that is 0 from a place on
--   symbol_of_combination  where the rows are the identity on a set, a combination has its coefficients there
-- Rows that are the identity on a set, one place for each row
--   told_by_places         a word of the rows is told by its symbols on the set
--   independent_by_places  the rows are independent
--   same_by_places         two such matrices with the same words are equal
--   systematic_told, systematic_independent, systematic_unique      the same of a systematic matrix
-- Reduced matrices
--   identity_on_pivots     a reduced matrix is the identity on its places
--   reduced_told, reduced_independent      its words are told by their symbols at the places; its rows are independent
--   pivots_rise, reduced_at_most           place i is at least i; there are at most n rows
--   HasLead f n rows p     some word of the rows has its first nonzero symbol at p
--   place_is_lead, lead_is_place           the places are where nonzero words of the rows begin
--   rising_same            rising lists with the same members are equal
--   pivots_unique          two reduced matrices with the same words have the same places
--   reduced_unique         and are equal
--   echelon_unique, generator_unique       so the reduced matrix of some rows, or of a set of words, is one
use Rattle.std.proofs.Common.{◌≡◌, ◌≢◌, ℕ, zero, suc, ◌<◌, ◌≤◌, if◌then◌else◌, ◌==◌, List, [], ◌∷◌, length, take, slice_index, slice_index_or, Contains, refl, sym, ap, subst, ◌∙◌, ⊎_elim, arith, zero-lt-suc}
use Rattle.std.proofs.lemmas.List.{ext_get_or, get_or-map, length-map, get_or_default}
use Rattle.std.proofs.lemmas.List.Elements.{All-head, All-tail}
use Rattle.std.proofs.lemmas.Bool.{cases_lt, cases_eq, cases_order, eq-eqb, ne_eqb}
use Rattle.lc_algebra.specs.declared.FieldName.{FieldName}
use Rattle.lc_algebra.specs.Field.{size, add, mul}
use Rattle.lc_algebra.specs.Word.{Fits, IsWord, zero_word, scale, word_dot}
use Rattle.lc_algebra.specs.Span.{combine, InSpan, SameSpan, AreIndependent}
use Rattle.lc_algebra.specs.Matrix.{entry, column, AreRows, HasPivots, IsReduced, IsEchelon, IsReducedGenerator, IsIdentityOn, IsSystematic}
use Rattle.lc_algebra.proofs.FieldLaws.{zero_inside, zero_add, add_zero, mul_one, zero_mul, mul_zero}
use Rattle.lc_algebra.proofs.WordLaws.{length_scale, index_scale, index_word_sum, index_zero_word, length_zero_word, fits_head, fits_tail, fits_symbol}
use Rattle.lc_algebra.proofs.SpanLaws.{length_combine, span_row, combination_of_word, contains_head, contains_tail, contains_cases, contains_decided, same_span_symmetric, same_span_transitive}

pub index_combine : (f : FieldName) (n : ℕ) (cs : List ℕ) (rows : List (List ℕ)) (p : ℕ) → AreRows f n rows → slice_index (combine f n cs rows) p ≡ word_dot f cs (column rows p)
unfolding combine word_dot
index_combine f n [] [] p r = index_zero_word n p
index_combine f n [] (g ∷ rows) p r = index_zero_word n p
index_combine f n (c ∷ cs) [] p r = index_zero_word n p
index_combine f n (c ∷ cs) (g ∷ rows) p r =
    let tail = All-tail (IsWord f n) g rows r in
    let e : length (scale f c g) ≡ length (combine f n cs rows) = length_scale f c g ∙ (All-head (IsWord f n) g rows r).long ∙ sym (length_combine f n cs rows tail) in
    let t : slice_index (combine f n cs rows) p ≡ word_dot f cs (column rows p) = index_combine f n cs rows p tail in
    cc (index_word_sum f (scale f c g) (combine f n cs rows) p e, index_scale f c g p, t)

pub dot_nothing : (f : FieldName) (cs us : List ℕ) → ((i : ℕ) → i < length us → mul f (slice_index cs i) (slice_index us i) ≡ 0) → word_dot f cs us ≡ 0
unfolding word_dot
dot_nothing f [] us h = refl
dot_nothing f (c ∷ cs) [] h = refl
dot_nothing f (c ∷ cs) (u ∷ us) h =
    let a : mul f c u ≡ 0 = h 0 (zero-lt-suc (length us)) in
    let b : word_dot f cs us ≡ 0 = dot_nothing f cs us (λ i l. h (suc i) (omega (arith, l))) in
    cc (a, b, zero_add f 0 (zero_inside f))

pub dot_front : (f : FieldName) (u v : List ℕ) (i : ℕ) → ((j : ℕ) → i ≤ j → slice_index v j ≡ 0) → word_dot f u v ≡ word_dot f (take i u) (take i v)
unfolding word_dot
dot_front f u v zero h = dot_nothing f u v (λ j l. ap (mul f (slice_index u j)) (h j (omega arith)) ∙ mul_zero f (slice_index u j))
dot_front f [] v (suc i) h = refl
dot_front f (a ∷ u) [] (suc i) h = refl
dot_front f (a ∷ u) (b ∷ v) (suc i) h = ap (add f (mul f a b)) (dot_front f u v i (λ j l. h (suc j) (omega (arith, l))))

pub dot_unit : (f : FieldName) (cs us : List ℕ) (j : ℕ) → Fits f cs → length us ≡ length cs → j < length us → slice_index us j ≡ 1 → ((i : ℕ) → i < length us → i ≢ j → slice_index us i ≡ 0) → word_dot f cs us ≡ slice_index cs j
unfolding word_dot
dot_unit f [] us j w e l o z = absurd (omega (arith, e, l))
dot_unit f (c ∷ cs) [] j w e l o z = absurd (omega (arith, l))
dot_unit f (c ∷ cs) (u ∷ us) zero w e l o z =
    let a : word_dot f cs us ≡ 0 = dot_nothing f cs us (λ i k. ap (mul f (slice_index cs i)) (z (suc i) (omega (arith, k)) (λ s. omega (arith, s))) ∙ mul_zero f (slice_index cs i)) in
    let k : c < size f = fits_head f c cs w in
    cc (a, o, mul_one f c k, add_zero f c k)
dot_unit f (c ∷ cs) (u ∷ us) (suc j) w e l o z =
    let a : word_dot f cs us ≡ slice_index cs j = dot_unit f cs us j (fits_tail f c cs w) (omega (arith, e)) (omega (arith, l)) o (λ i k m. z (suc i) (omega (arith, k)) (λ s. m (omega (arith, s)))) in
    let b : u ≡ 0 = z 0 (zero-lt-suc (length us)) (λ s. omega (arith, s)) in
    cc (a, b, mul_zero f c, zero_add f (slice_index cs j) (fits_symbol f cs (fits_tail f c cs w) j))

pub symbol_of_combination : (f : FieldName) (n : ℕ) (set : List ℕ) (rows : List (List ℕ)) (cs : List ℕ) (j : ℕ) → AreRows f n rows → length rows ≡ length set → IsIdentityOn set rows → IsWord f (length rows) cs → j < length set → slice_index (combine f n cs rows) (slice_index set j) ≡ slice_index cs j
symbol_of_combination f n set rows cs j r e d w l =
    let p = slice_index set j in
    let us = column rows p in
    let long : length us ≡ length rows = length-map rows (λ row. slice_index row p) in
    let at : (i : ℕ) → i < length rows → slice_index us i ≡ (if i == j then 1 else 0) = λ i k. get_or-map (λ row. slice_index row p) rows i [] 0 k ∙ d i j k l in
    let here : slice_index us j ≡ 1 = at j (omega (arith, l, e)) ∙ ap (λ b. if b then 1 else 0) (eq-eqb j j refl) in
    let other : (i : ℕ) → i < length us → i ≢ j → slice_index us i ≡ 0 = λ i k m. at i (omega (arith, k, long)) ∙ ap (λ b. if b then 1 else 0) (ne_eqb i j m) in
    index_combine f n cs rows p r ∙ dot_unit f cs us j w.fits (long ∙ sym w.long) (omega (arith, l, e, long)) here other

pub told_by_places : (f : FieldName) (n : ℕ) (set : List ℕ) (rows : List (List ℕ)) (u v : List ℕ) → AreRows f n rows → length rows ≡ length set → IsIdentityOn set rows → InSpan f n rows u → InSpan f n rows v → ((i : ℕ) → i < length set → slice_index u (slice_index set i) ≡ slice_index v (slice_index set i)) → u ≡ v
told_by_places f n set rows u v r e d h k t =
    let a = combination_of_word f n rows u h in
    let b = combination_of_word f n rows v k in
    let same : a.0 ≡ b.0 = ext_get_or 0 a.0 b.0 (a.1.long ∙ sym b.1.long) (λ i l.
    let m : i < length set = omega (arith, l, a.1.long, e) in
    sym (symbol_of_combination f n set rows a.0 i r e d a.1 m) ∙ ap (λ w. slice_index w (slice_index set i)) (sym a.2) ∙ t i m ∙ ap (λ w. slice_index w (slice_index set i)) b.2 ∙ symbol_of_combination f n set rows b.0 i r e d b.1 m) in
    a.2 ∙ ap (λ x. combine f n x rows) same ∙ sym b.2

pub independent_by_places : (f : FieldName) (n : ℕ) (set : List ℕ) (rows : List (List ℕ)) → AreRows f n rows → length rows ≡ length set → IsIdentityOn set rows → AreIndependent f n rows
independent_by_places f n set rows r e d cs w z =
    ext_get_or 0 cs (zero_word (length rows)) (w.long ∙ sym (length_zero_word (length rows))) (λ i l.
    sym (symbol_of_combination f n set rows cs i r e d w (omega (arith, l, w.long, e))) ∙ ap (λ x. slice_index x (slice_index set i)) z ∙ index_zero_word n (slice_index set i) ∙ sym (index_zero_word (length rows) i))

pub same_by_places : (f : FieldName) (n : ℕ) (set : List ℕ) (rows others : List (List ℕ)) → AreRows f n rows → AreRows f n others → length rows ≡ length set → length others ≡ length set → IsIdentityOn set rows → IsIdentityOn set others → SameSpan f n rows others → rows ≡ others
same_by_places f n set rows others r s e k d c same =
    ext_get_or [] rows others (e ∙ sym k) (λ i l.
    let m : i < length others = omega (arith, l, e, k) in
    told_by_places f n set rows (slice_index_or rows i []) (slice_index_or others i []) r e d (span_row f n rows r i [] l) ((same (slice_index_or others i [])).1 (span_row f n others s i [] m)) (λ j h. d i j l h ∙ sym (c i j m h)))

pub systematic_told : (f : FieldName) (n : ℕ) (rows : List (List ℕ)) (set : List ℕ) (e : List (List ℕ)) (u v : List ℕ) → IsSystematic f n rows set e → InSpan f n rows u → InSpan f n rows v → ((i : ℕ) → i < length set → slice_index u (slice_index set i) ≡ slice_index v (slice_index set i)) → u ≡ v
systematic_told f n rows set e u v p h k t = told_by_places f n set e u v p.words p.count p.identity ((p.same u).0 h) ((p.same v).0 k) t

pub systematic_independent : (f : FieldName) (n : ℕ) (rows : List (List ℕ)) (set : List ℕ) (e : List (List ℕ)) → IsSystematic f n rows set e → AreIndependent f n e
systematic_independent f n rows set e p = independent_by_places f n set e p.words p.count p.identity

pub systematic_unique : (f : FieldName) (n : ℕ) (rows : List (List ℕ)) (set : List ℕ) (d e : List (List ℕ)) → IsSystematic f n rows set d → IsSystematic f n rows set e → d ≡ e
systematic_unique f n rows set d e p q =
    same_by_places f n set d e p.words q.words p.count q.count p.identity q.identity (same_span_transitive f n d rows e (same_span_symmetric f n rows d p.same) q.same)

pub identity_on_pivots : (n : ℕ) (ps : List ℕ) (rows : List (List ℕ)) → HasPivots n ps rows → IsIdentityOn ps rows
identity_on_pivots n ps rows h i j l m =
    ⊎_elim
    (λ e. rw (eq-eqb i j e) (ap (λ k. entry rows i (slice_index ps k)) (sym e) ∙ h.leads i l))
    (λ o. rw (ne_eqb i j o) (h.clears j i (omega (arith, m, h.count)) l (λ e. o (sym e))))
    (cases_eq i j)

pub reduced_told : (f : FieldName) (n : ℕ) (ps : List ℕ) (rows : List (List ℕ)) (u v : List ℕ) → AreRows f n rows → HasPivots n ps rows → InSpan f n rows u → InSpan f n rows v → ((i : ℕ) → i < length ps → slice_index u (slice_index ps i) ≡ slice_index v (slice_index ps i)) → u ≡ v
reduced_told f n ps rows u v r h a b t = told_by_places f n ps rows u v r (sym h.count) (identity_on_pivots n ps rows h) a b t

pub reduced_independent : (f : FieldName) (n : ℕ) (rows : List (List ℕ)) → AreRows f n rows → IsReduced n rows → AreIndependent f n rows
reduced_independent f n rows r h = independent_by_places f n h.pivots.0 rows r (sym h.pivots.1.count) (identity_on_pivots n h.pivots.0 rows h.pivots.1)

pub pivots_rise : (n : ℕ) (ps : List ℕ) (rows : List (List ℕ)) → HasPivots n ps rows → (i : ℕ) → i < length ps → i ≤ slice_index ps i
pivots_rise n ps rows h zero l = omega arith
pivots_rise n ps rows h (suc i) l = omega (arith, pivots_rise n ps rows h i (omega (arith, l)), h.rises i (suc i) (omega arith) l)

pub reduced_at_most : (n : ℕ) (rows : List (List ℕ)) → IsReduced n rows → length rows ≤ n
reduced_at_most n rows r =
    let ps = r.pivots.0 in
    let h = r.pivots.1 in
    ⊎_elim
    (λ l. let k : n < length ps = omega (arith, l, h.count) in absurd (omega (arith, pivots_rise n ps rows h n k, h.inside n k)))
    (λ l. l)
    (cases_lt n (length rows))

-- some word of the rows begins at p
pub record HasLead (f : FieldName) (n : ℕ) (rows : List (List ℕ)) (p : ℕ) : Type 0 where
  pub word : List ℕ
  pub inside : InSpan f n rows word
  pub before : (c : ℕ) → c < p → slice_index word c ≡ 0
  pub nonzero : 0 < slice_index word p

pub place_is_lead : (f : FieldName) (n : ℕ) (ps : List ℕ) (rows : List (List ℕ)) (p : ℕ) → AreRows f n rows → HasPivots n ps rows → Contains ps p → HasLead f n rows p
place_is_lead f n ps rows p r h m =
    let l : m.0 < length rows = omega (arith, m.1, h.count) in
    let e : slice_index ps m.0 ≡ p = get_or_default ps m.0 0 p m.1 ∙ m.2 in
    record {
      word = slice_index_or rows m.0 [];
      inside = span_row f n rows r m.0 [] l;
      before = λ c k. h.before m.0 c l (omega (arith, k, e));
      nonzero = omega (arith, ap (entry rows m.0) (sym e) ∙ h.leads m.0 l);
    }

pub lead_is_place : (f : FieldName) (n : ℕ) (ps : List ℕ) (rows : List (List ℕ)) (p : ℕ) → AreRows f n rows → HasPivots n ps rows → HasLead f n rows p → Contains ps p
lead_is_place f n ps rows p r h q =
    ⊎_elim
    (λ c. c)
    (λ o.
    let a = combination_of_word f n rows q.word q.inside in
    let us = column rows p in
    let long : length us ≡ length rows = length-map rows (λ row. slice_index row p) in
    let nothing : (i : ℕ) → i < length us → mul f (slice_index a.0 i) (slice_index us i) ≡ 0 = λ i k.
    let l : i < length rows = omega (arith, k, long) in
    let m : i < length ps = omega (arith, l, h.count) in
    ⊎_elim
    (λ e. absurd (o (i, m, get_or_default ps i p 0 m ∙ e)))
    (λ s. ⊎_elim
    (λ b.
    let c : slice_index a.0 i ≡ 0 = sym (symbol_of_combination f n ps rows a.0 i r (sym h.count) (identity_on_pivots n ps rows h) a.1 m) ∙ ap (λ w. slice_index w (slice_index ps i)) (sym a.2) ∙ q.before (slice_index ps i) b in
    ap (λ x. mul f x (slice_index us i)) c ∙ zero_mul f (slice_index us i))
    (λ b.
    let c : slice_index us i ≡ 0 = get_or-map (λ row. slice_index row p) rows i [] 0 l ∙ h.before i p l b in
    ap (mul f (slice_index a.0 i)) c ∙ mul_zero f (slice_index a.0 i))
    s)
    (cases_order (slice_index ps i) p) in
    absurd (omega (arith, q.nonzero, ap (λ w. slice_index w p) a.2 ∙ index_combine f n a.0 rows p r ∙ dot_nothing f a.0 us nothing)))
    (contains_decided cases_eq ps p)

abbrev Rises : List ℕ → Type 0
Rises ps = (i j : ℕ) → i < j → j < length ps → slice_index ps i < slice_index ps j

rises_tail : (p : ℕ) (ps : List ℕ) → Rises (p ∷ ps) → Rises ps
rises_tail p ps h i j l k = h (suc i) (suc j) (omega (arith, l)) (omega (arith, k))

rises_above : (p x : ℕ) (ps : List ℕ) → Rises (p ∷ ps) → Contains ps x → p < x
rises_above p x ps h c = omega (arith, h 0 (suc c.0) (zero-lt-suc c.0) (omega (arith, c.1)), get_or_default ps c.0 0 x c.1 ∙ c.2)

pub rising_same : (ps qs : List ℕ) → Rises ps → Rises qs → ((x : ℕ) → Contains ps x → Contains qs x) → ((x : ℕ) → Contains qs x → Contains ps x) → ps ≡ qs
rising_same [] [] r s a b = refl
rising_same [] (q ∷ qs) r s a b = absurd (omega (arith, (b q (contains_head q qs)).1))
rising_same (p ∷ ps) [] r s a b = absurd (omega (arith, (a p (contains_head p ps)).1))
rising_same (p ∷ ps) (q ∷ qs) r s a b =
    let le : q ≤ p = ⊎_elim (λ e. omega (arith, e)) (λ c. omega (arith, rises_above q p qs s c)) (contains_cases q p qs (a p (contains_head p ps))) in
    let ge : p ≤ q = ⊎_elim (λ e. omega (arith, e)) (λ c. omega (arith, rises_above p q ps r c)) (contains_cases p q ps (b q (contains_head q qs))) in
    let there : (x : ℕ) → Contains ps x → Contains qs x = λ x c. ⊎_elim (λ e. absurd (omega (arith, e, le, ge, rises_above p x ps r c))) (λ t. t) (contains_cases q x qs (a x (contains_tail p x ps c))) in
    let here : (x : ℕ) → Contains qs x → Contains ps x = λ x c. ⊎_elim (λ e. absurd (omega (arith, e, le, ge, rises_above q x qs s c))) (λ t. t) (contains_cases p x ps (b x (contains_tail q x qs c))) in
    let tail : ps ≡ qs = rising_same ps qs (rises_tail p ps r) (rises_tail q qs s) there here in
    let head : p ≡ q = omega (arith, le, ge) in
    cc (head, tail)

lead_shared : (f : FieldName) (n : ℕ) (d e : List (List ℕ)) (p : ℕ) → SameSpan f n d e → HasLead f n d p → HasLead f n e p
lead_shared f n d e p s h = record { word = h.word; inside = (s h.word).0 h.inside; before = h.before; nonzero = h.nonzero }

pub pivots_unique : (f : FieldName) (n : ℕ) (ps qs : List ℕ) (d e : List (List ℕ)) → AreRows f n d → AreRows f n e → HasPivots n ps d → HasPivots n qs e → SameSpan f n d e → ps ≡ qs
pivots_unique f n ps qs d e r s h k same =
    rising_same ps qs h.rises k.rises
    (λ x c. lead_is_place f n qs e x s k (lead_shared f n d e x same (place_is_lead f n ps d x r h c)))
    (λ x c. lead_is_place f n ps d x r h (lead_shared f n e d x (same_span_symmetric f n d e same) (place_is_lead f n qs e x s k c)))

pub reduced_unique : (f : FieldName) (n : ℕ) (d e : List (List ℕ)) → AreRows f n d → AreRows f n e → IsReduced n d → IsReduced n e → SameSpan f n d e → d ≡ e
reduced_unique f n d e r s p q same =
    let ps = p.pivots.0 in
    let h = p.pivots.1 in
    let qs = q.pivots.0 in
    let t : ps ≡ qs = pivots_unique f n ps qs d e r s h q.pivots.1 same in
    let k : HasPivots n ps e = subst (λ xs. HasPivots n xs e) (sym t) q.pivots.1 in
    same_by_places f n ps d e r s (sym h.count) (sym k.count) (identity_on_pivots n ps d h) (identity_on_pivots n ps e k) same

pub echelon_unique : (f : FieldName) (n : ℕ) (rows d e : List (List ℕ)) → IsEchelon f n rows d → IsEchelon f n rows e → d ≡ e
echelon_unique f n rows d e p q =
    reduced_unique f n d e p.words q.words p.reduced q.reduced (same_span_transitive f n d rows e (same_span_symmetric f n rows d p.same) q.same)

pub generator_unique : (f : FieldName) (n : ℕ) (P : List ℕ → Type 0) (d e : List (List ℕ)) → IsReducedGenerator f n P d → IsReducedGenerator f n P e → d ≡ e
generator_unique f n P d e p q =
    reduced_unique f n d e p.words q.words p.reduced q.reduced (λ w. (λ h. (q.members w).1 ((p.members w).0 h), λ h. (p.members w).1 ((q.members w).0 h)))

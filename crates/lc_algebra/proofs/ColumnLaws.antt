-- The laws of sets of columns of a matrix over a field.
--   index_restrict, length_restrict      the symbols of a word at the columns of a set
--   restrict_sum, restrict_scale, restrict_zero      taking them is linear
--   entry_of_column        the symbols of a column are entries of the rows
--   column_word            a column of rows over the field is a word, one symbol for each row
--   column_of_columns      the symbols of the columns at a row are the row's symbols on the set
--   column_outside         a column is no sum of multiples of others at which a row with a 1 in it is 0
--   unit_symbol            a combination has its coefficient at a column that is 1 in that row and 0 in the others
--   column_inside          a column is a sum of multiples of columns that are 1 each in a row of their own, if it is 0 in all other
--                          rows; both are of any rows with the same words
--   relation_from_columns, columns_from_relation     columns are independent exactly where only zero coefficients
--                          make each row's symbols on the set sum to 0
--   relation_span          coefficients that do so for each row do so for each word of the rows
--   independent_columns_shared      rows with the same words have the same independent sets of columns
--   identity_columns       the columns of an identity are independent
--   systematic_columns     rows with a systematic matrix on a set have independent columns there
use Rattle.std.proofs.Common.{◌≡◌, ◌≢◌, ℕ, ◌<◌, ◌≤◌, if◌then◌else◌, List, [], ◌∷◌, map, length, take, slice_index, slice_index_or, All, Contains, refl, sym, ap, subst, ◌∙◌, ⊎_elim, arith}
use Rattle.std.proofs.lemmas.List.{ext_get_or, get_or-map, get_or-take, get_or_past, length-map, length-take-le}
use Rattle.std.proofs.lemmas.List.Elements.{All-head, All-tail, All-map, All-from_get_or, Contains-get_or}
use Rattle.std.proofs.lemmas.Bool.{cases_lt, eq-eqb, ne_eqb}
use Rattle.lc_algebra.specs.declared.FieldName.{FieldName}
use Rattle.lc_algebra.specs.Field.{size}
use Rattle.lc_algebra.specs.Word.{IsWord, zero_word, word_sum, scale, word_dot}
use Rattle.lc_algebra.specs.Span.{combine, InSpan, SameSpan}
use Rattle.lc_algebra.specs.Matrix.{column, entry, AreRows, IsOrthogonal, IsIdentityOn, IsSystematic, AreIndependentColumns}
use Rattle.lc_algebra.specs.SpanLaws.{restrict}
use Rattle.lc_algebra.proofs.FieldLaws.{zero_inside, zero_add, mul_zero}
use Rattle.lc_algebra.proofs.WordLaws.{length_scale, length_zero_word, index_scale, index_word_sum, index_zero_word, word_symbol, dot_comm, dot_sum, dot_scale, dot_zero}
use Rattle.lc_algebra.proofs.SpanLaws.{span_word, span_row, length_combine, combination_of_word, word_of_combination, dot_span, contains_map, same_span_symmetric}
use Rattle.lc_algebra.proofs.ReducedLaws.{index_combine, dot_unit, dot_front}

pub length_restrict : (set w : List ℕ) → length (restrict set w) ≡ length set
length_restrict set w = length-map set (λ p. slice_index w p)

pub index_restrict : (set w : List ℕ) (j : ℕ) → j < length set → slice_index (restrict set w) j ≡ slice_index w (slice_index set j)
index_restrict set w j l = get_or-map (λ p. slice_index w p) set j 0 0 l

pub restrict_zero : (set : List ℕ) (n : ℕ) → restrict set (zero_word n) ≡ zero_word (length set)
restrict_zero [] n = refl
restrict_zero (p ∷ set) n = cc (index_zero_word n p, restrict_zero set n)

pub restrict_scale : (f : FieldName) (set : List ℕ) (c : ℕ) (u : List ℕ) → restrict set (scale f c u) ≡ scale f c (restrict set u)
unfolding scale
restrict_scale f [] c u = refl
restrict_scale f (p ∷ set) c u = cc (index_scale f c u p, restrict_scale f set c u)

pub restrict_sum : (f : FieldName) (set u v : List ℕ) → length u ≡ length v → restrict set (word_sum f u v) ≡ word_sum f (restrict set u) (restrict set v)
unfolding word_sum
restrict_sum f [] u v e = refl
restrict_sum f (p ∷ set) u v e = cc (index_word_sum f u v p e, restrict_sum f set u v e)

pub entry_of_column : (rows : List (List ℕ)) (c j : ℕ) → j < length rows → slice_index (column rows c) j ≡ entry rows j c
entry_of_column rows c j l = get_or-map (λ row. slice_index row c) rows j [] 0 l

pub column_word : (f : FieldName) (n : ℕ) (rows : List (List ℕ)) (p : ℕ) → AreRows f n rows → IsWord f (length rows) (column rows p)
column_word f n rows p r =
    let long : length (column rows p) ≡ length rows = length-map rows (λ row. slice_index row p) in
    record {
      long = long;
      fits = λ i l.
          let k : i < length rows = omega (arith, l, long) in
          rw (get_or-map (λ row. slice_index row p) rows i [] 0 k) (word_symbol f n (slice_index_or rows i []) (r i [] k) p);
    }

pub column_of_columns : (rows : List (List ℕ)) (set : List ℕ) (l : ℕ) → l < length rows → column (map (column rows) set) l ≡ restrict set (slice_index_or rows l [])
column_of_columns rows [] l k = refl
column_of_columns rows (p ∷ set) l k = cc (get_or-map (λ row. slice_index row p) rows l [] 0 k, column_of_columns rows set l k)

pub columns_are_rows : (f : FieldName) (n : ℕ) (rows : List (List ℕ)) (set : List ℕ) → AreRows f n rows → AreRows f (length rows) (map (column rows) set)
columns_are_rows f n rows set r = All-map (IsWord f (length rows)) (column rows) set (λ k d l. column_word f n rows (slice_index_or set k d) r)

index_of_columns : (f : FieldName) (n : ℕ) (rows : List (List ℕ)) (set xs : List ℕ) (l : ℕ) → AreRows f n rows → l < length rows → slice_index (combine f (length rows) xs (map (column rows) set)) l ≡ word_dot f xs (restrict set (slice_index_or rows l []))
index_of_columns f n rows set xs l r k = index_combine f (length rows) xs (map (column rows) set) l (columns_are_rows f n rows set r) ∙ ap (word_dot f xs) (column_of_columns rows set l k)

pub column_outside : (f : FieldName) (n i p : ℕ) (set : List ℕ) (rows e : List (List ℕ)) → AreRows f n rows → AreRows f n e → SameSpan f n rows e → i < length e → entry e i p ≡ 1 → ((c : ℕ) → Contains set c → entry e i c ≡ 0) → InSpan f (length rows) (map (column rows) set) (column rows p) → ⊥
column_outside f n i p set rows e r h same l one none s =
    let k = length rows in
    let cols = map (column rows) set in
    let g = slice_index_or e i [] in
    let cs = combination_of_word f n rows g ((same g).1 (span_row f n e h i [] l)) in
    let symbol : (c : ℕ) → entry e i c ≡ word_dot f cs.0 (column rows c) = λ c. ap (λ w. slice_index w c) cs.2 ∙ index_combine f n cs.0 rows c r in
    let orthogonal : IsOrthogonal f cols cs.0 = λ j d m.
    let t = contains_map (column rows) set (slice_index_or cols j d) (Contains-get_or cols j d m) in
    ap (λ v. word_dot f v cs.0) t.2 ∙ dot_comm f (column rows t.0) cs.0 ∙ sym (symbol t.0) ∙ none t.0 t.1 in
    let nothing : entry e i p ≡ 0 = symbol p ∙ dot_comm f cs.0 (column rows p) ∙ dot_span f k cols cs.0 (column rows p) (columns_are_rows f n rows set r) orthogonal s in
    omega (arith, nothing, one)

pub unit_symbol : (f : FieldName) (n j p : ℕ) (e : List (List ℕ)) (cs : List ℕ) → AreRows f n e → IsWord f (length e) cs → j < length e → entry e j p ≡ 1 → ((r : ℕ) → r < length e → j ≢ r → entry e r p ≡ 0) → slice_index (combine f n cs e) p ≡ slice_index cs j
unit_symbol f n j p e cs h is l one none =
    let long : length (column e p) ≡ length e = length-map e (λ row. slice_index row p) in
    index_combine f n cs e p h
    ∙ dot_unit f cs (column e p) j is.fits (long ∙ sym is.long) (omega (arith, l, long)) (entry_of_column e p j l ∙ one)
    (λ r m o. entry_of_column e p r (omega (arith, m, long)) ∙ none r (omega (arith, m, long)) (λ q. o (sym q)))

pub column_inside : (f : FieldName) (n p : ℕ) (set : List ℕ) (rows e : List (List ℕ)) → AreRows f n rows → AreRows f n e → SameSpan f n rows e → length set ≤ length e → ((j : ℕ) → j < length set → entry e j (slice_index set j) ≡ 1) → ((j r : ℕ) → j < length set → r < length e → j ≢ r → entry e r (slice_index set j) ≡ 0) → ((j : ℕ) → length set ≤ j → j < length e → entry e j p ≡ 0) → InSpan f (length rows) (map (column rows) set) (column rows p)
column_inside f n p set rows e r h same few leads clears after =
    let k = length rows in
    let i = length set in
    let v = column e p in
    let cols = map (column rows) set in
    let long_v : length v ≡ length e = length-map e (λ row. slice_index row p) in
    let is_v : IsWord f (length e) v = column_word f n e p h in
    let zeros : (j : ℕ) → i ≤ j → slice_index v j ≡ 0 = λ j a. ⊎_elim
    (λ b. entry_of_column e p j b ∙ after j a b)
    (λ b. get_or_past v j 0 (omega (arith, b, long_v)))
    (cases_lt j (length e)) in
    let es = take i v in
    let long_es : length es ≡ i = length-take-le i v (omega (arith, few, long_v)) in
    let is : IsWord f (length cols) es = record {
      long = long_es ∙ sym (length-map set (column rows));
      fits = λ j b. let d : j < i = omega (arith, b, long_es) in subst (λ x. x < size f) (sym (get_or-take i v j 0 d)) (word_symbol f (length e) v is_v j);
    } in
    let word = combine f k es cols in
    let long : length word ≡ k = length_combine f k es cols (columns_are_rows f n rows set r) in
    let equal : word ≡ column rows p = ext_get_or 0 word (column rows p) (long ∙ sym (length-map rows (λ row. slice_index row p))) (λ a b.
    let d : a < k = omega (arith, b, long) in
    let row = slice_index_or rows a [] in
    let cs = combination_of_word f n e row ((same row).0 (span_row f n rows r a [] d)) in
    let long_cs : length (take i cs.0) ≡ i = length-take-le i cs.0 (omega (arith, cs.1.long, few)) in
    let front : restrict set row ≡ take i cs.0 = ext_get_or 0 (restrict set row) (take i cs.0) (length_restrict set row ∙ sym long_cs) (λ j m.
    let l : j < i = omega (arith, m, length_restrict set row) in
    index_restrict set row j l
    ∙ ap (λ w. slice_index w (slice_index set j)) cs.2
    ∙ unit_symbol f n j (slice_index set j) e cs.0 h cs.1 (omega (arith, l, few)) (leads j l) (λ s o. clears j s l o)
    ∙ sym (get_or-take i cs.0 j 0 l)) in
    index_of_columns f n rows set es a r d
    ∙ ap (word_dot f es) front
    ∙ dot_comm f es (take i cs.0)
    ∙ sym (dot_front f cs.0 v i zeros)
    ∙ sym (ap (λ w. slice_index w p) cs.2 ∙ index_combine f n cs.0 e p h)
    ∙ sym (entry_of_column rows p a d)) in
    subst (InSpan f k cols) equal (word_of_combination f k cols es is)

pub relation_from_columns : (f : FieldName) (n : ℕ) (rows : List (List ℕ)) (set xs : List ℕ) → AreRows f n rows → AreIndependentColumns f rows set → IsWord f (length set) xs → All (λ row. word_dot f xs (restrict set row) ≡ 0) rows → xs ≡ zero_word (length set)
relation_from_columns f n rows set xs r h w z =
    let long : length (map (column rows) set) ≡ length set = length-map set (column rows) in
    let nothing : combine f (length rows) xs (map (column rows) set) ≡ zero_word (length rows) =
    let e : length (combine f (length rows) xs (map (column rows) set)) ≡ length rows = length_combine f (length rows) xs (map (column rows) set) (columns_are_rows f n rows set r) in
    ext_get_or 0 (combine f (length rows) xs (map (column rows) set)) (zero_word (length rows)) (e ∙ sym (length_zero_word (length rows))) (λ l k.
    let m : l < length rows = omega (arith, k, e) in
    index_of_columns f n rows set xs l r m ∙ z l [] m ∙ sym (index_zero_word (length rows) l)) in
    h xs (subst (λ k. IsWord f k xs) (sym long) w) nothing ∙ ap zero_word long

pub columns_from_relation : (f : FieldName) (n : ℕ) (rows : List (List ℕ)) (set : List ℕ) → AreRows f n rows → ((xs : List ℕ) → IsWord f (length set) xs → All (λ row. word_dot f xs (restrict set row) ≡ 0) rows → xs ≡ zero_word (length set)) → AreIndependentColumns f rows set
columns_from_relation f n rows set r h xs w e =
    let long : length (map (column rows) set) ≡ length set = length-map set (column rows) in
    let nothing : All (λ row. word_dot f xs (restrict set row) ≡ 0) rows = All-from_get_or (λ row. word_dot f xs (restrict set row) ≡ 0) rows [] (λ l k.
    sym (index_of_columns f n rows set xs l r k) ∙ ap (λ u. slice_index u l) e ∙ index_zero_word (length rows) l) in
    h xs (subst (λ k. IsWord f k xs) long w) nothing ∙ ap zero_word (sym long)

pub relation_span : (f : FieldName) (n : ℕ) (rows : List (List ℕ)) (set xs w : List ℕ) → AreRows f n rows → All (λ row. word_dot f xs (restrict set row) ≡ 0) rows → InSpan f n rows w → word_dot f xs (restrict set w) ≡ 0
relation_span f n [] set xs w r z h = ap (λ u. word_dot f xs (restrict set u)) h ∙ ap (word_dot f xs) (restrict_zero set n) ∙ dot_zero f (length set) xs
relation_span f n (g ∷ rows) set xs w r z h =
    let tail = All-tail (IsWord f n) g rows r in
    let v = h.2.0 in
    let a : word_dot f xs (restrict set g) ≡ 0 = All-head (λ row. word_dot f xs (restrict set row) ≡ 0) g rows z in
    let b : word_dot f xs (restrict set v) ≡ 0 = relation_span f n rows set xs v tail (All-tail (λ row. word_dot f xs (restrict set row) ≡ 0) g rows z) h.2.1 in
    let e : length (scale f h.0 g) ≡ length v = length_scale f h.0 g ∙ (All-head (IsWord f n) g rows r).long ∙ sym (span_word f n rows v tail h.2.1).long in
    let s : length (scale f h.0 (restrict set g)) ≡ length (restrict set v) = length_scale f h.0 (restrict set g) ∙ length_restrict set g ∙ sym (length_restrict set v) in
    cc (h.2.2, restrict_sum f set (scale f h.0 g) v e, restrict_scale f set h.0 g, dot_sum f xs (scale f h.0 (restrict set g)) (restrict set v) s, dot_scale f h.0 xs (restrict set g), a, b, mul_zero f h.0, zero_add f 0 (zero_inside f))

pub independent_columns_shared : (f : FieldName) (n : ℕ) (rows others : List (List ℕ)) (set : List ℕ) → AreRows f n rows → AreRows f n others → SameSpan f n rows others → AreIndependentColumns f rows set → AreIndependentColumns f others set
independent_columns_shared f n rows others set r s same h =
    columns_from_relation f n others set s (λ xs w z. relation_from_columns f n rows set xs r h w (λ k d l.
    relation_span f n others set xs (slice_index_or rows k d) s z ((same (slice_index_or rows k d)).0 (span_row f n rows r k d l))))

pub identity_columns : (f : FieldName) (n : ℕ) (rows : List (List ℕ)) (set : List ℕ) → AreRows f n rows → length rows ≡ length set → IsIdentityOn set rows → AreIndependentColumns f rows set
identity_columns f n rows set r e d =
    columns_from_relation f n rows set r (λ xs w z. ext_get_or 0 xs (zero_word (length set)) (w.long ∙ sym (length_zero_word (length set))) (λ i l.
    let m : i < length set = omega (arith, l, w.long) in
    let k : i < length rows = omega (arith, m, e) in
    let us = restrict set (slice_index_or rows i []) in
    let long : length us ≡ length set = length_restrict set (slice_index_or rows i []) in
    let here : slice_index us i ≡ 1 = index_restrict set (slice_index_or rows i []) i m ∙ d i i k m ∙ ap (λ b. if b then 1 else 0) (eq-eqb i i refl) in
    let other : (j : ℕ) → j < length us → j ≢ i → slice_index us j ≡ 0 = λ j h o.
    let t : j < length set = omega (arith, h, long) in
    index_restrict set (slice_index_or rows i []) j t ∙ d i j k t ∙ ap (λ b. if b then 1 else 0) (ne_eqb i j (λ s. o (sym s))) in
    sym (dot_unit f xs us i w.fits (long ∙ sym w.long) (omega (arith, m, long)) here other) ∙ z i [] k ∙ sym (index_zero_word (length set) i)))

pub systematic_columns : (f : FieldName) (n : ℕ) (rows : List (List ℕ)) (set : List ℕ) (e : List (List ℕ)) → AreRows f n rows → IsSystematic f n rows set e → AreIndependentColumns f rows set
systematic_columns f n rows set e r p =
    independent_columns_shared f n e rows set p.words r (same_span_symmetric f n rows e p.same) (identity_columns f n e set p.words p.count p.identity)

-- Rows that may be dependent: what is known of the dimension, of information sets and of systematic matrices of independent rows
-- holds of them too.
--   find_shared                what is found first in two lists with the same members, if only one member passes
--   systematic_shared          two lists of rows with the same words have the same systematic matrix
--   column_holds, columns_shared      a column that is a sum of multiples of others is so for all rows with the same words
--   greedy_agree, basis_shared so the first basis of the columns is the same
--   set_systematic             k independent columns have a systematic matrix
--   echelon_systematic         so has the first basis of all columns
use Rattle.std.proofs.Common.{◌≡◌, ℕ, ◌+◌, ◌<◌, ◌≤◌, ◌⊎◌, Bool, true, List, [], ◌∷◌, ◌++◌, map, find, filter, length, unwrap_or, slice_index, slice_index_or, All, Contains, Option, Some, None, inl, inr, refl, sym, ap, ap₂, subst, ◌∙◌, arith}
use Rattle.std.proofs.lemmas.Bool.{false≢true}
use Rattle.std.proofs.lemmas.List.{length-map, length-append, get_or_default, get_or-map, ext_get_or}
use Rattle.std.proofs.lemmas.List.Elements.{All-head, All-tail, All-contains, Contains-get_or}
use Rattle.lc_algebra.specs.declared.FieldName.{FieldName}
use Rattle.lc_algebra.specs.Field.{size, add, mul}
use Rattle.lc_algebra.specs.Word.{IsWord, zero_word, word_sum, scale, word_dot}
use Rattle.lc_algebra.specs.Span.{below, combine, InSpan, words, SameSpan, AreIndependent}
use Rattle.lc_algebra.specs.Matrix.{column, AreRows, IsSystematic, AreIndependentColumns}
use Rattle.lc_algebra.specs.SpanLaws.{restrict}
use Rattle.lc_algebra.proofs.WordLaws.{length_scale, length_zero_word, index_zero_word, index_scale, index_word_sum, dot_zero, dot_sum, dot_scale}
use Rattle.lc_algebra.proofs.SpanLaws.{span_word, same_span_symmetric, same_span_transitive, map_contains, below_contains, contains_below, combination_of_word, word_of_combination, word_of_member, member_of_word, length_combine, span_of_member}
use Rattle.lc_algebra.proofs.ReducedLaws.{index_combine}
use Rattle.lc_algebra.proofs.ColumnLaws.{length_restrict, restrict_zero, restrict_scale, restrict_sum, column_word, column_of_columns, independent_columns_shared, columns_are_rows}
use Rattle.lc_algebra.proofs.CommonLaws.{same_test}
use Rattle.lc_enumeration.specs.InformationSet.{same_word, in_span, greedy, dimension, is_member, first_basis, unit_word, systematic, echelon_rows}
use Rattle.lc_enumeration.proofs.MemberLaws.{same_from_test, in_span_true, true_in_span}
use Rattle.lc_enumeration.proofs.DependentLaws.{map_same, greedy_step, independent_rows}
use Rattle.lc_infoset.proofs.ExistLaws.{full_rank, told_on_set, systematic_from_square}
use Rattle.lc_infoset.proofs.GreedyLaws.{spanning_square, HasColumns, IsBasis, first_basis_is}
use Rattle.lc_infoset.proofs.BestLaws.{FoundBy, find_passes}
use Rattle.lc_infoset.proofs.AnswerLaws.{find_none}

pub find_shared : {X : Type 0} (p : X → Bool) (xs ys : List X) → ((x : X) → Contains xs x → Contains ys x) → ((x : X) → Contains ys x → Contains xs x) → ((x y : X) → Contains xs x → Contains xs y → p x ≡ true → p y ≡ true → x ≡ y) → find p xs ≡ find p ys
find_shared {X} p xs ys h k one = from (find p xs) (find p ys) refl refl
  where
    from : (a b : Option X) → find p xs ≡ a → find p ys ≡ b → find p xs ≡ find p ys
    from None None e d = e ∙ sym d
    from None (Some y) e d =
        let t = find_passes p ys y d in
        absurd (false≢true (sym (find_none p xs y e (k y t.member)) ∙ t.passes))
    from (Some x) None e d =
        let t = find_passes p xs x e in
        absurd (false≢true (sym (find_none p ys x d (h x t.member)) ∙ t.passes))
    from (Some x) (Some y) e d =
        let s = find_passes p xs x e in
        let t = find_passes p ys y d in
        e ∙ ap Some (one x y s.member (k y t.member) s.passes t.passes) ∙ sym d

pub systematic_shared : (f : FieldName) (n : ℕ) (rows others : List (List ℕ)) (set : List ℕ) → AreRows f n others → SameSpan f n rows others → AreIndependent f (length set) (map (restrict set) others) → systematic f n rows set ≡ systematic f n others set
unfolding systematic
systematic_shared f n rows others set r same square =
    let is_unit = λ (i : ℕ) (w : List ℕ). same_word (map (slice_index w) set) (unit_word (length set) i) in
    map_same (λ i. unwrap_or (find (is_unit i) (words f n rows)) (zero_word n)) (λ i. unwrap_or (find (is_unit i) (words f n others)) (zero_word n)) (below (length set)) (λ i c.
    ap (λ o. unwrap_or o (zero_word n)) (find_shared (is_unit i) (words f n rows) (words f n others)
    (λ w a. member_of_word f n others w ((same w).0 (word_of_member f n rows w a)))
    (λ w a. member_of_word f n rows w ((same w).1 (word_of_member f n others w a)))
    (λ u v a b p q.
    told_on_set f n set others u v r square ((same u).0 (word_of_member f n rows u a)) ((same v).0 (word_of_member f n rows v b))
    (same_from_test (map (slice_index u) set) (unit_word (length set) i) p ∙ sym (same_from_test (map (slice_index v) set) (unit_word (length set) i) q)))))

-- what holds at a column for each row holds for each of their words
pub column_holds : (f : FieldName) (n : ℕ) (rows : List (List ℕ)) (set xs : List ℕ) (p : ℕ) (w : List ℕ) → AreRows f n rows → All (λ row. slice_index row p ≡ word_dot f xs (restrict set row)) rows → InSpan f n rows w → slice_index w p ≡ word_dot f xs (restrict set w)
column_holds f n [] set xs p w r a i = ap (λ v. slice_index v p) i ∙ index_zero_word n p ∙ sym (ap (word_dot f xs) (ap (restrict set) i ∙ restrict_zero set n) ∙ dot_zero f (length set) xs)
column_holds f n (g ∷ rows) set xs p w r a i =
    let c = i.0 in
    let v = i.2.0 in
    let tail = All-tail (IsWord f n) g rows r in
    let lengths : length (scale f c g) ≡ length v = length_scale f c g ∙ (All-head (IsWord f n) g rows r).long ∙ sym (span_word f n rows v tail i.2.1).long in
    let here = All-head (λ row. slice_index row p ≡ word_dot f xs (restrict set row)) g rows a in
    let there = column_holds f n rows set xs p v tail (All-tail (λ row. slice_index row p ≡ word_dot f xs (restrict set row)) g rows a) i.2.1 in
    ap (λ u. slice_index u p) i.2.2
    ∙ index_word_sum f (scale f c g) v p lengths
    ∙ ap₂ (add f) (index_scale f c g p ∙ ap (mul f c) here ∙ sym (dot_scale f c xs (restrict set g)) ∙ ap (word_dot f xs) (sym (restrict_scale f set c g))) there
    ∙ sym (dot_sum f xs (restrict set (scale f c g)) (restrict set v) (length_restrict set (scale f c g) ∙ sym (length_restrict set v)))
    ∙ ap (word_dot f xs) (sym (restrict_sum f set (scale f c g) v lengths) ∙ ap (restrict set) (sym i.2.2))

pub columns_shared : (f : FieldName) (n : ℕ) (rows others : List (List ℕ)) (set : List ℕ) (p : ℕ) → AreRows f n rows → AreRows f n others → SameSpan f n rows others → InSpan f (length rows) (map (column rows) set) (column rows p) → InSpan f (length others) (map (column others) set) (column others p)
columns_shared f n rows others set p r s same i =
    let t = combination_of_word f (length rows) (map (column rows) set) (column rows p) i in
    let xs = t.0 in
    let at_rows : All (λ row. slice_index row p ≡ word_dot f xs (restrict set row)) rows = λ k d l.
    ap (λ row. slice_index row p) (get_or_default rows k d [] l) ∙ sym (get_or-map (λ row. slice_index row p) rows k [] 0 l)
    ∙ ap (λ v. slice_index v k) t.2
    ∙ index_combine f (length rows) xs (map (column rows) set) k (columns_are_rows f n rows set r)
    ∙ ap (word_dot f xs) (column_of_columns rows set k l ∙ ap (restrict set) (get_or_default rows k [] d l)) in
    let word : IsWord f (length (map (column others) set)) xs = subst (λ m. IsWord f m xs) (length-map set (column rows) ∙ sym (length-map set (column others))) t.1 in
    let equal : column others p ≡ combine f (length others) xs (map (column others) set) =
    ext_get_or 0 (column others p) (combine f (length others) xs (map (column others) set)) (length-map others (λ row. slice_index row p) ∙ sym (length_combine f (length others) xs (map (column others) set) (columns_are_rows f n others set s))) (λ k l.
    let inside : k < length others = omega (arith, l, length-map others (λ row. slice_index row p)) in
    get_or-map (λ row. slice_index row p) others k [] 0 inside
    ∙ column_holds f n rows set xs p (slice_index_or others k []) r at_rows ((same (slice_index_or others k [])).1 (span_of_member f n others (slice_index_or others k []) s (Contains-get_or others k [] inside)))
    ∙ sym (index_combine f (length others) xs (map (column others) set) k (columns_are_rows f n others set s) ∙ ap (word_dot f xs) (column_of_columns others set k inside))) in
    subst (InSpan f (length others) (map (column others) set)) (sym equal) (word_of_combination f (length others) (map (column others) set) xs word)

pub greedy_agree : (f : FieldName) (n m : ℕ) (u v : ℕ → List ℕ) (taken order : List ℕ) → ((set : List ℕ) (i : ℕ) → InSpan f n (map u set) (u i) → InSpan f m (map v set) (v i)) → ((set : List ℕ) (i : ℕ) → InSpan f m (map v set) (v i) → InSpan f n (map u set) (u i)) → greedy f n u taken order ≡ greedy f m v taken order
unfolding greedy
greedy_agree f n m u v taken [] h k = refl
greedy_agree f n m u v taken (i ∷ order) h k =
    greedy_step f n m u v taken order i
    (same_test (in_span f n (map u taken) (u i)) (in_span f m (map v taken) (v i)) (λ e. true_in_span f m (map v taken) (v i) (h taken i (in_span_true f n (map u taken) (u i) e))) (λ e. true_in_span f n (map u taken) (u i) (k taken i (in_span_true f m (map v taken) (v i) e))))
    (greedy_agree f n m u v taken order h k) (greedy_agree f n m u v (taken ++ i ∷ []) order h k)

pub basis_shared : (f : FieldName) (n : ℕ) (rows others : List (List ℕ)) (order : List ℕ) → AreRows f n rows → AreRows f n others → SameSpan f n rows others → first_basis f n rows order ≡ first_basis f n others order
unfolding first_basis
basis_shared f n rows others order r s same =
    ap (λ chosen. filter (is_member chosen) (below n))
    (greedy_agree f (length rows) (length others) (column rows) (column others) [] order
    (λ set i h. columns_shared f n rows others set i r s same h)
    (λ set i h. columns_shared f n others rows set i s r (same_span_symmetric f n rows others same) h))

shared_systematic : (f : FieldName) (n : ℕ) (rows others : List (List ℕ)) (set : List ℕ) → AreRows f n others → SameSpan f n rows others → length set ≡ length others → AreIndependent f (length set) (map (restrict set) others) → IsSystematic f n rows set (systematic f n rows set)
shared_systematic f n rows others set r same many square =
    let e = systematic_from_square f n others set r many square in
    subst (IsSystematic f n rows set) (sym (systematic_shared f n rows others set r same square)) (record {
      same = same_span_transitive f n rows others (systematic f n others set) same e.same;
      words = e.words;
      count = e.count;
      identity = e.identity;
    })

pub set_systematic : (f : FieldName) (n : ℕ) (rows : List (List ℕ)) (set : List ℕ) → AreRows f n rows → length set ≡ dimension f n rows → AreIndependentColumns f rows set → IsSystematic f n rows set (systematic f n rows set)
set_systematic f n rows set r many columns =
    let t = independent_rows f n rows r in
    let k = length t.others in
    let of_others : AreIndependentColumns f t.others set = independent_columns_shared f n rows t.others set r t.words t.same columns in
    let count : length (map (column t.others) set) ≡ k = length-map set (column t.others) ∙ many ∙ sym t.many in
    let spans : (p : ℕ) → p < n → InSpan f k (map (column t.others) set) (column t.others p) = λ p l. full_rank f k (map (column t.others) set) (column t.others p) (columns_are_rows f n t.others set t.words) of_others count (column_word f n t.others p t.words) in
    shared_systematic f n rows t.others set t.words t.same (many ∙ sym t.many) (spanning_square f n t.others set t.words t.free spans)

pub record EchelonRows (f : FieldName) (n : ℕ) (rows : List (List ℕ)) : Type 0 where
  pub many : length (first_basis f n rows (below n)) ≡ dimension f n rows
  pub systematic_on : IsSystematic f n rows (first_basis f n rows (below n)) (echelon_rows f n rows)

pub echelon_systematic : (f : FieldName) (n : ℕ) (rows : List (List ℕ)) → AreRows f n rows → EchelonRows f n rows
unfolding echelon_rows
echelon_systematic f n rows r =
    let t = independent_rows f n rows r in
    let same = basis_shared f n rows t.others (below n) r t.words t.same in
    let basis = first_basis_is f n t.others (below n) t.words t.free (record { all = λ p l. below_contains n p l; inside = λ p c. contains_below n p c }) in
    let moved : IsBasis f n t.others (first_basis f n rows (below n)) = subst (IsBasis f n t.others) (sym same) basis in
    record {
      many = moved.many ∙ t.many;
      systematic_on = shared_systematic f n rows t.others (first_basis f n rows (below n)) t.words t.same moved.many moved.square;
    }

-- What the first word of each set leaves of the given word.
--   lefts_more                 one set more
--   combine_down, combine_end  a combination from a row on, by that from the next row on
--   first_put                  the first word, row by row from the last one on
--   rest_word, first_fits      such a combination is a word
--   left_at                    what the first word of a set leaves, in the list
--   first_word_is              the first word of a set is the combination of the rows by the symbols on the basis
--   left_made                  what it leaves, as it is made
--   left_word                  that is a word of the code's length
--   whole_space                as many independent rows as columns have all words
--   first_near                 the first word of such a code leaves nothing
use Rattle.std.proofs.Common.{◌≡◌, ℕ, zero, suc, ◌+◌, ◌-◌, ◌<◌, ◌≤◌, ◌^◌, List, [], ◌∷◌, ◌++◌, drop, length, slice_index, slice_index_or, refl, sym, ap, subst, ◌∙◌, ⊎_elim, arith}
use Rattle.std.proofs.lemmas.Bool.{cases_lt}
use Rattle.std.proofs.lemmas.List.{get_or_append_left, get_or_at, get_or_default, length_push}
use Rattle.std.proofs.lemmas.List.Elements.{All-tail}
use Rattle.lc_algebra.specs.declared.FieldName.{FieldName}
use Rattle.lc_algebra.specs.Field.{size, neg}
use Rattle.lc_algebra.specs.Word.{IsWord, zero_word, word_sum, scale, difference}
use Rattle.lc_algebra.specs.Span.{combine, words, InSpan, AreIndependent}
use Rattle.lc_algebra.specs.Matrix.{Matrix, AreRows}
use Rattle.lc_algebra.specs.SpanLaws.{restrict}
use Rattle.lc_algebra.proofs.WordLaws.{sum_comm, difference_zero, difference_self, IsWord_zero}
use Rattle.lc_algebra.proofs.SpanLaws.{combine_cons, combine_none, combine_is_word, span_word, span_decided, word_of_member, length_words, contains_cases}
use Rattle.lc_algebra.proofs.ColumnLaws.{length_restrict, index_restrict}
use Rattle.lc_algebra.proofs.DimensionLaws.{distinct_at_most, words_distinct, all_words, length_all_words, all_words_contain}
use Rattle.lc_enumeration.specs.Search.{set_count, generator_at}
use Rattle.lc_enumeration.specs.NearWord.{coset_word}
use Rattle.lc_enumeration.specs.Message.{vector_of}
use Rattle.lc_infoset.specs.Bound.{set_at, AreGenerators}
use Rattle.lc_infoset.proofs.GreedyLaws.{generators_are}
use Rattle.lc_infoset.proofs.ExistLaws.{restrict_word}
use Rattle.lc_coset_laws.proofs.PatternLaws.{zero_pattern, zero_vector}
use Rattle.lc_coset_laws.proofs.SeenLaws.{coset_word_same}
use Rattle.lc_coset_laws.proofs.ErrorLaws.{coset_word_combined, left_is}
use Rattle.lc_coset.specs.Near.{near_left, AreLefts}
use Rattle.lc_coset.proofs.EntryLaws.{generates}

pub record LeftsTo (C : Matrix) (x : List ℕ) (j : ℕ) (ls : List (List ℕ)) : Type 0 where
  pub many : length ls ≡ j
  pub are : (i : ℕ) → i < j → slice_index_or ls i [] ≡ near_left C x i

pub lefts_none : (C : Matrix) (x : List ℕ) (ls : List (List ℕ)) → ls ≡ [] → LeftsTo C x 0 ls
lefts_none C x ls e = record { many = ap length e; are = λ i l. absurd (omega (arith, l)) }

pub lefts_more : (C : Matrix) (x : List ℕ) (j : ℕ) (ls vs : List (List ℕ)) (w : List ℕ) → LeftsTo C x j ls → vs ≡ ls ++ w ∷ [] → w ≡ near_left C x j → LeftsTo C x (j + 1) vs
lefts_more C x j ls vs w h e is = rw e (record {
  many = length_push ls w ∙ ap (λ a. a + 1) h.many;
  are = λ i l. ⊎_elim
      (λ m. get_or_append_left ls (w ∷ []) [] i (omega (arith, h.many, m)) ∙ h.are i m)
      (λ m. let at : i ≡ j = omega (arith, l, m) in rw at (get_or_at ls w [] [] j h.many ∙ is))
      (cases_lt i j);
})

pub lefts_all : (C : Matrix) (x : List ℕ) (j : ℕ) (ls : List (List ℕ)) → LeftsTo C x j ls → j ≡ set_count C → AreLefts C x ls
lefts_all C x j ls h e = record { many = h.many ∙ e; are = λ i l. h.are i (omega (arith, l, e)) }

pub combine_down : (f : FieldName) (n : ℕ) (cs : List ℕ) (rows : List (List ℕ)) (i : ℕ) → i < length cs → i < length rows → combine f n (drop i cs) (drop i rows) ≡ word_sum f (scale f (slice_index cs i) (slice_index_or rows i [])) (combine f n (drop (suc i) cs) (drop (suc i) rows))
combine_down f n [] rows i l m = absurd (omega (arith, l))
combine_down f n (c ∷ cs) [] i l m = absurd (omega (arith, m))
combine_down f n (c ∷ cs) (g ∷ rows) zero l m = combine_cons f n c cs g rows
combine_down f n (c ∷ cs) (g ∷ rows) (suc i) l m = combine_down f n cs rows i (omega (arith, l)) (omega (arith, m))

drop_past : {X : Type 0} (xs : List X) (i : ℕ) → length xs ≤ i → drop i xs ≡ []
drop_past [] zero l = refl
drop_past [] (suc i) l = refl
drop_past (x ∷ xs) zero l = absurd (omega (arith, l))
drop_past (x ∷ xs) (suc i) l = drop_past xs i (omega (arith, l))

pub combine_end : (f : FieldName) (n : ℕ) (cs : List ℕ) (rows : List (List ℕ)) (i : ℕ) → length cs ≤ i → combine f n (drop i cs) (drop i rows) ≡ zero_word n
combine_end f n cs rows i l = ap (λ ds. combine f n ds (drop i rows)) (drop_past cs i l) ∙ combine_none f n (drop i rows)

pub first_put : (f : FieldName) (n : ℕ) (x basis : List ℕ) (rows : List (List ℕ)) (i c : ℕ) (now after row : List ℕ) → 0 < i → i ≤ length basis → length rows ≡ length basis
    → now ≡ combine f n (drop i (restrict basis x)) (drop i rows) → row ≡ slice_index_or rows (i - 1) [] → c ≡ slice_index x (slice_index basis (i - 1)) → after ≡ word_sum f now (scale f c row)
    → after ≡ combine f n (drop (i - 1) (restrict basis x)) (drop (i - 1) rows)
first_put f n x basis rows i c now after row some l many here row_is symbol made =
    let cs : List ℕ = restrict basis x in
    let up : suc (i - 1) ≡ i = omega (arith, some) in
    let inside : i - 1 < length basis = omega (arith, some, l) in
    let down = combine_down f n cs rows (i - 1) (omega (arith, inside, length_restrict basis x)) (omega (arith, inside, many)) in
    let at : slice_index cs (i - 1) ≡ c = index_restrict basis x (i - 1) inside ∙ sym symbol in
    made ∙ sum_comm f now (scale f c row)
    ∙ ap (λ w. word_sum f (scale f c row) w) (here ∙ ap (λ t. combine f n (drop t cs) (drop t rows)) (sym up))
    ∙ ap (λ g. word_sum f (scale f c g) (combine f n (drop (suc (i - 1)) cs) (drop (suc (i - 1)) rows))) row_is
    ∙ ap (λ a. word_sum f (scale f a (slice_index_or rows (i - 1) [])) (combine f n (drop (suc (i - 1)) cs) (drop (suc (i - 1)) rows))) (sym at)
    ∙ sym down

rows_left : (f : FieldName) (n i : ℕ) (rows : List (List ℕ)) → AreRows f n rows → AreRows f n (drop i rows)
rows_left f n zero rows r = r
rows_left f n (suc i) [] r = r
rows_left f n (suc i) (g ∷ rows) r = rows_left f n i rows (All-tail (IsWord f n) g rows r)

pub rest_word : (C : Matrix) (j i : ℕ) (cs w : List ℕ) → AreRows C.field C.columns C.rows → AreIndependent C.field C.columns C.rows → j < set_count C → w ≡ combine C.field C.columns (drop i cs) (drop i (generator_at C j)) → IsWord C.field C.columns w
rest_word C j i cs w r free inside e = subst (IsWord C.field C.columns) (sym e) (combine_is_word C.field C.columns (drop i cs) (drop i (generator_at C j)) (rows_left C.field C.columns i (generator_at C j) (generates C j r free inside).rows))

pub first_fits : (C : Matrix) (x w : List ℕ) (j : ℕ) → AreRows C.field C.columns C.rows → AreIndependent C.field C.columns C.rows → j < set_count C → w ≡ combine C.field C.columns (restrict (set_at C j).basis x) (generator_at C j) → IsWord C.field C.columns w
first_fits C x w j r free inside e = subst (IsWord C.field C.columns) (sym e) (combine_is_word C.field C.columns (restrict (set_at C j).basis x) (generator_at C j) (generates C j r free inside).rows)

pub left_at : (C : Matrix) (x : List ℕ) (ls : List (List ℕ)) (j : ℕ) (d : List ℕ) → AreLefts C x ls → j < set_count C → slice_index_or ls j d ≡ near_left C x j
left_at C x ls j d h l = get_or_default ls j d [] (omega (arith, h.many, l)) ∙ h.are j l

zero_is : (C : Matrix) → IsWord C.field (length C.rows) (vector_of (length C.rows) zero_pattern)
zero_is C = subst (IsWord C.field (length C.rows)) (sym (zero_vector (length C.rows))) (IsWord_zero C.field (length C.rows))

pub first_word_is : (C : Matrix) (x : List ℕ) (j : ℕ) → AreGenerators C → IsWord C.field C.columns x → j < set_count C → coset_word C x j zero_pattern ≡ combine C.field C.columns (restrict (set_at C j).basis x) (generator_at C j)
first_word_is C x j g is inside =
    let f = C.field in
    let n = C.columns in
    let k = length C.rows in
    let basis = (set_at C j).basis in
    let u = restrict basis x in
    let rows = generator_at C j in
    let here : IsWord f k u = subst (λ m. IsWord f m u) (g j inside).0 (restrict_word f n basis x is) in
    coset_word_combined C x j zero_pattern g is inside (zero_is C) ∙ ap (λ z. combine f n (difference f u z) rows) (zero_vector k) ∙ ap (λ cs. combine f n cs rows) (difference_zero f k u here)

pub left_made : (C : Matrix) (x : List ℕ) (j : ℕ) (first left : List ℕ) → AreRows C.field C.columns C.rows → AreIndependent C.field C.columns C.rows → IsWord C.field C.columns x → j < set_count C
    → first ≡ combine C.field C.columns (restrict (set_at C j).basis x) (generator_at C j) → left ≡ word_sum C.field x (scale C.field (neg C.field 1) first) → left ≡ near_left C x j
unfolding difference
left_made C x j first left r free is inside e made = made ∙ ap (λ w. word_sum C.field x (scale C.field (neg C.field 1) w)) (e ∙ sym (first_word_is C x j (generators_are C r free) is inside))

pub left_word : (C : Matrix) (x : List ℕ) (j : ℕ) (left : List ℕ) → AreRows C.field C.columns C.rows → AreIndependent C.field C.columns C.rows → IsWord C.field C.columns x → j < set_count C → left ≡ near_left C x j → IsWord C.field C.columns left
left_word C x j left r free is inside e = subst (IsWord C.field C.columns) (sym e) (left_is C x j (generators_are C r free) is inside)

pub whole_space : (f : FieldName) (n : ℕ) (rows : List (List ℕ)) (w : List ℕ) → AreRows f n rows → AreIndependent f n rows → length rows ≡ n → IsWord f n w → InSpan f n rows w
whole_space f n rows w r free many is = ⊎_elim (λ s. s) (λ no. absurd (outside no)) (span_decided f n rows w)
  where
    outside : (InSpan f n rows w → ⊥) → ⊥
    outside apart =
        let all = words f n rows in
        let few = distinct_at_most (w ∷ all) (all_words f n) (λ m. apart (word_of_member f n rows w m), words_distinct f n rows r free) (λ v l. all_words_contain f n v (⊎_elim (λ e. subst (IsWord f n) e is) (λ m. span_word f n rows v r (word_of_member f n rows v m)) (contains_cases w v all l))) in
        omega (arith, few, length_words f n rows, length_all_words f n, ap (λ k. size f ^ k) many)

pub first_near : (C : Matrix) (x left : List ℕ) (j : ℕ) → AreRows C.field C.columns C.rows → AreIndependent C.field C.columns C.rows → IsWord C.field C.columns x → j < set_count C → length C.rows ≡ C.columns → left ≡ near_left C x j → left ≡ zero_word C.columns
first_near C x left j r free is inside many e =
    let f = C.field in
    let n = C.columns in
    let k = length C.rows in
    let g = generators_are C r free in
    let basis = (set_at C j).basis in
    let u = restrict basis x in
    let here : IsWord f k u = subst (λ m. IsWord f m u) (g j inside).0 (restrict_word f n basis x is) in
    let on : u ≡ difference f u (vector_of k zero_pattern) = sym (ap (difference f u) (zero_vector k) ∙ difference_zero f k u here) in
    let same : coset_word C x j zero_pattern ≡ x = coset_word_same C x j zero_pattern x g inside (whole_space f n C.rows x r free many is) on in
    e ∙ ap (difference f x) same ∙ difference_self f n x is.long

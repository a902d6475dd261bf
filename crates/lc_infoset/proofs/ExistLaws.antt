-- If the rows are independent on a set of as many columns, the matrix that is the identity on the set exists.
--   full_rank                    as many independent words as their length have every word in their span
--   unit_is_word      the words with a single 1
--   combine_restrict, restrict_word, restricted_rows      combinations of restricted rows
--   told_on_set                  a word of the rows is determined by its symbols on the set
--   is_unit, Looked, looked      the word of the rows that is a given unit word on the set
--   length_systematic, row_looked      the rows of the matrix of these words
--   systematic_from_square       it is systematic
use Rattle.std.proofs.Common.{◌≡◌, ℕ, ◌^◌, ◌<◌, ◌≤◌, Bool, true, false, ◌==◌, if◌then◌else◌, find, List, [], ◌∷◌, length, map, slice_index, slice_index_or, Option, Some, None, unwrap_or, All, Contains, refl, sym, ap, subst, ◌∙◌, ⊎_elim, arith}
use Rattle.std.proofs.lemmas.Bool.{false≢true}
use Rattle.std.proofs.lemmas.List.{ext_get_or, length-map, get_or-map}
use Rattle.std.proofs.lemmas.List.Elements.{All-head, All-tail, All-cons}
use Rattle.lc_algebra.specs.declared.FieldName.{FieldName}
use Rattle.lc_algebra.specs.Field.{size}
use Rattle.lc_algebra.specs.Word.{IsWord, zero_word, word_sum, scale}
use Rattle.lc_algebra.specs.Span.{below, combine, InSpan, words, AreIndependent}
use Rattle.lc_algebra.specs.Matrix.{AreRows, IsSystematic, IsIdentityOn}
use Rattle.lc_algebra.specs.SpanLaws.{restrict}
use Rattle.lc_algebra.proofs.FieldLaws.{zero_inside, one_inside}
use Rattle.lc_algebra.proofs.WordLaws.{length_scale, word_symbol}
use Rattle.lc_algebra.proofs.SpanLaws.{contains_cases, length_below, span_word, length_combine, combination_of_word, word_of_combination, coefficients_unique, word_of_member, member_of_word, length_words, span_decided, span_within, index_below}
use Rattle.lc_algebra.proofs.ColumnLaws.{length_restrict, index_restrict, restrict_zero, restrict_scale, restrict_sum}
use Rattle.lc_algebra.proofs.DimensionLaws.{AreDistinct, distinct_at_most, words_distinct, all_words, length_all_words, all_words_contain}
use Rattle.lc_algebra.proofs.ReducedLaws.{symbol_of_combination}
use Rattle.lc_enumeration.specs.InformationSet.{same_word, unit_word, systematic}
use Rattle.lc_enumeration.proofs.MemberLaws.{same_from_test, test_from_same}
use Rattle.lc_enumeration.proofs.GreedyLaws.{index_unit, length_unit}
use Rattle.lc_infoset.proofs.BestLaws.{find_passes}
use Rattle.lc_infoset.proofs.AnswerLaws.{find_none}

pub full_rank : (f : FieldName) (k : ℕ) (rows : List (List ℕ)) (w : List ℕ) → AreRows f k rows → AreIndependent f k rows → length rows ≡ k → IsWord f k w → InSpan f k rows w
full_rank f k rows w r h e is =
    ⊎_elim
    (λ i. i)
    (λ out.
    let distinct : AreDistinct (w ∷ words f k rows) = ((λ c. out (word_of_member f k rows w c)), words_distinct f k rows r h) in
    let l : length (w ∷ words f k rows) ≤ length (all_words f k) = distinct_at_most (w ∷ words f k rows) (all_words f k) distinct (λ v c. ⊎_elim (λ s. subst (Contains (all_words f k)) s (all_words_contain f k w is)) (λ m. all_words_contain f k v (span_word f k rows v r (word_of_member f k rows v m))) (contains_cases w v (words f k rows) c)) in
    absurd (omega (arith, l, length_words f k rows, length_all_words f k, ap (λ n. size f ^ n) e)))
    (span_decided f k rows w)

small_bit : (f : FieldName) (b : Bool) → (if b then 1 else 0) < size f
small_bit f true = one_inside f
small_bit f false = zero_inside f

pub unit_is_word : (f : FieldName) (k i : ℕ) → IsWord f k (unit_word k i)
unit_is_word f k i = record {
  long = length_unit k i;
  fits = λ j l. subst (λ a. a < size f) (sym (index_unit k i j (omega (arith, l, length_unit k i)))) (small_bit f (i == j));
}

pub combine_restrict : (f : FieldName) (n : ℕ) (set cs : List ℕ) (rows : List (List ℕ)) → AreRows f n rows → restrict set (combine f n cs rows) ≡ combine f (length set) cs (map (restrict set) rows)
unfolding combine
combine_restrict f n set [] [] r = restrict_zero set n
combine_restrict f n set [] (g ∷ rows) r = restrict_zero set n
combine_restrict f n set (c ∷ cs) [] r = restrict_zero set n
combine_restrict f n set (c ∷ cs) (g ∷ rows) r =
    let tail = All-tail (IsWord f n) g rows r in
    let same : length (scale f c g) ≡ length (combine f n cs rows) = length_scale f c g ∙ (All-head (IsWord f n) g rows r).long ∙ sym (length_combine f n cs rows tail) in
    restrict_sum f set (scale f c g) (combine f n cs rows) same
    ∙ ap (λ u. word_sum f u (restrict set (combine f n cs rows))) (restrict_scale f set c g)
    ∙ ap (word_sum f (scale f c (restrict set g))) (combine_restrict f n set cs rows tail)

pub restrict_word : (f : FieldName) (n : ℕ) (set w : List ℕ) → IsWord f n w → IsWord f (length set) (restrict set w)
restrict_word f n set w h = record {
  long = length_restrict set w;
  fits = λ j l. subst (λ a. a < size f) (sym (index_restrict set w j (omega (arith, l, length_restrict set w)))) (word_symbol f n w h (slice_index set j));
}

pub restricted_rows : (f : FieldName) (n : ℕ) (set : List ℕ) (rows : List (List ℕ)) → AreRows f n rows → AreRows f (length set) (map (restrict set) rows)
restricted_rows f n set [] r = λ i d l. absurd (omega (arith, l))
restricted_rows f n set (g ∷ rows) r = All-cons (IsWord f (length set)) (restrict set g) (map (restrict set) rows) (restrict_word f n set g (All-head (IsWord f n) g rows r)) (restricted_rows f n set rows (All-tail (IsWord f n) g rows r))

pub told_on_set : (f : FieldName) (n : ℕ) (set : List ℕ) (rows : List (List ℕ)) (u v : List ℕ) → AreRows f n rows → AreIndependent f (length set) (map (restrict set) rows) → InSpan f n rows u → InSpan f n rows v → restrict set u ≡ restrict set v → u ≡ v
told_on_set f n set rows u v r h i j e =
    let a = combination_of_word f n rows u i in
    let b = combination_of_word f n rows v j in
    let many : length (map (restrict set) rows) ≡ length rows = length-map rows (restrict set) in
    let same : combine f (length set) a.0 (map (restrict set) rows) ≡ combine f (length set) b.0 (map (restrict set) rows) = sym (combine_restrict f n set a.0 rows r) ∙ ap (restrict set) (sym a.2) ∙ e ∙ ap (restrict set) b.2 ∙ combine_restrict f n set b.0 rows r in
    let equal : a.0 ≡ b.0 = coefficients_unique f (length set) (map (restrict set) rows) a.0 b.0 (restricted_rows f n set rows r) h (subst (λ k. IsWord f k a.0) (sym many) a.1) (subst (λ k. IsWord f k b.0) (sym many) b.1) same in
    a.2 ∙ ap (λ cs. combine f n cs rows) equal ∙ sym b.2

pub record Looked (f : FieldName) (n : ℕ) (rows : List (List ℕ)) (set : List ℕ) (i : ℕ) (w : List ℕ) : Type 0 where
  pub inside : InSpan f n rows w
  pub unit : restrict set w ≡ unit_word (length set) i

abbrev pub is_unit : List ℕ → ℕ → List ℕ → Bool
is_unit set i w = same_word (map (slice_index w) set) (unit_word (length set) i)

pub looked : (f : FieldName) (n : ℕ) (rows : List (List ℕ)) (set : List ℕ) (i : ℕ) → AreRows f n rows → length set ≡ length rows → AreIndependent f (length set) (map (restrict set) rows) → Looked f n rows set i (unwrap_or (find (is_unit set i) (words f n rows)) (zero_word n))
looked f n rows set i r e h =
    let many : length (map (restrict set) rows) ≡ length set = length-map rows (restrict set) ∙ sym e in
    let unit = unit_word (length set) i in
    let a = combination_of_word f (length set) (map (restrict set) rows) unit (full_rank f (length set) (map (restrict set) rows) unit (restricted_rows f n set rows r) h many (unit_is_word f (length set) i)) in
    let c = combine f n a.0 rows in
    let is : IsWord f (length rows) a.0 = subst (λ k. IsWord f k a.0) (many ∙ e) a.1 in
    let inside : InSpan f n rows c = word_of_combination f n rows a.0 is in
    let on : restrict set c ≡ unit = combine_restrict f n set a.0 rows r ∙ sym a.2 in
    let passes : is_unit set i c ≡ true = test_from_same (restrict set c) unit on in
    found (find (is_unit set i) (words f n rows)) refl c (member_of_word f n rows c inside) passes
  where
    found : (o : Option (List ℕ)) → find (is_unit set i) (words f n rows) ≡ o → (c : List ℕ) → Contains (words f n rows) c → is_unit set i c ≡ true → Looked f n rows set i (unwrap_or o (zero_word n))
    found None same c l t = absurd (false≢true (sym (find_none (is_unit set i) (words f n rows) c same l) ∙ t))
    found (Some w) same c l t =
        let p = find_passes (is_unit set i) (words f n rows) w same in
        record { inside = word_of_member f n rows w p.member; unit = same_from_test (restrict set w) (unit_word (length set) i) p.passes }

systematic_is : (f : FieldName) (n : ℕ) (rows : List (List ℕ)) (set : List ℕ) → systematic f n rows set ≡ map (λ i. unwrap_or (find (is_unit set i) (words f n rows)) (zero_word n)) (below (length set))
unfolding systematic
systematic_is f n rows set = refl

pub length_systematic : (f : FieldName) (n : ℕ) (rows : List (List ℕ)) (set : List ℕ) → length (systematic f n rows set) ≡ length set
length_systematic f n rows set = ap length (systematic_is f n rows set) ∙ length-map (below (length set)) (λ i. unwrap_or (find (is_unit set i) (words f n rows)) (zero_word n)) ∙ length_below (length set)

pub row_looked : (f : FieldName) (n : ℕ) (rows : List (List ℕ)) (set : List ℕ) (i : ℕ) → AreRows f n rows → length set ≡ length rows → AreIndependent f (length set) (map (restrict set) rows) → i < length set → (d : List ℕ) → Looked f n rows set i (slice_index_or (systematic f n rows set) i d)
row_looked f n rows set i r e h l d =
    let look : ℕ → List ℕ = λ j. unwrap_or (find (is_unit set j) (words f n rows)) (zero_word n) in
    let row : slice_index_or (systematic f n rows set) i d ≡ look i = ap (λ m. slice_index_or m i d) (systematic_is f n rows set) ∙ get_or-map look (below (length set)) i 0 d (omega (arith, l, length_below (length set))) ∙ ap look (index_below (length set) i 0 l) in
    subst (Looked f n rows set i) (sym row) (looked f n rows set i r e h)

pub systematic_from_square : (f : FieldName) (n : ℕ) (rows : List (List ℕ)) (set : List ℕ) → AreRows f n rows → length set ≡ length rows → AreIndependent f (length set) (map (restrict set) rows) → IsSystematic f n rows set (systematic f n rows set)
systematic_from_square f n rows set r e h =
    let m = systematic f n rows set in
    let many = length_systematic f n rows set in
    let row = λ (i : ℕ) (d : List ℕ) (l : i < length m). row_looked f n rows set i r e h (omega (arith, l, many)) d in
    let inside : All (InSpan f n rows) m = λ i d l. (row i d l).inside in
    let are : AreRows f n m = λ i d l. span_word f n rows (slice_index_or m i d) r (row i d l).inside in
    let identity : IsIdentityOn set m = λ i j l k. sym (index_restrict set (slice_index_or m i []) j k) ∙ ap (λ w. slice_index w j) (row i [] l).unit ∙ index_unit (length set) i j k in
    let to : (w : List ℕ) → InSpan f n rows w → InSpan f n m w = λ w i.
    let cs = restrict set w in
    let is : IsWord f (length m) cs = subst (λ k. IsWord f k cs) (sym many) (restrict_word f n set w (span_word f n rows w r i)) in
    let c = combine f n cs m in
    let here : InSpan f n m c = word_of_combination f n m cs is in
    let there : InSpan f n rows c = span_within f n m rows c r inside here in
    let on : restrict set c ≡ cs = ext_get_or 0 (restrict set c) cs (length_restrict set c ∙ sym (length_restrict set w)) (λ j l.
    let k : j < length set = omega (arith, l, length_restrict set c) in
    index_restrict set c j k ∙ symbol_of_combination f n set m cs j are many identity is k) in
    subst (InSpan f n m) (told_on_set f n set rows c w r h there i on) here in
    record {
      same = λ w. (to w, span_within f n m rows w r inside);
      words = are;
      count = many;
      identity = identity;
    }

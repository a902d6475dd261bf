-- What the codes of construction X obey.
--   combine_zero           a combination with all coefficients 0
--   extended_zero_tail     the words with a zero tail are those of the subcode
--   extended_bound         a bound of the weights
--   extended_dimension     the dimension
--   extended_split, extended_only_zero      each word of the code is the sum of one of the subcode and one of the complement
use Rattle.std.proofs.Common.{◌≡◌, ◌≢◌, ℕ, ◌+◌, ◌<◌, ◌≤◌, ◌↔◌, List, ◌++◌, length, take, drop, refl, sym, ap, ap₂, subst, ◌∙◌, ⊎_elim, arith}
use Rattle.std.proofs.Math.Seq.{take-append_seam, drop-append_seam}
use Rattle.std.proofs.lemmas.Bool.{cases_eq}
use Rattle.std.proofs.lemmas.List.{length-append, length-map}
use Rattle.lc_algebra.specs.declared.FieldName.{FieldName}
use Rattle.lc_algebra.specs.Field.{neg}
use Rattle.lc_algebra.specs.Word.{IsWord, zero_word, word_sum, scale, weight}
use Rattle.lc_algebra.specs.Span.{combine, InSpan, SameSpan, AreIndependent, IsWeightBound}
use Rattle.lc_algebra.specs.Matrix.{Matrix, AreRows, IsReduced}
use Rattle.lc_algebra.proofs.WordLaws.{IsWord_zero, IsWord_sum, length_zero_word, weight_zero_word, zero_from_weight, sum_zero, zero_sum, zero_scale}
use Rattle.lc_algebra.proofs.SpanLaws.{span_word, span_zero, span_sum, span_scale, combine_scale, combine_is_word, word_of_combination}
use Rattle.lc_algebra.proofs.ReducedLaws.{reduced_independent}
use Rattle.lc_algebra.proofs.DimensionLaws.{dimension_unique}
use Rattle.lc_constructions.specs.Code.{InCode, IsCode}
use Rattle.lc_language.specs.ConstructionX.{InComplement, InConstructionX}
use Rattle.lc_linear_laws.proofs.PartLaws.{weight_append, bound_of_words, left_linear, word_append, zero_parted, independent_parts}
use Rattle.lc_linear_laws.proofs.LinearLaws.{combine_image, same_rows}
use Rattle.lc_code.specs.Rows.{left_rows}
use Rattle.lc_relations.proofs.UnionLaws.{told, shared, shared_rows, second_of}
use Rattle.lc_extend.specs.Told.{AreExtendable}
use Rattle.lc_extend.specs.Rows.{side_rows}
use Rattle.lc_extend.proofs.RowLaws.{side_words, length_side, combine_side}
use Rattle.lc_extend.proofs.ComplementLaws.{complement_parted, complement_zero, complement_dimension}
use Rattle.lc_extend.proofs.ConstructionLaws.{tails_count, extended_words, joined_sum, extended_members}

record Parted (C D E : Matrix) (w : List ℕ) : Type 0 where
  complement : Matrix
  is_complement : IsCode C.field C.columns (InComplement C D) complement
  part : List ℕ
  message : List ℕ
  in_part : InCode D part
  word : IsWord E.field (length E.rows) message
  is : w ≡ word_sum C.field part (combine C.field C.columns message complement.rows) ++ combine E.field E.columns message E.rows

parted : (C D E : Matrix) (w : List ℕ) → InConstructionX C D E w → Parted C D E w
parted C D E w (B, b, (d, (m, i, word, e))) = record { complement = B; is_complement = b; part = d; message = m; in_part = i; word = word; is = e }

pub combine_zero : (f : FieldName) (n k : ℕ) (rows : List (List ℕ)) → AreRows f n rows → combine f n (zero_word k) rows ≡ zero_word n
combine_zero f n k rows r =
    ap (λ cs. combine f n cs rows) (sym (zero_scale f k (zero_word k) (length_zero_word k))) ∙ combine_scale f n 0 (zero_word k) rows
    ∙ zero_scale f n (combine f n (zero_word k) rows) (combine_is_word f n (zero_word k) rows r).long

-- of a word, what its tail says
record Told (C D E : Matrix) (w : List ℕ) (p : Parted C D E w) : Type 0 where
  part_word : IsWord C.field C.columns p.part
  rest_word : IsWord C.field C.columns (combine C.field C.columns p.message p.complement.rows)
  tail_word : IsWord E.field E.columns (combine E.field E.columns p.message E.rows)
  rest_in : InComplement C D (combine C.field C.columns p.message p.complement.rows)
  in_whole : InCode C p.part
  tail_in : InCode E (combine E.field E.columns p.message E.rows)
  none : combine E.field E.columns p.message E.rows ≡ zero_word E.columns → combine C.field C.columns p.message p.complement.rows ≡ zero_word C.columns
  none_back : combine C.field C.columns p.message p.complement.rows ≡ zero_word C.columns → combine E.field E.columns p.message E.rows ≡ zero_word E.columns

told_of : (C D E : Matrix) (w : List ℕ) (p : Parted C D E w) → AreExtendable C D E → Told C D E w p
told_of C D E w p h =
    let f = C.field in
    let n = C.columns in
    let B = p.complement in
    let b = p.is_complement in
    let m = p.message in
    let count : length B.rows ≡ length E.rows = tails_count C D E B h.fields h.lengths h.whole_rows h.whole_reduced h.part_rows h.part_reduced h.inside h.dimension b in
    let word : IsWord f (length B.rows) m = subst (λ k. IsWord f k m) (sym count) (subst (λ g. IsWord g (length E.rows) m) (sym h.tail_fields) p.word) in
    let in_whole : InCode C p.part = h.inside p.part p.in_part in
    let inside : InSpan f n B.rows (combine f n m B.rows) = word_of_combination f n B.rows m word in
    record {
      part_word = span_word f n C.rows p.part h.whole_rows in_whole;
      rest_word = combine_is_word f n m B.rows b.generator.words;
      tail_word = combine_is_word E.field E.columns m E.rows h.tail_rows;
      rest_in = ((b.generator.members (combine f n m B.rows)).0 inside).1;
      in_whole = in_whole;
      tail_in = word_of_combination E.field E.columns E.rows m p.word;
      none = λ z.
          let zero : m ≡ zero_word (length E.rows) = reduced_independent E.field E.columns E.rows h.tail_rows h.tail_reduced m p.word z in
          ap (λ cs. combine f n cs B.rows) zero ∙ combine_zero f n (length E.rows) B.rows b.generator.words;
      none_back = λ z.
          let zero : m ≡ zero_word (length B.rows) = reduced_independent f n B.rows b.generator.words b.generator.reduced m word z in
          ap (λ cs. combine E.field E.columns cs E.rows) zero ∙ combine_zero E.field E.columns (length B.rows) E.rows h.tail_rows;
    }

-- ---- words with a zero tail

parts_same : (n : ℕ) (a b u v : List ℕ) → length a ≡ n → length u ≡ n → a ++ b ≡ u ++ v → (a ≡ u) × (b ≡ v)
parts_same n a b u v x y e = (
  sym (take-append_seam a b) ∙ ap₂ (λ (k : ℕ) (w : List ℕ). take k w) (x ∙ sym y) e ∙ take-append_seam u v,
  sym (drop-append_seam a b) ∙ ap₂ (λ (k : ℕ) (w : List ℕ). drop k w) (x ∙ sym y) e ∙ drop-append_seam u v,
)

pub extended_zero_tail : (C D E X : Matrix) (u : List ℕ) → AreExtendable C D E → IsCode C.field (C.columns + E.columns) (InConstructionX C D E) X → length u ≡ C.columns → InCode X (u ++ zero_word E.columns) ↔ InCode D u
extended_zero_tail C D E X u h x l =
    let f = C.field in
    let n = C.columns in
    let m = E.columns in
    let P = InConstructionX C D E in (
      (λ i.
          let p = parted C D E (u ++ zero_word m) ((told f (n + m) P X (u ++ zero_word m) x).0 i).1 in
          let t = told_of C D E (u ++ zero_word m) p h in
          let rest = combine f n p.message p.complement.rows in
          let same = parts_same n u (zero_word m) (word_sum f p.part rest) (combine E.field m p.message E.rows) l (IsWord_sum f n p.part rest t.part_word.long t.rest_word.long).long p.is in
          let is : u ≡ p.part = same.0 ∙ ap (word_sum f p.part) (t.none (sym same.1)) ∙ sum_zero f n p.part t.part_word in
          subst (InCode D) (sym is) p.in_part),
      (λ i.
          let zero_in : InCode X (zero_word (n + m)) = subst (λ k. InSpan X.field X.columns X.rows (zero_word k)) x.length_is (span_zero X.field X.columns X.rows (subst (λ k. AreRows X.field k X.rows) (sym x.length_is) (subst (λ g. AreRows g (n + m) X.rows) (sym x.over) x.generator.words))) in
          let p = parted C D E (zero_word (n + m)) ((told f (n + m) P X (zero_word (n + m)) x).0 zero_in).1 in
          let B = p.complement in
          let b = p.is_complement in
          let k = length E.rows in
          let word : IsWord f n u = span_word f n D.rows u (shared_rows C D h.fields h.lengths h.part_rows) ((shared C D u h.fields h.lengths).0 i) in
          let whole : IsWord f (n + m) (u ++ zero_word m) = word_append f n m u (zero_word m) word (IsWord_zero f m) in
          let is : u ++ zero_word m ≡ word_sum f u (combine f n (zero_word k) B.rows) ++ combine E.field m (zero_word k) E.rows = sym (ap₂ (λ (a c : List ℕ). word_sum f u a ++ c) (combine_zero f n k B.rows b.generator.words) (combine_zero E.field m k E.rows h.tail_rows) ∙ ap (λ (a : List ℕ). a ++ zero_word m) (sum_zero f n u word)) in
          (told f (n + m) P X (u ++ zero_word m) x).1 (whole, (B, b, (u, (zero_word k, i, IsWord_zero E.field k, is))))),
    )

-- ---- weights

heavy : (n : ℕ) (w : List ℕ) → length w ≡ n → w ≢ zero_word n → 0 < weight w
heavy n w l o = ⊎_elim (λ (e : weight w ≡ 0). absurd (o (zero_from_weight n w l e))) (λ (e : weight w ≢ 0). omega (arith, e)) (cases_eq (weight w) 0)

pub extended_bound : (C D E X : Matrix) (a b c t : ℕ) → AreExtendable C D E → IsCode C.field (C.columns + E.columns) (InConstructionX C D E) X → IsWeightBound D.field D.columns D.rows a → IsWeightBound C.field C.columns C.rows b → IsWeightBound E.field E.columns E.rows c → t ≤ a → t ≤ b + c → IsWeightBound X.field X.columns X.rows t
extended_bound C D E X a b c t h x bd bc be ta tbc =
    bound_of_words X C.field (C.columns + E.columns) t (InConstructionX C D E) x (λ w i l.
    let f = C.field in
    let n = C.columns in
    let p = parted C D E w i in
    let s = told_of C D E w p h in
    let rest = combine f n p.message p.complement.rows in
    let tail = combine E.field E.columns p.message E.rows in
    let front = word_sum f p.part rest in
    let parts : weight w ≡ weight front + weight tail = ap (λ v. weight v) p.is ∙ weight_append front tail in
    ⊎_elim
    (λ (z : weight tail ≡ 0).
    let same : front ≡ p.part = ap (word_sum f p.part) (s.none (zero_from_weight E.columns tail s.tail_word.long z)) ∙ sum_zero f n p.part s.part_word in
    let e : weight w ≡ weight p.part = omega (arith, parts, z, ap (λ v. weight v) same) in
    omega (arith, e, ta, bd p.part p.in_part (omega (arith, e, l))))
    (λ (o : weight tail ≢ 0).
    let front_word : IsWord f n front = IsWord_sum f n p.part rest s.part_word.long s.rest_word.long in
    let other : front ≢ zero_word n = λ z.
    let turned : rest ≡ scale f (neg f 1) p.part = sym (second_of f n p.part rest s.part_word s.rest_word) ∙ ap (λ v. word_sum f v (scale f (neg f 1) p.part)) z ∙ zero_sum f n (scale f (neg f 1) p.part) (span_word f n C.rows (scale f (neg f 1) p.part) h.whole_rows (span_scale f n C.rows (neg f 1) p.part s.in_whole)) in
    let in_part : InCode D rest = subst (InCode D) (sym turned) (subst (λ g. InCode D (scale g (neg g 1) p.part)) (sym h.fields) (span_scale D.field D.columns D.rows (neg D.field 1) p.part p.in_part)) in
    let none : rest ≡ zero_word n = complement_zero C D rest h.fields h.lengths h.part_rows h.part_reduced in_part s.rest_in in
    o (ap (λ v. weight v) (s.none_back none) ∙ weight_zero_word E.columns) in
    let in_whole : InCode C front = span_sum f n C.rows p.part rest s.in_whole s.rest_in.0 in
    let first = bc front in_whole (heavy n front front_word.long other) in
    let second = be tail s.tail_in (omega (arith, o)) in
    omega (arith, parts, first, second, tbc))
    (cases_eq (weight tail) 0))

-- ---- the dimension

pub extended_dimension : (C D E X : Matrix) → AreExtendable C D E → IsCode C.field (C.columns + E.columns) (InConstructionX C D E) X → length X.rows ≡ length C.rows
extended_dimension C D E X h x =
    let f = C.field in
    let n = C.columns in
    let m = E.columns in
    let P = InConstructionX C D E in
    let zero_in : InSpan f (n + m) X.rows (zero_word (n + m)) = span_zero f (n + m) X.rows x.generator.words in
    let p = parted C D E (zero_word (n + m)) ((x.generator.members (zero_word (n + m))).0 zero_in).1 in
    let B = p.complement in
    let b = p.is_complement in
    let count : length B.rows ≡ length E.rows = tails_count C D E B h.fields h.lengths h.whole_rows h.whole_reduced h.part_rows h.part_reduced h.inside h.dimension b in
    let left = left_rows m D.rows in
    let sides = side_rows B.rows E.rows in
    let part : AreRows f n D.rows = shared_rows C D h.fields h.lengths h.part_rows in
    let reduced : IsReduced n D.rows = subst (λ k. IsReduced k D.rows) (sym h.lengths) h.part_reduced in
    let tails : AreRows f m E.rows = subst (λ g. AreRows g m E.rows) (sym h.tail_fields) h.tail_rows in
    let words : AreRows f (n + m) (left ++ sides) = extended_words C D E B f (n + m) (left ++ sides) h.fields h.lengths h.tail_fields h.part_rows h.tail_rows b refl refl refl in
    let side : AreRows f (n + m) sides = side_words f n m B.rows E.rows b.generator.words tails in
    let first : length left ≡ length D.rows = length-map D.rows (λ u. u ++ zero_word m) in
    let second : length sides ≡ length E.rows = length_side B.rows E.rows count in
    let free : AreIndependent f (n + m) (left ++ sides) = independent_parts f (n + m) left sides side (λ cs bs wa wb z.
    let d = combine f n cs D.rows in
    let u = combine f n bs B.rows in
    let v = combine f m bs E.rows in
    let word_d = combine_is_word f n cs D.rows part in
    let word_u = combine_is_word f n bs B.rows b.generator.words in
    let word_v = combine_is_word f m bs E.rows tails in
    let is : word_sum f d u ++ v ≡ zero_word (n + m) = sym (joined_sum f n m d u v word_d word_u word_v) ∙ sym (ap₂ (word_sum f) (combine_image f n (n + m) (λ w. w ++ zero_word m) cs D.rows (left_linear f n m) part) (combine_side f n m bs B.rows E.rows b.generator.words tails count)) ∙ z in
    let zeros = zero_parted n m (word_sum f d u) v (IsWord_sum f n d u word_d.long word_u.long).long word_v.long is in
    let no_tail : bs ≡ zero_word (length E.rows) = reduced_independent f m E.rows tails h.tail_reduced bs (subst (λ k. IsWord f k bs) second wb) zeros.1 in
    let no_rest : u ≡ zero_word n = ap (λ c. combine f n c B.rows) no_tail ∙ combine_zero f n (length E.rows) B.rows b.generator.words in
    let no_part : d ≡ zero_word n = sym (sum_zero f n d word_d) ∙ ap (word_sum f d) (sym no_rest) ∙ zeros.0 in
    let none : cs ≡ zero_word (length D.rows) = reduced_independent f n D.rows part reduced cs (subst (λ k. IsWord f k cs) first wa) no_part in
    (none ∙ ap (λ k. zero_word k) (sym first), no_tail ∙ ap (λ k. zero_word k) (sym second))) in
    let same : SameSpan f (n + m) (left ++ sides) X.rows = same_rows f (n + m) P (left ++ sides) X x words (λ w. extended_members C D E B w h.fields h.lengths h.tail_fields h.part_rows h.tail_rows b count) in
    let counted = dimension_unique f (n + m) (left ++ sides) X.rows words x.generator.words free (reduced_independent f (n + m) X.rows x.generator.words x.generator.reduced) same in
    omega (arith, counted, length-append left sides, first, second, count, complement_dimension C D B h.fields h.lengths h.whole_rows h.whole_reduced h.part_rows h.part_reduced h.inside b)

pub extended_split : (C D E : Matrix) (w : List ℕ) → AreExtendable C D E → InCode C w → (u : List ℕ) × ((v : List ℕ) × InCode D u × InComplement C D v × (w ≡ word_sum C.field u v))
extended_split C D E w h i = complement_parted C D w h.fields h.lengths h.whole_rows h.part_rows h.part_reduced h.inside i

pub extended_only_zero : (C D E : Matrix) (w : List ℕ) → AreExtendable C D E → InCode D w → InComplement C D w → w ≡ zero_word C.columns
extended_only_zero C D E w h i c = complement_zero C D w h.fields h.lengths h.part_rows h.part_reduced i c

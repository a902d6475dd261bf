-- The weights of combined codes, and the dual of a shortened code.
--   sum_bound, uuv_bound, shortened_bound, extended_bound
--   shortened_dual         a shortened code is the dual of the punctured dual
use Rattle.std.proofs.Common.{◌≡◌, ℕ, suc, ◌+◌, ◌-◌, ◌*◌, ◌≤◌, Bool, true, false, cond, ◌==◌, List, [], ◌∷◌, length, slice_index, slice_index_or, None, All, refl, sym, ap, subst, ◌∙◌, ⊎_elim, arith}
use Rattle.std.specs.List.{list_any}
use Rattle.std.proofs.lemmas.Bool.{cases_lt, eqb-true}
use Rattle.std.proofs.lemmas.List.Elements.{All-contains}
use Rattle.lc_algebra.specs.declared.FieldName.{FieldName}
use Rattle.lc_algebra.specs.Field.{neg}
use Rattle.lc_algebra.specs.Word.{IsWord, zero_word, word_sum, scale, weight, word_dot}
use Rattle.lc_algebra.specs.Span.{InSpan, IsWeightBound}
use Rattle.lc_algebra.specs.Matrix.{Matrix, AreRows, IsReduced}
use Rattle.lc_algebra.proofs.FieldLaws.{neg_inside, neg_zero}
use Rattle.lc_algebra.proofs.WordLaws.{weight_cons, weight_zero_head, zero_from_weight, weight_sum_at_most, weight_scale, neg_one_nonzero, sum_comm, sum_zero, multiple_undone, one_scale}
use Rattle.lc_algebra.proofs.SpanLaws.{span_word, span_row, dot_span}
use Rattle.lc_algebra.proofs.SpanSearch.{any_contains}
use Rattle.lc_constructions.specs.Code.{IsCode, InCode}
use Rattle.lc_constructions.specs.Combined.{symbol_sum, without_from, without, InDual, InExtended, InPunctured, InShortened, InDirectSum, InUuv}
use Rattle.lc_constructions.specs.Refusal.{first_refusal}
use Rattle.lc_constructions.specs.Refusals.{deleted_refusals}
use Rattle.lc_constructions.proofs.ClosedLaws.{symbol_sum_of_zero}
use Rattle.lc_linear_laws.proofs.LinearLaws.{image_span, span_image, image_rows}
use Rattle.lc_code.proofs.CodeLaws.{same_code}
use Rattle.lc_linear_laws.proofs.PartLaws.{weight_append, bound_of_words}
use Rattle.lc_combine.specs.Rows.{punctured_rows}
use Rattle.lc_combine.proofs.DeletedLaws.{deleted_linear, shortened_members}

pub sum_bound : (C D E : Matrix) (n d e b : ℕ) → IsCode C.field n (InDirectSum C D) E → IsWeightBound C.field C.columns C.rows d → IsWeightBound D.field D.columns D.rows e → b ≤ d → b ≤ e → IsWeightBound E.field E.columns E.rows b
sum_bound C D E n d e b c p q x y =
    bound_of_words E C.field n b (InDirectSum C D) c (λ w t l.
    let (u, (v, cu, dv, k)) = t in
    let a : weight w ≡ weight u + weight v = ap (λ z. weight z) k ∙ weight_append u v in
    ⊎_elim
    (λ m. omega (arith, a, p u cu m, x))
    (λ m. omega (arith, a, q v dv (omega (arith, a, l, m)), y))
    (cases_lt 0 (weight u)))

second_weight : (f : FieldName) (n : ℕ) (u v : List ℕ) → IsWord f n u → IsWord f n v → weight v ≤ weight u + weight (word_sum f u v)
second_weight f n u v a b =
    let back : word_sum f (word_sum f v (scale f 1 u)) (scale f (neg f 1) u) ≡ v = multiple_undone f n 1 v u b a.long in
    let same : word_sum f (word_sum f u v) (scale f (neg f 1) u) ≡ v = ap (λ x. word_sum f x (scale f (neg f 1) u)) (sum_comm f u v ∙ ap (word_sum f v) (sym (one_scale f u a.fits))) ∙ back in
    let most = weight_sum_at_most f (word_sum f u v) (scale f (neg f 1) u) in
    let turned : weight (scale f (neg f 1) u) ≡ weight u = weight_scale f (neg f 1) u (neg_inside f 1) (neg_one_nonzero f) a.fits in
    omega (arith, ap (λ x. weight x) same, most, turned)

pub uuv_bound : (C D E : Matrix) (n d e b : ℕ) → C.field ≡ D.field → C.columns ≡ D.columns → AreRows C.field C.columns C.rows → AreRows D.field D.columns D.rows → IsCode C.field n (InUuv C D) E → IsWeightBound C.field C.columns C.rows d → IsWeightBound D.field D.columns D.rows e → b ≤ 2 * d → b ≤ e → IsWeightBound E.field E.columns E.rows b
uuv_bound C D E n d e b g h r s c p q x y =
    let f = C.field in
    bound_of_words E f n b (InUuv C D) c (λ w t l.
    let (u, (v, cu, dv, k)) = t in
    let a : weight w ≡ weight u + weight (word_sum f u v) = ap (λ z. weight z) k ∙ weight_append u (word_sum f u v) in
    let wu : IsWord f C.columns u = span_word f C.columns C.rows u r cu in
    let wv : IsWord f C.columns v = subst (λ m. IsWord f m v) (sym h) (subst (λ z. IsWord z D.columns v) (sym g) (span_word D.field D.columns D.rows v s dv)) in
    ⊎_elim
    (λ m. omega (arith, a, q v dv m, y, second_weight f C.columns u v wu wv))
    (λ m.
    let z : v ≡ zero_word C.columns = zero_from_weight C.columns v wv.long (omega (arith, m)) in
    let o : weight (word_sum f u v) ≡ weight u = ap (λ z. weight z) (ap (word_sum f u) z ∙ sum_zero f C.columns u wu) in
    omega (arith, a, o, p u cu (omega (arith, a, o, l)), x))
    (cases_lt 0 (weight v)))

cond_weight : (t : Bool) (a : ℕ) (u x : List ℕ) → (t ≡ true → a ≡ 0) → weight x ≡ weight u → weight (cond t x (a ∷ x)) ≡ weight (a ∷ u)
cond_weight true a u x z e = e ∙ sym (ap (λ k. weight (k ∷ u)) (z refl) ∙ weight_zero_head u)
cond_weight false a u x z e = omega (arith, weight_cons a x, weight_cons a u, e)

weight_without_from : (i : ℕ) (coordinates u : List ℕ) → ((j k : ℕ) → j ≡ i + k → list_any (λ p. j == p) coordinates ≡ true → slice_index u k ≡ 0) → weight (without_from i coordinates u) ≡ weight u
unfolding without_from
weight_without_from i coordinates [] z = refl
weight_without_from i coordinates (a ∷ u) z =
    cond_weight (list_any (λ p. i == p) coordinates) a u (without_from (suc i) coordinates u) (λ t. z i 0 (omega arith) t) (weight_without_from (suc i) coordinates u (λ j k e t. z j (suc k) (omega (arith, e)) t))

weight_without : (coordinates u : List ℕ) → All (λ p. slice_index u p ≡ 0) coordinates → weight (without coordinates u) ≡ weight u
unfolding without
weight_without coordinates u z =
    weight_without_from 0 coordinates u (λ j k e t.
    let (q, c, x) = any_contains (λ p. j == p) coordinates t in
    let y : k ≡ q = omega (arith, e, eqb-true j q x) in
    ap (slice_index u) y ∙ All-contains (λ p. slice_index u p ≡ 0) coordinates q z c)

pub shortened_bound : (C E : Matrix) (coordinates : List ℕ) (n d : ℕ) → IsCode C.field n (InShortened C coordinates) E → IsWeightBound C.field C.columns C.rows d → IsWeightBound E.field E.columns E.rows d
shortened_bound C E coordinates n d c p =
    bound_of_words E C.field n d (InShortened C coordinates) c (λ w t l.
    let (u, cu, z, k) = t in
    let a : weight w ≡ weight u = ap (λ x. weight x) k ∙ weight_without coordinates u z in
    omega (arith, a, p u cu (omega (arith, a, l))))

pub extended_bound : (C E : Matrix) (n d : ℕ) → AreRows C.field C.columns C.rows → IsCode C.field n (InExtended C) E → IsWeightBound C.field C.columns C.rows d → IsWeightBound E.field E.columns E.rows d
extended_bound C E n d r c p =
    let f = C.field in
    bound_of_words E f n d (InExtended C) c (λ w t l.
    let (u, cu, k) = t in
    let a : weight w ≡ weight u + weight (neg f (symbol_sum f u) ∷ []) = ap (λ x. weight x) k ∙ weight_append u (neg f (symbol_sum f u) ∷ []) in
    ⊎_elim
    (λ m. omega (arith, a, p u cu m))
    (λ m.
    let z : u ≡ zero_word C.columns = zero_from_weight C.columns u (span_word f C.columns C.rows u r cu).long (omega (arith, m)) in
    let o : weight (neg f (symbol_sum f u) ∷ []) ≡ 0 = ap (λ x. weight (x ∷ [])) (ap (λ v. neg f (symbol_sum f v)) z ∙ ap (neg f) (symbol_sum_of_zero f C.columns) ∙ neg_zero f) in
    absurd (omega (arith, a, o, m, l)))
    (cases_lt 0 (weight u)))

-- ---- the dual of a shortened code

pub shortened_dual : (C H P S : Matrix) (coordinates : List ℕ) → AreRows C.field C.columns C.rows → IsReduced C.columns C.rows → first_refusal (deleted_refusals C coordinates) ≡ None → IsCode C.field C.columns (InDual C) H → IsCode C.field (C.columns - length coordinates) (InPunctured H coordinates) P → IsCode C.field (C.columns - length coordinates) (InShortened C coordinates) S → IsCode C.field (C.columns - length coordinates) (InDual P) S
shortened_dual C H P S coordinates r reduced h d c s =
    let f = C.field in
    let n = C.columns in
    let m = C.columns - length coordinates in
    let linear = deleted_linear C coordinates h in
    let rows = punctured_rows coordinates H.rows in
    let words : AreRows f m rows = image_rows f n m (without coordinates) H.rows linear d.generator.words in
    let inside : (v : List ℕ) → InCode P v → InSpan f m P.rows v = λ v t. subst (λ k. InSpan f k P.rows v) c.length_is (subst (λ g. InSpan g P.columns P.rows v) c.over t) in
    let outside : (v : List ℕ) → InSpan f m P.rows v → InCode P v = λ v t. subst (λ g. InSpan g P.columns P.rows v) (sym c.over) (subst (λ k. InSpan f k P.rows v) (sym c.length_is) t) in
    let dual : (u : List ℕ) → InCode H u → InSpan f n H.rows u = λ u t. subst (λ k. InSpan f k H.rows u) d.length_is (subst (λ g. InSpan g H.columns H.rows u) d.over t) in
    let back : (u : List ℕ) → InSpan f n H.rows u → InCode H u = λ u t. subst (λ g. InSpan g H.columns H.rows u) (sym d.over) (subst (λ k. InSpan f k H.rows u) (sym d.length_is) t) in
    same_code f m (InShortened C coordinates) (InDual P) S (λ w word.
    let members = shortened_members C H coordinates w r reduced d h word in (
      (λ t v z.
          let (u, y, e) = ((c.generator.members v).0 (inside v z)).1 in
          let x : InSpan f m rows v = subst (InSpan f m rows) (sym e) (image_span f n m (without coordinates) H.rows u linear d.generator.words (dual u y)) in
          subst (λ g. word_dot g v w ≡ 0) (sym c.over) (dot_span f m rows w v words (members.1 t) x)),
      (λ o. members.0 (λ k x l.
          let v = slice_index_or rows k x in
          let (u, y, e) = span_image f n m (without coordinates) H.rows v linear d.generator.words (span_row f m rows words k x l) in
          subst (λ g. word_dot g v w ≡ 0) c.over (o v (outside v ((c.generator.members v).1 (words k x l, (u, back u y, e))))))),
    )) s

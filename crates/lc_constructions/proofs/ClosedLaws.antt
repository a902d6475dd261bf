-- The words of each combined code are a linear code. The rows of the parts are words over their fields.
--   sum_parts, scale_parts, zero_parts      sums and multiples of words in two parts
--   dual_closed, intersection_closed
--   symbol_sum_of_sum, symbol_sum_of_multiple, extended_closed
--   without_sum, without_scale, without_zero, punctured_closed, shortened_closed
--   overlap, even_sum, even_multiple, even_weight_closed
--   direct_sum_closed, uuv_closed
--   span_of_both, direct_product_closed
--   value_of_sum, value_of_multiple, replaced_sum, replaced_multiple, replaced_zero, concatenated_closed
use Rattle.std.proofs.Common.{◌≡◌, ℕ, zero, suc, ◌+◌, ◌*◌, ◌%◌, ◌<◌, Bool, true, false, ◌==◌, cond, List, [], ◌∷◌, ◌++◌, length, map, refl, sym, ap, ap₂, subst, ◌∙◌, arith}
use Rattle.std.specs.List.{list_any}
use Rattle.std.proofs.Math.Nat.{zero-mul, suc-mul}
use Rattle.std.proofs.lemmas.List.{replicate-append-replicate}
use Rattle.std.proofs.lemmas.List.Elements.{All-append}
use Rattle.lc_algebra.specs.declared.FieldName.{FieldName}
use Rattle.lc_algebra.specs.declared.FieldName.TheVariants.{Gf2}
use Rattle.lc_algebra.specs.Residue.{digits, number, plus}
use Rattle.lc_algebra.specs.Field.{shape, shape_of, size, coefficients, add, neg, mul}
use Rattle.lc_algebra.specs.Polynomial.{value_at}
use Rattle.lc_algebra.specs.Embedding.{IsSubfield, embed}
use Rattle.lc_algebra.specs.Word.{Fits, IsWord, zero_word, word_sum, scale, weight}
use Rattle.lc_algebra.specs.Span.{InSpan, combine}
use Rattle.lc_algebra.specs.Matrix.{Matrix, AreRows}
use Rattle.lc_algebra.proofs.FieldLaws.{mul_swap, zero_inside, neg_zero, zero_add, mul_zero, mul_add, mul_neg, neg_one_mul}
use Rattle.lc_algebra.proofs.EmbeddingLaws.{embed_zero}
use Rattle.lc_algebra.proofs.WordLaws.{IsWord_zero, IsWord_sum, IsWord_scale, scale_zero, fits_head, fits_tail, weight_zero_head, weight_other_head, weight_zero_word, zero_scale, one_scale, index_word_sum, index_scale, index_zero_word, sum_exchange, sum_assoc, zero_sum, scale_sum, dot_sum, dot_scale, dot_zero, add_exchange}
use Rattle.lc_algebra.proofs.SpanLaws.{length_combine, combine_sum, combine_scale, span_word, span_zero, span_sum, span_scale}
use Rattle.lc_algebra.proofs.EmbeddingTests.{size_two}
use Rattle.lc_constructions.specs.Code.{InCode, IsClosed}
use Rattle.lc_constructions.specs.Combined.{InDual, InIntersection, symbol_sum, InExtended, without_from, without, InPunctured, InShortened, InEvenWeight, InDirectSum, InUuv, tensor, InDirectProduct}
use Rattle.lc_constructions.specs.Concatenated.{IsReplaced, IsReplacedWord, InConcatenated}
use Rattle.lc_constructions.proofs.AlternantLaws.{embedded_length, embedded_sum, embedded_scale}

-- ---- words in two parts

pub sum_parts : (f : FieldName) (u x v y : List ℕ) → length u ≡ length x → word_sum f (u ++ v) (x ++ y) ≡ word_sum f u x ++ word_sum f v y
unfolding word_sum
sum_parts f [] [] v y e = refl
sum_parts f [] (b ∷ x) v y e = absurd (omega (arith, e))
sum_parts f (a ∷ u) [] v y e = absurd (omega (arith, e))
sum_parts f (a ∷ u) (b ∷ x) v y e = ap (λ t. add f a b ∷ t) (sum_parts f u x v y (omega (arith, e)))

pub scale_parts : (f : FieldName) (c : ℕ) (u v : List ℕ) → scale f c (u ++ v) ≡ scale f c u ++ scale f c v
unfolding scale
scale_parts f c [] v = refl
scale_parts f c (a ∷ u) v = ap (λ t. mul f c a ∷ t) (scale_parts f c u v)

pub zero_parts : (m n : ℕ) → zero_word m ++ zero_word n ≡ zero_word (m + n)
zero_parts m n = replicate-append-replicate m n 0

code_word : (C : Matrix) (u : List ℕ) → AreRows C.field C.columns C.rows → InCode C u → length u ≡ C.columns
code_word C u r h = (span_word C.field C.columns C.rows u r h).long

-- ---- dual codes and intersections

pub dual_closed : (C : Matrix) → IsClosed C.field C.columns (InDual C)
dual_closed C = record {
  zero = λ v h. dot_zero C.field C.columns v;
  sums = λ u w a b p q v h. dot_sum C.field v u w (a.long ∙ sym b.long) ∙ ap₂ (add C.field) (p v h) (q v h) ∙ zero_add C.field 0 (zero_inside C.field);
  multiples = λ c u l a p v h. dot_scale C.field c v u ∙ ap (mul C.field c) (p v h) ∙ mul_zero C.field c;
}

pub intersection_closed : (C D : Matrix) → AreRows C.field C.columns C.rows → AreRows D.field D.columns D.rows → C.field ≡ D.field → C.columns ≡ D.columns → IsClosed C.field C.columns (InIntersection C D)
intersection_closed C D r s e k =
    let f = C.field in
    let n = C.columns in
    record {
      zero = (span_zero f n C.rows r, subst (λ m. InCode D (zero_word m)) (sym k) (span_zero D.field D.columns D.rows s));
      sums = λ u v a b p q. (span_sum f n C.rows u v p.0 q.0, subst (λ g. InCode D (word_sum g u v)) (sym e) (span_sum D.field D.columns D.rows u v p.1 q.1));
      multiples = λ c u l a p. (span_scale f n C.rows c u p.0, subst (λ g. InCode D (scale g c u)) (sym e) (span_scale D.field D.columns D.rows c u p.1));
    }

-- ---- extended codes

pub symbol_sum_of_sum : (f : FieldName) (u v : List ℕ) → length u ≡ length v → symbol_sum f (word_sum f u v) ≡ add f (symbol_sum f u) (symbol_sum f v)
unfolding symbol_sum word_sum
symbol_sum_of_sum f [] [] e = sym (zero_add f 0 (zero_inside f))
symbol_sum_of_sum f [] (b ∷ v) e = absurd (omega (arith, e))
symbol_sum_of_sum f (a ∷ u) [] e = absurd (omega (arith, e))
symbol_sum_of_sum f (a ∷ u) (b ∷ v) e = cc (symbol_sum_of_sum f u v (omega (arith, e)), add_exchange f a b (symbol_sum f u) (symbol_sum f v))

pub symbol_sum_of_multiple : (f : FieldName) (c : ℕ) (u : List ℕ) → symbol_sum f (scale f c u) ≡ mul f c (symbol_sum f u)
unfolding symbol_sum scale
symbol_sum_of_multiple f c [] = sym (mul_zero f c)
symbol_sum_of_multiple f c (a ∷ u) = cc (symbol_sum_of_multiple f c u, mul_add f c a (symbol_sum f u))

pub symbol_sum_of_zero : (f : FieldName) (n : ℕ) → symbol_sum f (zero_word n) ≡ 0
unfolding symbol_sum
symbol_sum_of_zero f zero = refl
symbol_sum_of_zero f (suc n) = ap (add f 0) (symbol_sum_of_zero f n) ∙ zero_add f 0 (zero_inside f)

pub neg_of_sum : (f : FieldName) (a b : ℕ) → neg f (add f a b) ≡ add f (neg f a) (neg f b)
neg_of_sum f a b = cc (neg_one_mul f a, neg_one_mul f b, neg_one_mul f (add f a b), mul_add f (neg f 1) a b)

pub one_sum : (f : FieldName) (a b : ℕ) → word_sum f (a ∷ []) (b ∷ []) ≡ add f a b ∷ []
unfolding word_sum
one_sum f a b = refl

pub single_scale : (f : FieldName) (c a : ℕ) → scale f c (a ∷ []) ≡ mul f c a ∷ []
unfolding scale
single_scale f c a = refl

abbrev last : FieldName → List ℕ → List ℕ
last f u = neg f (symbol_sum f u) ∷ []

pub last_sum : (f : FieldName) (u v : List ℕ) → length u ≡ length v → word_sum f (last f u) (last f v) ≡ last f (word_sum f u v)
last_sum f u v e = one_sum f (neg f (symbol_sum f u)) (neg f (symbol_sum f v)) ∙ ap (λ x. x ∷ []) (sym (ap (neg f) (symbol_sum_of_sum f u v e) ∙ neg_of_sum f (symbol_sum f u) (symbol_sum f v)))

pub last_scale : (f : FieldName) (c : ℕ) (u : List ℕ) → scale f c (last f u) ≡ last f (scale f c u)
last_scale f c u = single_scale f c (neg f (symbol_sum f u)) ∙ ap (λ x. x ∷ []) (mul_neg f c (symbol_sum f u) ∙ sym (ap (neg f) (symbol_sum_of_multiple f c u)))

last_zero : (f : FieldName) (n : ℕ) → last f (zero_word n) ≡ zero_word 1
last_zero f n = ap (λ x. x ∷ []) (ap (neg f) (symbol_sum_of_zero f n) ∙ neg_zero f)

pub extended_closed : (C : Matrix) → AreRows C.field C.columns C.rows → IsClosed C.field (C.columns + 1) (InExtended C)
extended_closed C r =
    let f = C.field in
    let n = C.columns in
    record {
      zero = (zero_word n, span_zero f n C.rows r, sym (ap (λ t. zero_word n ++ t) (last_zero f n) ∙ zero_parts n 1));
      sums = λ w z a b p q.
          let e : length p.0 ≡ length q.0 = code_word C p.0 r p.1 ∙ sym (code_word C q.0 r q.1) in
          (word_sum f p.0 q.0, span_sum f n C.rows p.0 q.0 p.1 q.1, ap₂ (word_sum f) p.2 q.2 ∙ sum_parts f p.0 q.0 (last f p.0) (last f q.0) e ∙ ap (λ t. word_sum f p.0 q.0 ++ t) (last_sum f p.0 q.0 e));
      multiples = λ c w l a p. (scale f c p.0, span_scale f n C.rows c p.0 p.1, ap (scale f c) p.2 ∙ scale_parts f c p.0 (last f p.0) ∙ ap (λ t. scale f c p.0 ++ t) (last_scale f c p.0));
    }

-- ---- punctured and shortened codes

kept_sum : (f : FieldName) (t : Bool) (a b : ℕ) (u v s : List ℕ) → word_sum f u v ≡ s → word_sum f (cond t u (a ∷ u)) (cond t v (b ∷ v)) ≡ cond t s (add f a b ∷ s)
unfolding word_sum
kept_sum f true a b u v s e = e
kept_sum f false a b u v s e = ap (λ t. add f a b ∷ t) e

kept_scale : (f : FieldName) (t : Bool) (c a : ℕ) (u s : List ℕ) → scale f c u ≡ s → scale f c (cond t u (a ∷ u)) ≡ cond t s (mul f c a ∷ s)
unfolding scale
kept_scale f true c a u s e = e
kept_scale f false c a u s e = ap (λ t. mul f c a ∷ t) e

kept_zero : (t : Bool) (u : List ℕ) → u ≡ zero_word (length u) → cond t u (0 ∷ u) ≡ zero_word (length (cond t u (0 ∷ u)))
kept_zero true u e = e
kept_zero false u e = ap (λ t. 0 ∷ t) e

without_from_sum : (f : FieldName) (i : ℕ) (coordinates u v : List ℕ) → length u ≡ length v → word_sum f (without_from i coordinates u) (without_from i coordinates v) ≡ without_from i coordinates (word_sum f u v)
unfolding without_from word_sum
without_from_sum f i coordinates [] [] e = refl
without_from_sum f i coordinates [] (b ∷ v) e = absurd (omega (arith, e))
without_from_sum f i coordinates (a ∷ u) [] e = absurd (omega (arith, e))
without_from_sum f i coordinates (a ∷ u) (b ∷ v) e =
    kept_sum f (list_any (λ p. i == p) coordinates) a b (without_from (suc i) coordinates u) (without_from (suc i) coordinates v) (without_from (suc i) coordinates (word_sum f u v)) (without_from_sum f (suc i) coordinates u v (omega (arith, e)))

without_from_scale : (f : FieldName) (c i : ℕ) (coordinates u : List ℕ) → scale f c (without_from i coordinates u) ≡ without_from i coordinates (scale f c u)
unfolding without_from scale
without_from_scale f c i coordinates [] = refl
without_from_scale f c i coordinates (a ∷ u) = kept_scale f (list_any (λ p. i == p) coordinates) c a (without_from (suc i) coordinates u) (without_from (suc i) coordinates (scale f c u)) (without_from_scale f c (suc i) coordinates u)

without_from_zero : (i : ℕ) (coordinates : List ℕ) (n : ℕ) → without_from i coordinates (zero_word n) ≡ zero_word (length (without_from i coordinates (zero_word n)))
unfolding without_from
without_from_zero i coordinates zero = refl
without_from_zero i coordinates (suc n) = kept_zero (list_any (λ p. i == p) coordinates) (without_from (suc i) coordinates (zero_word n)) (without_from_zero (suc i) coordinates n)

pub without_sum : (f : FieldName) (coordinates u v : List ℕ) → length u ≡ length v → word_sum f (without coordinates u) (without coordinates v) ≡ without coordinates (word_sum f u v)
unfolding without
without_sum f coordinates u v e = without_from_sum f 0 coordinates u v e

pub without_scale : (f : FieldName) (c : ℕ) (coordinates u : List ℕ) → scale f c (without coordinates u) ≡ without coordinates (scale f c u)
unfolding without
without_scale f c coordinates u = without_from_scale f c 0 coordinates u

pub without_zero : (coordinates : List ℕ) (n : ℕ) → without coordinates (zero_word n) ≡ zero_word (length (without coordinates (zero_word n)))
unfolding without
without_zero coordinates n = without_from_zero 0 coordinates n

pub punctured_closed : (C : Matrix) (coordinates : List ℕ) (m : ℕ) → AreRows C.field C.columns C.rows → length (without coordinates (zero_word C.columns)) ≡ m → IsClosed C.field m (InPunctured C coordinates)
punctured_closed C coordinates m r k =
    let f = C.field in
    let n = C.columns in
    record {
      zero = (zero_word n, span_zero f n C.rows r, sym (without_zero coordinates n ∙ ap zero_word k));
      sums = λ w z a b p q.
          let e : length p.0 ≡ length q.0 = code_word C p.0 r p.1 ∙ sym (code_word C q.0 r q.1) in
          (word_sum f p.0 q.0, span_sum f n C.rows p.0 q.0 p.1 q.1, ap₂ (word_sum f) p.2 q.2 ∙ without_sum f coordinates p.0 q.0 e);
      multiples = λ c w l a p. (scale f c p.0, span_scale f n C.rows c p.0 p.1, ap (scale f c) p.2 ∙ without_scale f c coordinates p.0);
    }

pub shortened_closed : (C : Matrix) (coordinates : List ℕ) (m : ℕ) → AreRows C.field C.columns C.rows → length (without coordinates (zero_word C.columns)) ≡ m → IsClosed C.field m (InShortened C coordinates)
shortened_closed C coordinates m r k =
    let f = C.field in
    let n = C.columns in
    record {
      zero = (zero_word n, span_zero f n C.rows r, (λ i d l. index_zero_word n _), sym (without_zero coordinates n ∙ ap zero_word k));
      sums = λ w z a b p q.
          let e : length p.0 ≡ length q.0 = code_word C p.0 r p.1 ∙ sym (code_word C q.0 r q.1) in
          (word_sum f p.0 q.0, span_sum f n C.rows p.0 q.0 p.1 q.1, (λ i d l. index_word_sum f p.0 q.0 _ e ∙ ap₂ (add f) (p.2 i d l) (q.2 i d l) ∙ zero_add f 0 (zero_inside f)), ap₂ (word_sum f) p.3 q.3 ∙ without_sum f coordinates p.0 q.0 e);
      multiples = λ c w l a p. (scale f c p.0, span_scale f n C.rows c p.0 p.1, (λ i d k. index_scale f c p.0 _ ∙ ap (mul f c) (p.2 i d k) ∙ mul_zero f c), ap (scale f c) p.3 ∙ without_scale f c coordinates p.0);
    }

-- ---- direct sums and (u | u + v)

pub direct_sum_closed : (C D : Matrix) → AreRows C.field C.columns C.rows → AreRows D.field D.columns D.rows → C.field ≡ D.field → IsClosed C.field (C.columns + D.columns) (InDirectSum C D)
direct_sum_closed C D r s k =
    let f = C.field in
    record {
      zero = (zero_word C.columns, (zero_word D.columns, span_zero f C.columns C.rows r, span_zero D.field D.columns D.rows s, sym (zero_parts C.columns D.columns)));
      sums = λ w z a b p q.
          let (u, (v, cu, dv, ew)) = p in
          let (x, (y, cx, dy, ez)) = q in
          (word_sum f u x, (word_sum f v y, span_sum f C.columns C.rows u x cu cx, subst (λ g. InCode D (word_sum g v y)) (sym k) (span_sum D.field D.columns D.rows v y dv dy), ap₂ (word_sum f) ew ez ∙ sum_parts f u x v y (code_word C u r cu ∙ sym (code_word C x r cx))));
      multiples = λ c w l a p.
          let (u, (v, cu, dv, ew)) = p in
          (scale f c u, (scale f c v, span_scale f C.columns C.rows c u cu, subst (λ g. InCode D (scale g c v)) (sym k) (span_scale D.field D.columns D.rows c v dv), ap (scale f c) ew ∙ scale_parts f c u v));
    }

pub uuv_closed : (C D : Matrix) → AreRows C.field C.columns C.rows → AreRows D.field D.columns D.rows → C.field ≡ D.field → C.columns ≡ D.columns → IsClosed C.field (C.columns + D.columns) (InUuv C D)
uuv_closed C D r s k h =
    let f = C.field in
    let n = C.columns in
    record {
      zero = (
        zero_word n,
        (
          zero_word D.columns,
          span_zero f n C.rows r,
          span_zero D.field D.columns D.rows s,
          ap (λ m. zero_word (n + m)) (sym h) ∙ sym (ap (λ t. zero_word n ++ t) (ap (λ m. word_sum f (zero_word n) (zero_word m)) (sym h) ∙ zero_sum f n (zero_word n) (IsWord_zero f n)) ∙ zero_parts n n),
        ),
      );
      sums = λ w z a b p q.
          let (u, (v, cu, dv, ew)) = p in
          let (x, (y, cx, dy, ez)) = q in (
            word_sum f u x,
            (
              word_sum f v y,
              span_sum f n C.rows u x cu cx,
              subst (λ g. InCode D (word_sum g v y)) (sym k) (span_sum D.field D.columns D.rows v y dv dy),
              ap₂ (word_sum f) ew ez ∙ sum_parts f u x (word_sum f u v) (word_sum f x y) (code_word C u r cu ∙ sym (code_word C x r cx)) ∙ ap (λ t. word_sum f u x ++ t) (sum_exchange f u v x y),
            ),
          );
      multiples = λ c w l a p.
          let (u, (v, cu, dv, ew)) = p in (
            scale f c u,
            (
              scale f c v,
              span_scale f n C.rows c u cu,
              subst (λ g. InCode D (scale g c v)) (sym k) (span_scale D.field D.columns D.rows c v dv),
              ap (scale f c) ew ∙ scale_parts f c u (word_sum f u v) ∙ ap (λ t. scale f c u ++ t) (scale_sum f c u v),
            ),
          );
    }

-- ---- words of even weight

pub sum_of_bits : (add Gf2 0 0 ≡ 0) × (add Gf2 0 1 ≡ 1) × (add Gf2 1 0 ≡ 1) × (add Gf2 1 1 ≡ 0)
unfolding digits number plus shape shape_of coefficients add
sum_of_bits = (refl, refl, refl, refl)

-- the weight of a sum is that of both less twice the number of common ones
overlap : (u v : List ℕ) → length u ≡ length v → Fits Gf2 u → Fits Gf2 v → (k : ℕ) × (weight (word_sum Gf2 u v) + 2 * k ≡ weight u + weight v)
unfolding word_sum
overlap [] [] e h j = (0, refl)
overlap [] (b ∷ v) e h j = absurd (omega (arith, e))
overlap (a ∷ u) [] e h j = absurd (omega (arith, e))
overlap (zero ∷ u) (zero ∷ v) e h j =
    let (k, t) = overlap u v (omega (arith, e)) (fits_tail Gf2 0 u h) (fits_tail Gf2 0 v j) in
    (k, rw (sum_of_bits.0, weight_zero_head (word_sum Gf2 u v), weight_zero_head u, weight_zero_head v) t)
overlap (zero ∷ u) (suc zero ∷ v) e h j =
    let (k, t) = overlap u v (omega (arith, e)) (fits_tail Gf2 0 u h) (fits_tail Gf2 1 v j) in
    (k, rw (sum_of_bits.1) (omega (arith, t, weight_other_head 1 (word_sum Gf2 u v) (omega arith), weight_zero_head u, weight_other_head 1 v (omega arith))))
overlap (suc zero ∷ u) (zero ∷ v) e h j =
    let (k, t) = overlap u v (omega (arith, e)) (fits_tail Gf2 1 u h) (fits_tail Gf2 0 v j) in
    (k, rw (sum_of_bits.2) (omega (arith, t, weight_other_head 1 (word_sum Gf2 u v) (omega arith), weight_zero_head v, weight_other_head 1 u (omega arith))))
overlap (suc zero ∷ u) (suc zero ∷ v) e h j =
    let (k, t) = overlap u v (omega (arith, e)) (fits_tail Gf2 1 u h) (fits_tail Gf2 1 v j) in
    (suc k, rw (sum_of_bits.3) (omega (arith, t, weight_zero_head (word_sum Gf2 u v), weight_other_head 1 u (omega arith), weight_other_head 1 v (omega arith))))
overlap (suc (suc a) ∷ u) v e h j = absurd (omega (arith, fits_head Gf2 (suc (suc a)) u h, size_two))
overlap (zero ∷ u) (suc (suc b) ∷ v) e h j = absurd (omega (arith, fits_head Gf2 (suc (suc b)) v j, size_two))
overlap (suc zero ∷ u) (suc (suc b) ∷ v) e h j = absurd (omega (arith, fits_head Gf2 (suc (suc b)) v j, size_two))

even_sum : (u v : List ℕ) (n : ℕ) → IsWord Gf2 n u → IsWord Gf2 n v → weight u % 2 ≡ 0 → weight v % 2 ≡ 0 → weight (word_sum Gf2 u v) % 2 ≡ 0
even_sum u v n a b p q =
    let (k, t) = overlap u v (a.long ∙ sym b.long) a.fits b.fits in
    omega (arith, t, p, q)

even_multiple : (c : ℕ) (u : List ℕ) (n : ℕ) → c < size Gf2 → IsWord Gf2 n u → weight u % 2 ≡ 0 → weight (scale Gf2 c u) % 2 ≡ 0
even_multiple zero u n l a p = ap (λ w. weight w % 2) (zero_scale Gf2 n u a.long) ∙ ap (λ m. m % 2) (weight_zero_word n)
even_multiple (suc zero) u n l a p = ap (λ w. weight w % 2) (one_scale Gf2 u a.fits) ∙ p
even_multiple (suc (suc c)) u n l a p = absurd (omega (arith, l, size_two))

pub even_weight_closed : (C : Matrix) → AreRows C.field C.columns C.rows → C.field ≡ Gf2 → IsClosed C.field C.columns (InEvenWeight C)
even_weight_closed C r k =
    let f = C.field in
    let n = C.columns in
    record {
      zero = (span_zero f n C.rows r, ap (λ m. m % 2) (weight_zero_word n));
      sums = λ u v a b p q. (span_sum f n C.rows u v p.0 q.0, subst (λ g. weight (word_sum g u v) % 2 ≡ 0) (sym k) (even_sum u v n (subst (λ g. IsWord g n u) k a) (subst (λ g. IsWord g n v) k b) p.1 q.1));
      multiples = λ c u l a p. (span_scale f n C.rows c u p.0, subst (λ g. weight (scale g c u) % 2 ≡ 0) (sym k) (even_multiple c u n (subst (λ g. c < size g) k l) (subst (λ g. IsWord g n u) k a) p.1));
    }

-- ---- direct products

pub span_of_both : (f : FieldName) (n : ℕ) (rows others : List (List ℕ)) (u v : List ℕ) → InSpan f n rows u → InSpan f n others v → IsWord f n v → InSpan f n (rows ++ others) (word_sum f u v)
span_of_both f n [] others u v p q w = subst (InSpan f n others) (sym (ap (λ t. word_sum f t v) p ∙ zero_sum f n v w)) q
span_of_both f n (g ∷ rows) others u v p q w =
    let (c, l, (x, h, e)) = p in
    (c, l, (word_sum f x v, span_of_both f n rows others x v h q w, ap (λ t. word_sum f t v) e ∙ sum_assoc f (scale f c g) x v))

abbrev IsTensor : Matrix → Matrix → List ℕ → Type 0
IsTensor C D row = (u : List ℕ) × ((v : List ℕ) × InCode C u × InCode D v × (row ≡ tensor C.field u v))

pub direct_product_closed : (C D : Matrix) → IsClosed C.field (C.columns * D.columns) (InDirectProduct C D)
direct_product_closed C D =
    let f = C.field in
    let n = C.columns * D.columns in
    record {
      zero = ([], (λ i d l. absurd (omega (arith, l))), refl);
      sums = λ u v a b p q. (p.0 ++ q.0, All-append (IsTensor C D) p.0 q.0 p.1 q.1, span_of_both f n p.0 q.0 u v p.2 q.2 b);
      multiples = λ c u l a p. (p.0, p.1, span_scale f n p.0 c u p.2);
    }

-- ---- concatenated codes

pub value_of_sum : (K : FieldName) (u v : List ℕ) (x : ℕ) → length u ≡ length v → value_at K (word_sum K u v) x ≡ add K (value_at K u x) (value_at K v x)
unfolding value_at word_sum
value_of_sum K [] [] x e = sym (zero_add K 0 (zero_inside K))
value_of_sum K [] (b ∷ v) x e = absurd (omega (arith, e))
value_of_sum K (a ∷ u) [] x e = absurd (omega (arith, e))
value_of_sum K (a ∷ u) (b ∷ v) x e =
    cc (value_of_sum K u v x (omega (arith, e)), mul_add K x (value_at K u x) (value_at K v x), add_exchange K a b (mul K x (value_at K u x)) (mul K x (value_at K v x)))

pub value_of_multiple : (K : FieldName) (c : ℕ) (u : List ℕ) (x : ℕ) → value_at K (scale K c u) x ≡ mul K c (value_at K u x)
unfolding value_at scale
value_of_multiple K c [] x = sym (mul_zero K c)
value_of_multiple K c (a ∷ u) x = cc (value_of_multiple K c u x, mul_add K c a (mul K x (value_at K u x)), mul_swap K c x (value_at K u x))

pub value_of_zeros : (f K : FieldName) (n x : ℕ) → IsSubfield f K → value_at K (map (embed f K) (zero_word n)) x ≡ 0
unfolding value_at
value_of_zeros f K zero x s = refl
value_of_zeros f K (suc n) x s = cc (embed_zero f K s, value_of_zeros f K n x s, mul_zero K x, zero_add K 0 (zero_inside K))

combine_zeros : (f : FieldName) (n : ℕ) (rows : List (List ℕ)) → AreRows f n rows → combine f n (zero_word (length rows)) rows ≡ zero_word n
combine_zeros f n rows r =
    let z = zero_word (length rows) in
    ap (λ cs. combine f n cs rows) (sym (scale_zero f 0 (length rows))) ∙ combine_scale f n 0 z rows ∙ zero_scale f n (combine f n z rows) (length_combine f n z rows r)

replaced_length : (C D : Matrix) (a : ℕ) (v : List ℕ) → AreRows D.field D.columns D.rows → IsReplaced C D a v → length v ≡ D.columns
replaced_length C D a v r (cs, w, e, h) = ap (λ t. length t) h ∙ length_combine D.field D.columns cs D.rows r

pub replaced_sum : (C D : Matrix) (a b : ℕ) (v z : List ℕ) → IsSubfield D.field C.field → IsReplaced C D a v → IsReplaced C D b z → IsReplaced C D (add C.field a b) (word_sum D.field v z)
replaced_sum C D a b v z s (cs, w, e, h) (ds, x, g, k) =
    let f = D.field in
    let K = C.field in
    let n = length D.rows in
    let m : length cs ≡ length ds = w.long ∙ sym x.long in
    let γ = (shape_of K).primitive in
    let same : length (map (embed f K) cs) ≡ length (map (embed f K) ds) = embedded_length f K cs ∙ m ∙ sym (embedded_length f K ds) in (
      word_sum f cs ds,
      IsWord_sum f n cs ds w.long x.long,
      ap₂ (add K) e g ∙ sym (value_of_sum K (map (embed f K) cs) (map (embed f K) ds) γ same) ∙ ap (λ u. value_at K u γ) (sym (embedded_sum f K cs ds s w.fits x.fits)),
      ap₂ (word_sum f) h k ∙ sym (combine_sum f D.columns cs ds D.rows m),
    )

pub replaced_multiple : (C D : Matrix) (c a : ℕ) (v : List ℕ) → IsSubfield D.field C.field → c < size D.field → IsReplaced C D a v → IsReplaced C D (mul C.field (embed D.field C.field c) a) (scale D.field c v)
replaced_multiple C D c a v s l (cs, w, e, h) =
    let f = D.field in
    let K = C.field in
    let γ = (shape_of K).primitive in (
      scale f c cs,
      IsWord_scale f (length D.rows) c cs w.long,
      ap (mul K (embed f K c)) e ∙ sym (value_of_multiple K (embed f K c) (map (embed f K) cs) γ) ∙ ap (λ u. value_at K u γ) (sym (embedded_scale f K c cs s l w.fits)),
      ap (scale f c) h ∙ sym (combine_scale f D.columns c cs D.rows),
    )

pub replaced_zero : (C D : Matrix) → IsSubfield D.field C.field → AreRows D.field D.columns D.rows → IsReplaced C D 0 (zero_word D.columns)
replaced_zero C D s r = (zero_word (length D.rows), IsWord_zero D.field (length D.rows), sym (value_of_zeros D.field C.field (length D.rows) (shape_of C.field).primitive s), sym (combine_zeros D.field D.columns D.rows r))

pub word_sum_replaced : (C D : Matrix) (u x w z : List ℕ) → IsSubfield D.field C.field → AreRows D.field D.columns D.rows → length u ≡ length x → IsReplacedWord C D u w → IsReplacedWord C D x z → IsReplacedWord C D (word_sum C.field u x) (word_sum D.field w z)
unfolding word_sum
word_sum_replaced C D [] [] w z s r e p q = ap₂ (word_sum D.field) p q
word_sum_replaced C D [] (b ∷ x) w z s r e p q = absurd (omega (arith, e))
word_sum_replaced C D (a ∷ u) [] w z s r e p q = absurd (omega (arith, e))
word_sum_replaced C D (a ∷ u) (b ∷ x) w z s r e (v, (rest, i, j, k)) (y, (others, l, m, n)) = (
  word_sum D.field v y,
  (
    word_sum D.field rest others,
    replaced_sum C D a b v y s i l,
    word_sum_replaced C D u x rest others s r (omega (arith, e)) j m,
    ap₂ (word_sum D.field) k n ∙ sum_parts D.field v y rest others (replaced_length C D a v r i ∙ sym (replaced_length C D b y r l)),
  ),
)

pub word_multiple_replaced : (C D : Matrix) (c : ℕ) (u w : List ℕ) → IsSubfield D.field C.field → c < size D.field → IsReplacedWord C D u w → IsReplacedWord C D (scale C.field (embed D.field C.field c) u) (scale D.field c w)
unfolding scale
word_multiple_replaced C D c [] w s l p = ap (scale D.field c) p
word_multiple_replaced C D c (a ∷ u) w s l (v, (rest, i, j, k)) =
    (scale D.field c v, (scale D.field c rest, replaced_multiple C D c a v s l i, word_multiple_replaced C D c u rest s l j, ap (scale D.field c) k ∙ scale_parts D.field c v rest))

pub word_zero_replaced : (C D : Matrix) (m : ℕ) → IsSubfield D.field C.field → AreRows D.field D.columns D.rows → IsReplacedWord C D (zero_word m) (zero_word (m * D.columns))
word_zero_replaced C D zero s r = ap (λ k. zero_word k) (zero-mul D.columns)
word_zero_replaced C D (suc m) s r =
    (zero_word D.columns, (zero_word (m * D.columns), replaced_zero C D s r, word_zero_replaced C D m s r, ap (λ k. zero_word k) (omega (arith, suc-mul m D.columns)) ∙ sym (zero_parts D.columns (m * D.columns))))

pub concatenated_closed : (C D : Matrix) → AreRows C.field C.columns C.rows → AreRows D.field D.columns D.rows → IsSubfield D.field C.field → IsClosed D.field (C.columns * D.columns) (InConcatenated C D)
concatenated_closed C D r t s =
    let K = C.field in
    let n = C.columns in
    record {
      zero = (zero_word n, span_zero K n C.rows r, word_zero_replaced C D n s t);
      sums = λ w z a b p q.
          (word_sum K p.0 q.0, span_sum K n C.rows p.0 q.0 p.1 q.1, word_sum_replaced C D p.0 q.0 w z s t (code_word C p.0 r p.1 ∙ sym (code_word C q.0 r q.1)) p.2 q.2);
      multiples = λ c w l a p. (scale K (embed D.field K c) p.0, span_scale K n C.rows (embed D.field K c) p.0 p.1, word_multiple_replaced C D c p.0 w s l p.2);
    }

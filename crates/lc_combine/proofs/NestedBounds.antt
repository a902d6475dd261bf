-- The dimension of a concatenated code, and the weights of its words.
--   parts_same             equal words of two parts, the first parts of one length, have equal parts
--   replaced_from, replaced_word_from      a symbol, and a word, are told by what they are replaced by
--   replaced_exists        each word is replaced by one
--   nested_told            what isn't refused is nested
--   block_weight, word_weight      the weight of what a nonzero symbol, and a word, is replaced by
--   concatenated_bound     the product of the bounds of the outer and the inner code
--   related_at_most        a list of different things with different images in another list is no longer than that
--   power_of_power         a power of a power
--   concatenated_dimension
use Rattle.std.proofs.Common.{◌≡◌, ℕ, zero, suc, ◌+◌, ◌*◌, ◌^◌, ◌<◌, ◌≤◌, List, [], ◌∷◌, ◌++◌, map, length, Contains, ◌==◌, Option, Some, None, is_none, refl, sym, ap, ap₂, subst, ◌∙◌, ⊎_elim, arith, true≢false, pow-suc, mul-le-mul_right}
use Rattle.std.specs.Prelude.{IsTrue}
use Rattle.std.proofs.Math.Nat.{pow-zero, suc-mul}
use Rattle.std.proofs.lemmas.Nat.{pow-add}
use Rattle.std.proofs.lemmas.Bool.{cases_lt, cases_eq, cases_Bool, eqb-true}
use Rattle.lc_algebra.specs.Field.{shape_of, size, is_symbol}
use Rattle.lc_algebra.specs.Polynomial.{value_at}
use Rattle.lc_algebra.specs.Embedding.{embed}
use Rattle.lc_algebra.specs.Word.{Fits, IsWord, zero_word, weight}
use Rattle.lc_algebra.specs.Span.{combine, InSpan, words, IsWeightBound}
use Rattle.lc_algebra.specs.Matrix.{Matrix, AreRows, IsReduced}
use Rattle.lc_algebra.proofs.FieldLaws.{one_inside}
use Rattle.lc_algebra.proofs.WordLaws.{fits_head, fits_tail, weight_zero_head, weight_other_head, weight_zero_word, zero_from_weight}
use Rattle.lc_algebra.proofs.SpanLaws.{span_word, word_of_combination, coefficients_unique, contains_head, contains_tail, contains_cases, word_of_member, member_of_word, length_words}
use Rattle.lc_algebra.proofs.ReducedLaws.{reduced_independent}
use Rattle.lc_algebra.proofs.DimensionLaws.{AreDistinct, distinct_at_most, words_distinct, exponent_at_most}
use Rattle.lc_constructions.specs.Code.{IsCode}
use Rattle.lc_constructions.specs.Concatenated.{IsReplaced, IsReplacedWord, InConcatenated}
use Rattle.lc_constructions.specs.Refusal.{refuse_if, first_refusal}
use Rattle.lc_constructions.specs.Refusals.{degree_over, nested_refusals, concatenated_refusals}
use Rattle.lc_constructions.proofs.ExpansionLaws.{expansion_exists}
use Rattle.lc_combine.proofs.ReplacedLaws.{subfield_of_degree, power_of_degree}
use Rattle.lc_combine.proofs.ConcatenatedLaws.{IsNested, replaced_word_once, replaced_is_word, row_word}
use Rattle.lc_constructions.proofs.ClosedLaws.{replaced_zero, word_zero_replaced}
use Rattle.lc_linear_laws.proofs.PartLaws.{weight_append, bound_of_words}

parts_same : (u v x y : List ℕ) → length u ≡ length v → u ++ x ≡ v ++ y → (u ≡ v) × (x ≡ y)
parts_same [] [] x y l e = (refl, e)
parts_same [] (b ∷ v) x y l e = absurd (omega (arith, l))
parts_same (a ∷ u) [] x y l e = absurd (omega (arith, l))
parts_same (a ∷ u) (b ∷ v) x y l e =
    let h : a ≡ b = cc e in
    let t : u ++ x ≡ v ++ y = cc e in
    let p = parts_same u v x y (omega (arith, l)) t in
    (ap₂ (λ c w. c ∷ w) h p.0, p.1)

replaced_from : (C D : Matrix) (a b : ℕ) (v w : List ℕ) → AreRows D.field D.columns D.rows → IsReduced D.columns D.rows → IsReplaced C D a v → IsReplaced C D b w → v ≡ w → a ≡ b
replaced_from C D a b v w r o (cs, i, j, k) (ds, l, m, n) e =
    let t : cs ≡ ds = coefficients_unique D.field D.columns D.rows cs ds r (reduced_independent D.field D.columns D.rows r o) i l (sym k ∙ e ∙ n) in
    j ∙ ap (λ x. value_at C.field (map (embed D.field C.field) x) (shape_of C.field).primitive) t ∙ sym m

replaced_word_from : (C D : Matrix) (u x w z : List ℕ) → AreRows D.field D.columns D.rows → IsReduced D.columns D.rows → length u ≡ length x → IsReplacedWord C D u w → IsReplacedWord C D x z → w ≡ z → u ≡ x
replaced_word_from C D [] [] w z r o l p q e = refl
replaced_word_from C D [] (b ∷ x) w z r o l p q e = absurd (omega (arith, l))
replaced_word_from C D (a ∷ u) [] w z r o l p q e = absurd (omega (arith, l))
replaced_word_from C D (a ∷ u) (b ∷ x) w z r o l (v, (rest, i, j, k)) (y, (t, h, m, n)) e =
    let s = parts_same v y rest t ((replaced_is_word C D a v r i).long ∙ sym (replaced_is_word C D b y r h).long) (sym k ∙ e ∙ n) in
    ap₂ (λ c d. c ∷ d) (replaced_from C D a b v y r o i h s.0) (replaced_word_from C D u x rest t r o (omega (arith, l)) j m s.1)

replaced_exists : (C D : Matrix) (u : List ℕ) → IsNested C D → Fits C.field u → (w : List ℕ) × IsReplacedWord C D u w
replaced_exists C D [] n h = ([], refl)
replaced_exists C D (a ∷ u) (s, e) h =
    let (cs, i, j) = expansion_exists D.field C.field (length D.rows) a s e (fits_head C.field a u h) in
    let (rest, p) = replaced_exists C D u (s, e) (fits_tail C.field a u h) in
    let v = combine D.field D.columns cs D.rows in
    (v ++ rest, (v, (rest, (cs, i, j, refl), p, refl)))

told_degree : (C D : Matrix) (o : Option ℕ) → first_refusal (nested_refusals C D o) ≡ None → o ≡ Some (length D.rows)
unfolding first_refusal refuse_if nested_refusals
told_degree C D None e = absurd (true≢false (sym (ap is_none e)))
told_degree C D (Some s) e =
    ⊎_elim
    (λ t. ap Some (sym (eqb-true (length D.rows) s t)))
    (λ t. absurd (true≢false (sym (ap is_none (rw t at e)))))
    (cases_Bool (length D.rows == s))

pub nested_told : (C D : Matrix) → IsTrue (is_symbol C.field) → first_refusal (concatenated_refusals C D) ≡ None → IsNested C D
unfolding concatenated_refusals
nested_told C D s e = (s, told_degree C D (degree_over (size D.field) (size C.field)) e)

block_weight : (C D : Matrix) (a : ℕ) (v : List ℕ) (e : ℕ) → IsNested C D → AreRows D.field D.columns D.rows → IsReduced D.columns D.rows → IsWeightBound D.field D.columns D.rows e → IsReplaced C D a v → 0 < a → e ≤ weight v
block_weight C D a v e (s, t) r o b (cs, i, j, k) l =
    ⊎_elim
    (λ p. b v (subst (InSpan D.field D.columns D.rows) (sym k) (word_of_combination D.field D.columns D.rows cs i)) p)
    (λ p.
    let z : v ≡ zero_word D.columns = zero_from_weight D.columns v (replaced_is_word C D a v r (cs, i, j, k)).long (omega (arith, p)) in
    absurd (omega (arith, l, replaced_from C D a 0 v (zero_word D.columns) r o (cs, i, j, k) (replaced_zero C D (subfield_of_degree D.field C.field (length D.rows) t) r) z)))
    (cases_lt 0 (weight v))

word_weight : (C D : Matrix) (u w : List ℕ) (e : ℕ) → IsNested C D → AreRows D.field D.columns D.rows → IsReduced D.columns D.rows → IsWeightBound D.field D.columns D.rows e → IsReplacedWord C D u w → weight u * e ≤ weight w
word_weight C D [] w e n r o b p = let z : weight [] ≡ 0 = refl in omega (arith, z)
word_weight C D (a ∷ u) w e n r o b (v, (rest, i, j, k)) =
    let t = word_weight C D u rest e n r o b j in
    let s : weight w ≡ weight v + weight rest = ap (λ x. weight x) k ∙ weight_append v rest in
    ⊎_elim
    (λ z. omega (arith, t, s, ap (λ c. weight (c ∷ u)) z, weight_zero_head u, ap (λ c. c * e) (ap (λ c. weight (c ∷ u)) z ∙ weight_zero_head u)))
    (λ z. omega (arith, t, s, block_weight C D a v e n r o b i (omega (arith, z)), ap (λ c. c * e) (weight_other_head a u (omega (arith, z))), suc-mul (weight u) e))
    (cases_eq a 0)

pub concatenated_bound : (C D E : Matrix) (n d e : ℕ) → IsTrue (is_symbol C.field) → AreRows C.field C.columns C.rows → AreRows D.field D.columns D.rows → IsReduced D.columns D.rows → first_refusal (concatenated_refusals C D) ≡ None → IsCode D.field n (InConcatenated C D) E → IsWeightBound C.field C.columns C.rows d → IsWeightBound D.field D.columns D.rows e → IsWeightBound E.field E.columns E.rows (d * e)
concatenated_bound C D E n d e s q r o f c x y =
    let nested = nested_told C D s f in
    bound_of_words E D.field n (d * e) (InConcatenated C D) c (λ w t l.
    let (u, cu, p) = t in
    let m = word_weight C D u w e nested r o y p in
    ⊎_elim
    (λ k. omega (arith, m, mul-le-mul_right e (x u cu k)))
    (λ k.
    let word = span_word C.field C.columns C.rows u q cu in
    let z : u ≡ zero_word C.columns = zero_from_weight C.columns u word.long (omega (arith, k)) in
    let v : w ≡ zero_word (C.columns * D.columns) = replaced_word_once C D u w (zero_word (C.columns * D.columns)) nested p (subst (λ i. IsReplacedWord C D i (zero_word (C.columns * D.columns))) (sym z) (word_zero_replaced C D C.columns (subfield_of_degree D.field C.field (length D.rows) nested.1) r)) in
    absurd (omega (arith, l, ap (λ i. weight i) v, weight_zero_word (C.columns * D.columns))))
    (cases_lt 0 (weight u)))

-- ---- the dimension

related_at_most : {X Y : Type 0} (R : X → Y → Type 0) (xs : List X) (ys : List Y) → AreDistinct xs → ((x : X) → Contains xs x → (y : Y) × Contains ys y × R x y) → ((x z : X) (y : Y) → Contains xs x → Contains xs z → R x y → R z y → x ≡ z) → length xs ≤ length ys
related_at_most {X} {Y} R xs ys d some one =
    let (zs, e, inside, apart) = images xs (λ x c. c) d in
    omega (arith, e, distinct_at_most zs ys apart (λ z c. (inside z c).0))
  where
    images : (us : List X) → ((x : X) → Contains us x → Contains xs x) → AreDistinct us → (zs : List Y) × (length zs ≡ length us) × ((z : Y) → Contains zs z → Contains ys z × ((x : X) × Contains us x × R x z)) × AreDistinct zs
    images [] h a = ([], refl, (λ z c. absurd (omega (arith, c.1))), tt)
    images (x ∷ us) h a =
        let (y, b, c) = some x (h x (contains_head x us)) in
        let (zs, e, inside, apart) = images us (λ v k. h v (contains_tail x v us k)) a.1 in (
          y ∷ zs,
          ap suc e,
          (λ z k. ⊎_elim (λ s. (subst (Contains ys) s b, (x, contains_head x us, subst (R x) s c))) (λ s. let (i, (v, m, n)) = inside z s in (i, (v, contains_tail x v us m, n))) (contains_cases y z zs k)),
          ((λ k. let (i, (v, m, n)) = inside y k in a.0 (subst (Contains us) (one v x y (h v (contains_tail x v us m)) (h x (contains_head x us)) n c) m)), apart),
        )

power_of_power : (q s k : ℕ) → (q ^ s) ^ k ≡ q ^ (k * s)
power_of_power q s zero = let e : zero * s ≡ 0 = omega arith in pow-zero (q ^ s) ∙ sym (ap (λ i. q ^ i) e ∙ pow-zero q)
power_of_power q s (suc k) =
    let e : k * s + s ≡ suc k * s = omega (arith, suc-mul k s) in
    pow-suc (q ^ s) k ∙ ap (λ i. i * q ^ s) (power_of_power q s k) ∙ sym (pow-add q (k * s) s) ∙ ap (λ i. q ^ i) e

pub concatenated_dimension : (C D E : Matrix) → IsTrue (is_symbol C.field) → AreRows C.field C.columns C.rows → IsReduced C.columns C.rows → AreRows D.field D.columns D.rows → IsReduced D.columns D.rows → first_refusal (concatenated_refusals C D) ≡ None → IsCode D.field (C.columns * D.columns) (InConcatenated C D) E → length E.rows ≡ length C.rows * length D.rows
concatenated_dimension C D E s q p r o f c =
    let K = C.field in
    let g = D.field in
    let N = C.columns * D.columns in
    let nested = nested_told C D s f in
    let G = c.generator in
    let outer = words K C.columns C.rows in
    let inner = words g N E.rows in
    let at_most : length outer ≤ length inner = related_at_most (IsReplacedWord C D) outer inner (words_distinct K C.columns C.rows q (reduced_independent K C.columns C.rows q p))
    (λ u m.
    let cu = word_of_member K C.columns C.rows u m in
    let word = span_word K C.columns C.rows u q cu in
    let (w, t) = replaced_exists C D u nested word.fits in
    let long : IsWord g N w = subst (λ i. IsWord g (i * D.columns) w) word.long (row_word C D u w r t) in
    (w, member_of_word g N E.rows w ((G.members w).1 (long, (u, cu, t))), t))
    (λ u x w m n i j. replaced_word_from C D u x w w r o ((span_word K C.columns C.rows u q (word_of_member K C.columns C.rows u m)).long ∙ sym (span_word K C.columns C.rows x q (word_of_member K C.columns C.rows x n)).long) i j refl) in
    let at_least : length inner ≤ length outer = related_at_most (λ w u. IsReplacedWord C D u w) inner outer (words_distinct g N E.rows G.words (reduced_independent g N E.rows G.words G.reduced))
    (λ w m.
    let (u, cu, t) = ((G.members w).0 (word_of_member g N E.rows w m)).1 in
    (u, member_of_word K C.columns C.rows u cu, t))
    (λ w z u m n i j. replaced_word_once C D u w z nested i j) in
    let k = length C.rows in
    let l = length D.rows in
    let sized : length outer ≡ size g ^ (k * l) = length_words K C.columns C.rows ∙ ap (λ i. i ^ k) (sym (power_of_degree (size g) (size K) l nested.1)) ∙ power_of_power (size g) l k in
    omega (arith, exponent_at_most (size g) (length E.rows) (k * l) (one_inside g) (omega (arith, at_least, sized, length_words g N E.rows)), exponent_at_most (size g) (k * l) (length E.rows) (one_inside g) (omega (arith, at_most, sized, length_words g N E.rows)))

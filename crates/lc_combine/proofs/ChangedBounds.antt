-- The weights of punctured codes, and of extended codes over 2 elements.
--   bound_of_word          a bound for the words of length n that meet P bounds the code
--   weight_left            a word is no lighter than it is without some coordinates
--   punctured_bound        a code loses at most as much weight as the coordinates that it is punctured at
--   sum_of_symbols         over 2 elements the sum of a word's symbols is its weight modulo 2
--   extended_even_bound    so all words of an extended code have even weight
use Rattle.std.proofs.Common.{◌≡◌, ℕ, zero, suc, ◌+◌, ◌-◌, ◌/◌, ◌%◌, ◌<◌, ◌≤◌, max, Bool, true, false, cond, ◌==◌, List, [], ◌∷◌, ◌++◌, length, None, refl, sym, ap, subst, ◌∙◌, arith}
use Rattle.std.specs.List.{list_any}
use Rattle.lc_algebra.specs.declared.FieldName.{FieldName}
use Rattle.lc_algebra.specs.declared.FieldName.TheVariants.{Gf2}
use Rattle.lc_algebra.specs.Residue.{digits, number, minus}
use Rattle.lc_algebra.specs.Field.{shape, shape_of, coefficients, add, neg}
use Rattle.lc_algebra.specs.Word.{Fits, IsWord, weight}
use Rattle.lc_algebra.specs.Span.{InSpan, IsWeightBound}
use Rattle.lc_algebra.specs.Matrix.{Matrix, AreRows}
use Rattle.lc_algebra.specs.Divisor.{rounded}
use Rattle.lc_algebra.proofs.WordLaws.{weight_cons, weight_zero_head, weight_other_head, fits_head, fits_tail}
use Rattle.lc_algebra.proofs.SpanLaws.{span_word}
use Rattle.lc_algebra.proofs.DivisorLaws.{rounded_within, multiple_from_mod}
use Rattle.lc_algebra.proofs.EmbeddingTests.{size_two}
use Rattle.lc_constructions.specs.Code.{IsCode}
use Rattle.lc_constructions.specs.Combined.{symbol_sum, without_from, without, InExtended, InPunctured}
use Rattle.lc_constructions.specs.Refusal.{first_refusal}
use Rattle.lc_constructions.specs.Refusals.{deleted_refusals}
use Rattle.lc_constructions.proofs.WithoutLaws.{length_without, deleted_fine, weight_removed}
use Rattle.lc_constructions.proofs.ClosedLaws.{sum_of_bits}
use Rattle.lc_linear_laws.proofs.PartLaws.{weight_append}

pub bound_of_word : (E : Matrix) (f : FieldName) (n b : ℕ) (P : List ℕ → Type 0) → IsCode f n P E → ((w : List ℕ) → IsWord f n w → P w → 0 < weight w → b ≤ weight w) → IsWeightBound E.field E.columns E.rows b
bound_of_word E f n b P c h w s l =
    let t : InSpan f n E.rows w = subst (λ m. InSpan f m E.rows w) c.length_is (subst (λ g. InSpan g E.columns E.rows w) c.over s) in
    let m = (c.generator.members w).0 t in
    h w m.0 m.1 l

cond_left : (t : Bool) (a : ℕ) (u x : List ℕ) → weight x ≤ weight u → weight (cond t x (a ∷ x)) ≤ weight (a ∷ u)
cond_left true a u x l = omega (arith, l, weight_cons a u)
cond_left false a u x l = omega (arith, l, weight_cons a u, weight_cons a x)

pub weight_left : (i : ℕ) (coordinates u : List ℕ) → weight (without_from i coordinates u) ≤ weight u
unfolding without_from
weight_left i coordinates [] = omega arith
weight_left i coordinates (a ∷ u) = cond_left (list_any (λ p. i == p) coordinates) a u (without_from (suc i) coordinates u) (weight_left (suc i) coordinates u)

pub punctured_bound : (C E : Matrix) (coordinates : List ℕ) (n d : ℕ) → AreRows C.field C.columns C.rows → first_refusal (deleted_refusals C coordinates) ≡ None → IsCode C.field n (InPunctured C coordinates) E → IsWeightBound C.field C.columns C.rows d → IsWeightBound E.field E.columns E.rows (max 1 (d - length coordinates))
unfolding without
punctured_bound C E coordinates n d r fine c heavy =
    bound_of_word E C.field n (max 1 (d - length coordinates)) (InPunctured C coordinates) c (λ w word t l.
    let (u, inside, same) = t in
    let whole : IsWord C.field C.columns u = span_word C.field C.columns C.rows u r inside in
    let kept = deleted_fine C coordinates fine in
    let e : weight w ≡ weight (without_from 0 coordinates u) = ap (λ x. weight x) same in
    let long : length (without_from 0 coordinates u) ≡ C.columns - length coordinates = length_without C.columns coordinates u whole.long kept.0 kept.1 in
    let some : 0 < weight u = omega (arith, l, e, weight_left 0 coordinates u) in
    omega (arith, l, e, long, whole.long, weight_removed 0 coordinates u, heavy u inside some))

-- ---- over 2 elements

add_bit : (s k : ℕ) → s ≡ k % 2 → (add Gf2 0 s ≡ k % 2) × (add Gf2 1 s ≡ suc k % 2)
add_bit zero k e = (sum_of_bits.0 ∙ e, sum_of_bits.2 ∙ omega (arith, e))
add_bit (suc zero) k e = (sum_of_bits.1 ∙ e, sum_of_bits.3 ∙ omega (arith, e))
add_bit (suc (suc s)) k e = absurd (omega (arith, e))

pub sum_of_symbols : (u : List ℕ) → Fits Gf2 u → symbol_sum Gf2 u ≡ weight u % 2
unfolding symbol_sum
sum_of_symbols [] h = refl
sum_of_symbols (zero ∷ u) h = (add_bit (symbol_sum Gf2 u) (weight u) (sum_of_symbols u (fits_tail Gf2 0 u h))).0 ∙ ap (λ k. k % 2) (sym (weight_zero_head u))
sum_of_symbols (suc zero ∷ u) h = (add_bit (symbol_sum Gf2 u) (weight u) (sum_of_symbols u (fits_tail Gf2 1 u h))).1 ∙ ap (λ k. k % 2) (sym (weight_other_head 1 u (omega arith)))
sum_of_symbols (suc (suc a) ∷ u) h = absurd (omega (arith, fits_head Gf2 (suc (suc a)) u h, size_two))

bit_weight : (s k : ℕ) → s ≡ k % 2 → weight (neg Gf2 s ∷ []) ≡ s
unfolding digits number minus shape shape_of coefficients neg
bit_weight zero k e = refl
bit_weight (suc zero) k e = refl
bit_weight (suc (suc s)) k e = absurd (omega (arith, e))

even_word : (u w : List ℕ) → Fits Gf2 u → w ≡ u ++ neg Gf2 (symbol_sum Gf2 u) ∷ [] → weight w % 2 ≡ 0
even_word u w h e =
    let sum = sum_of_symbols u h in
    let a : weight w ≡ weight u + weight (neg Gf2 (symbol_sum Gf2 u) ∷ []) = ap (λ x. weight x) e ∙ weight_append u (neg Gf2 (symbol_sum Gf2 u) ∷ []) in
    omega (arith, a, sum, bit_weight (symbol_sum Gf2 u) (weight u) sum)

pub extended_even_bound : (C E : Matrix) (n d : ℕ) → C.field ≡ Gf2 → AreRows C.field C.columns C.rows → IsCode C.field n (InExtended C) E → IsWeightBound E.field E.columns E.rows d → IsWeightBound E.field E.columns E.rows (rounded 2 d)
extended_even_bound C E n d two r c heavy v s l =
    let t : InSpan C.field n E.rows v = subst (λ m. InSpan C.field m E.rows v) c.length_is (subst (λ g. InSpan g E.columns E.rows v) c.over s) in
    let (u, inside, same) = ((c.generator.members v).0 t).1 in
    let fits : Fits Gf2 u = subst (λ g. Fits g u) two (span_word C.field C.columns C.rows u r inside).fits in
    let even = even_word u v fits (subst (λ g. v ≡ u ++ neg g (symbol_sum g u) ∷ []) two same) in
    rounded_within 2 d (weight v) (omega arith) (weight v / 2, multiple_from_mod (weight v) 2 even) (heavy v s l)

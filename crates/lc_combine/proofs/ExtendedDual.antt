-- The dual of an extended code (MacWilliams and Sloane, chapter 1).
--   ones_dot               the dot with the word of ones is the sum of the symbols
--   extended_dot           the dot of an extended word and a word with one symbol more
--   extended_dual          the words of the dual of an extended code
use Rattle.std.proofs.Common.{◌≡◌, ℕ, zero, suc, ◌+◌, ◌<◌, ◌↔◌, List, [], ◌∷◌, ◌++◌, length, replicate, refl, sym, ap, subst, ◌∙◌, arith}
use Rattle.std.proofs.lemmas.List.{length-replicate}
use Rattle.lc_algebra.specs.declared.FieldName.{FieldName}
use Rattle.lc_algebra.specs.Field.{size, add, neg, mul}
use Rattle.lc_algebra.specs.Word.{Fits, IsWord, word_sum, scale, word_dot}
use Rattle.lc_algebra.specs.Span.{InSpan}
use Rattle.lc_algebra.specs.Matrix.{Matrix, AreRows}
use Rattle.lc_algebra.proofs.FieldLaws.{mul_one, mul_comm, neg_mul}
use Rattle.lc_algebra.proofs.WordLaws.{fits_head, fits_tail, dot_sum, dot_scale, length_scale}
use Rattle.lc_algebra.proofs.SpanLaws.{span_word}
use Rattle.lc_constructions.specs.Code.{InCode, IsCode}
use Rattle.lc_constructions.specs.Combined.{InDual, symbol_sum, InExtended}
use Rattle.lc_matrix.proofs.SolveLaws.{dot_behind}
use Rattle.lc_linear_laws.proofs.PartLaws.{word_append}
use Rattle.lc_combine.proofs.ExtendedLaws.{one_symbol, extended_linear}

pub ones_dot : (f : FieldName) (n : ℕ) (u : List ℕ) → length u ≡ n → Fits f u → word_dot f u (replicate n 1) ≡ symbol_sum f u
unfolding word_dot symbol_sum
ones_dot f zero [] e h = refl
ones_dot f zero (a ∷ u) e h = absurd (omega (arith, e))
ones_dot f (suc n) [] e h = absurd (omega (arith, e))
ones_dot f (suc n) (a ∷ u) e h =
    let t = ones_dot f n u (omega (arith, e)) (fits_tail f a u h) in
    let m = mul_one f a (fits_head f a u h) in
    cc (t, m)

-- the same as the dot of the word itself and the word less a in each symbol
pub extended_dot : (f : FieldName) (n : ℕ) (u w : List ℕ) (a : ℕ) → IsWord f n u → IsWord f n w → word_dot f (u ++ neg f (symbol_sum f u) ∷ []) (w ++ a ∷ []) ≡ word_dot f u (word_sum f w (scale f (neg f a) (replicate n 1)))
extended_dot f n u w a x y =
    let s : ℕ = symbol_sum f u in
    let ones : List ℕ = replicate n 1 in
    let long : length w ≡ length (scale f (neg f a) ones) = y.long ∙ sym (length_scale f (neg f a) ones ∙ length-replicate n 1) in
    let last : mul f (neg f s) a ≡ mul f (neg f a) s = neg_mul f s a ∙ ap (neg f) (mul_comm f s a) ∙ sym (neg_mul f a s) in
    let rest : word_dot f u (scale f (neg f a) ones) ≡ mul f (neg f a) s = dot_scale f (neg f a) u ones ∙ ap (mul f (neg f a)) (ones_dot f n u x.long x.fits) in
    dot_behind f u w (neg f s) a (x.long ∙ sym y.long) ∙ ap (add f (word_dot f u w)) (last ∙ sym rest) ∙ sym (dot_sum f u w (scale f (neg f a) ones) long)

pub extended_dual : (C E D : Matrix) → AreRows C.field C.columns C.rows → IsCode C.field (C.columns + 1) (InExtended C) E → IsCode C.field (C.columns + 1) (InDual E) D → (w : List ℕ) (a : ℕ) → IsWord C.field C.columns w → a < size C.field
    → InCode D (w ++ a ∷ []) ↔ InDual C (word_sum C.field w (scale C.field (neg C.field a) (replicate C.columns 1)))
extended_dual C E D r e d w a y l = (to, from)
  where
    f : FieldName
    f = C.field

    n : ℕ
    n = C.columns

    long : IsWord f (n + 1) (w ++ a ∷ [])
    long = word_append f n 1 w (a ∷ []) y (one_symbol f a l)

    dots : (u : List ℕ) → InCode C u → word_dot f (u ++ neg f (symbol_sum f u) ∷ []) (w ++ a ∷ []) ≡ word_dot f u (word_sum f w (scale f (neg f a) (replicate n 1)))
    dots u c = extended_dot f n u w a (span_word f n C.rows u r c) y

    in_code : (M : Matrix) (g : FieldName) (k : ℕ) (P : List ℕ → Type 0) (v : List ℕ) → IsCode g k P M → InCode M v ↔ (IsWord g k v × P v)
    in_code M g k P v c = subst (λ h. InSpan h M.columns M.rows v ↔ (IsWord g k v × P v)) (sym c.over) (subst (λ m. InSpan g m M.rows v ↔ (IsWord g k v × P v)) (sym c.length_is) (c.generator.members v))

    to : InCode D (w ++ a ∷ []) → InDual C (word_sum f w (scale f (neg f a) (replicate n 1)))
    to h = λ u c.
        let dual : InDual E (w ++ a ∷ []) = ((in_code D f (n + 1) (InDual E) (w ++ a ∷ []) d).0 h).1 in
        let word : IsWord f (n + 1) (u ++ neg f (symbol_sum f u) ∷ []) = (extended_linear f n).word u (span_word f n C.rows u r c) in
        let inside : InCode E (u ++ neg f (symbol_sum f u) ∷ []) = (in_code E f (n + 1) (InExtended C) (u ++ neg f (symbol_sum f u) ∷ []) e).1 (word, (u, c, refl)) in
        sym (dots u c) ∙ subst (λ g. word_dot g (u ++ neg f (symbol_sum f u) ∷ []) (w ++ a ∷ []) ≡ 0) e.over (dual (u ++ neg f (symbol_sum f u) ∷ []) inside)

    from : InDual C (word_sum f w (scale f (neg f a) (replicate n 1))) → InCode D (w ++ a ∷ [])
    from h = (in_code D f (n + 1) (InDual E) (w ++ a ∷ []) d).1 (
      long,
      λ v t.
          let (u, c, k) = ((in_code E f (n + 1) (InExtended C) v e).0 t).1 in
          subst (λ g. word_dot g v (w ++ a ∷ []) ≡ 0) (sym e.over) (ap (λ x. word_dot f x (w ++ a ∷ [])) k ∙ dots u c ∙ h u c),
    )

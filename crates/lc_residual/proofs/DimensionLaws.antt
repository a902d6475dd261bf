-- The dimension of a residual code.
--   some_or_none           some number below n is mapped to 0, or none
--   multiple_of            a word of the code of which nothing is left is a multiple of the word that is removed
--   one_word               the words of one row are its multiples
--   images_free            so rows that are independent of that word stay independent
--   residual_dimension     the residual code has one dimension less
use Rattle.std.proofs.Common.{◌≡◌, ℕ, zero, suc, ◌+◌, ◌-◌, ◌*◌, ◌<◌, ◌≤◌, ◌⊎◌, List, [], ◌∷◌, ◌++◌, length, map, Contains, refl, sym, ap, subst, ◌∙◌, inl, inr, ⊎_elim, arith}
use Rattle.std.proofs.Math.Nat.{mul-zero}
use Rattle.std.proofs.lemmas.Bool.{cases_lt}
use Rattle.std.proofs.lemmas.List.{length-append, length-map}
use Rattle.std.proofs.lemmas.List.Elements.{All-cons}
use Rattle.lc_algebra.specs.declared.FieldName.{FieldName}
use Rattle.lc_algebra.specs.Field.{size, neg}
use Rattle.lc_algebra.specs.Word.{IsWord, zero_word, word_sum, scale, weight}
use Rattle.lc_algebra.specs.Span.{below, combine, InSpan, SameSpan, AreIndependent, IsWeightBound}
use Rattle.lc_algebra.specs.Matrix.{Matrix, AreRows, IsReduced}
use Rattle.lc_algebra.proofs.FieldLaws.{neg_inside}
use Rattle.lc_algebra.proofs.WordLaws.{IsWord_zero, IsWord_scale, word_cons, weight_zero_word, zero_from_weight, sum_zero, zero_sum, multiple_undone}
use Rattle.lc_algebra.proofs.SpanLaws.{span_word, span_zero, span_sum, span_within, word_of_combination, contains_below, length_below, combine_append}
use Rattle.lc_algebra.proofs.ReducedLaws.{reduced_independent}
use Rattle.lc_algebra.proofs.DimensionLaws.{dimension_unique}
use Rattle.lc_constructions.specs.Code.{InCode, IsCode}
use Rattle.lc_infoset.proofs.GreedyLaws.{independent_cons, other_in_span}
use Rattle.lc_language.specs.Residual.{InResidual}
use Rattle.lc_linear_laws.proofs.LinearLaws.{IsLinear, image_rows, image_span, span_image, combine_image}
use Rattle.lc_linear_laws.proofs.PartLaws.{span_parted, rows_append, word_append, zero_parted}
use Rattle.lc_relations.proofs.UnionLaws.{extended}
use Rattle.lc_residual.proofs.WeightLaws.{weights_added, sum_at_least, removed, residual_linear, residual_kept, multiples_in}

some_or_none : (g : ℕ → ℕ) (n : ℕ) → ((a : ℕ) × (a < n) × (g a ≡ 0)) ⊎ ((a : ℕ) → a < n → 0 < g a)
some_or_none g zero = inr (λ a l. absurd (omega (arith, l)))
some_or_none g (suc n) =
    ⊎_elim
    (λ (a, l, e). inl (a, omega (arith, l), e))
    (λ h. ⊎_elim
    (λ p. inr (λ a l. ⊎_elim (λ k. h a k) (λ k. let e : n ≡ a = omega (arith, l, k) in subst (λ b. 0 < g b) e p) (cases_lt a n)))
    (λ e. inl (n, omega arith, omega (arith, e)))
    (cases_lt 0 (g n)))
    (some_or_none g n)

-- ---- multiples of one word

no_rows : (f : FieldName) (n : ℕ) → AreRows f n []
no_rows f n i d l = absurd (omega (arith, l))

none_free : (f : FieldName) (n : ℕ) → AreIndependent f n []
none_free f n [] w e = refl
none_free f n (a ∷ cs) w e = absurd (omega (arith, w.long))

one_row : (f : FieldName) (n : ℕ) (c : List ℕ) → IsWord f n c → AreRows f n (c ∷ [])
one_row f n c w = All-cons (IsWord f n) c [] w (no_rows f n)

one_word : (f : FieldName) (n : ℕ) (c u : List ℕ) → IsWord f n c → InSpan f n (c ∷ []) u → (b : ℕ) × (u ≡ scale f b c)
one_word f n c u w (b, l, (v, z, e)) = (b, e ∙ ap (word_sum f (scale f b c)) z ∙ sum_zero f n (scale f b c) (IsWord_scale f n b c w.long))

multiple_in : (f : FieldName) (n a : ℕ) (c : List ℕ) → a < size f → IsWord f n c → InSpan f n (c ∷ []) (scale f a c)
multiple_in f n a c l w = (a, l, (zero_word n, refl, sym (sum_zero f n (scale f a c) (IsWord_scale f n a c w.long))))

multiple_of : (C : Matrix) (c u : List ℕ) (d : ℕ) → AreRows C.field C.columns C.rows → InCode C c → weight c < C.columns → IsWeightBound C.field C.columns C.rows d → (size C.field - 1) * weight c < size C.field * d → InCode C u → removed c u ≡ zero_word (C.columns - weight c) → InSpan C.field C.columns (c ∷ []) u
multiple_of C c u d r i some heavy less j z =
    let f = C.field in
    let n = C.columns in
    let q : ℕ = size f in
    let wc = span_word f n C.rows c r i in
    let wu = span_word f n C.rows u r j in
    let g : ℕ → ℕ = λ a. weight (word_sum f u (scale f a c)) in
    ⊎_elim
    (λ (a, l, e).
    let long = (span_word f n C.rows (word_sum f u (scale f a c)) r (multiples_in C c u a r i j)).long in
    other_in_span f n (c ∷ []) u (scale f a c) (one_row f n c wc) wu (IsWord_scale f n a c wc.long).long (multiple_in f n a c l wc) (zero_from_weight n (word_sum f u (scale f a c)) long e))
    (λ h.
    let each : (a : ℕ) → Contains (below q) a → d ≤ g a = λ a m. heavy (word_sum f u (scale f a c)) (multiples_in C c u a r i j) (h a (contains_below q a m)) in
    let none : q * weight (removed c u) ≡ 0 = ap (λ w. q * weight w) z ∙ ap (λ k. q * k) (weight_zero_word (n - weight c)) ∙ mul-zero q in
    absurd (omega (arith, less, none, sum_at_least g d (below q) each, ap (λ k. k * d) (length_below q), weights_added f n u c wu wc)))
    (some_or_none g q)

-- ---- the dimension

images_free : (f : FieldName) (n m : ℕ) (h : List ℕ → List ℕ) (rows : List (List ℕ)) (c : List ℕ) → IsLinear f n m h → AreRows f n rows → IsWord f n c → AreIndependent f n (rows ++ c ∷ []) → ((u : List ℕ) → InSpan f n rows u → h u ≡ zero_word m → InSpan f n (c ∷ []) u) → AreIndependent f m (map h rows)
unfolding combine
images_free f n m h rows c linear r word free only cs w z =
    let k = length rows in
    let e : length (map h rows) ≡ k = length-map rows h in
    let coefficients : IsWord f k cs = subst (λ i. IsWord f i cs) e w in
    let u = combine f n cs rows in
    let (b, is) = one_word f n c u word (only u (word_of_combination f n rows cs coefficients) (sym (combine_image f n m h cs rows linear r) ∙ z)) in
    let last : combine f n (neg f b ∷ []) (c ∷ []) ≡ scale f (neg f b) c = sum_zero f n (scale f (neg f b) c) (IsWord_scale f n (neg f b) c word.long) in
    let back : word_sum f u (scale f (neg f b) c) ≡ zero_word n =
    ap (λ x. word_sum f x (scale f (neg f b) c)) (is ∙ sym (zero_sum f n (scale f b c) (IsWord_scale f n b c word.long)))
    ∙ multiple_undone f n b (zero_word n) c (IsWord_zero f n) word.long in
    let none : combine f n (cs ++ neg f b ∷ []) (rows ++ c ∷ []) ≡ zero_word n = combine_append f n cs (neg f b ∷ []) rows (c ∷ []) coefficients.long (one_row f n c word) ∙ ap (word_sum f u) last ∙ back in
    let count : length (rows ++ c ∷ []) ≡ k + 1 = length-append rows (c ∷ []) in
    let all : IsWord f (length (rows ++ c ∷ [])) (cs ++ neg f b ∷ []) = subst (λ i. IsWord f i (cs ++ neg f b ∷ [])) (sym count) (word_append f k 1 cs (neg f b ∷ []) coefficients (word_cons f 0 (neg f b) [] (neg_inside f b) (IsWord_zero f 0))) in
    (zero_parted k 1 cs (neg f b ∷ []) coefficients.long refl (free (cs ++ neg f b ∷ []) all none ∙ ap (λ i. zero_word i) count)).0 ∙ ap (λ i. zero_word i) (sym e)

pub residual_dimension : (C R : Matrix) (c : List ℕ) (d : ℕ) → AreRows C.field C.columns C.rows → IsReduced C.columns C.rows → InCode C c → 0 < weight c → weight c < C.columns → IsWeightBound C.field C.columns C.rows d → (size C.field - 1) * weight c < size C.field * d → IsCode C.field (C.columns - weight c) (InResidual C c) R → length R.rows + 1 ≡ length C.rows
residual_dimension C R c d r reduced i pos some heavy less k =
    let f = C.field in
    let n = C.columns in
    let m = n - weight c in
    let h = removed c in
    let base : List (List ℕ) = c ∷ [] in
    let linear = residual_linear C c r i some in
    let wc = span_word f n C.rows c r i in
    let base_rows : AreRows f n base = one_row f n c wc in
    let out : InSpan f n [] c → ⊥ = λ e. absurd (omega (arith, pos, ap (λ w. weight w) e, weight_zero_word n)) in
    let t = extended f n base [] C.rows base_rows (no_rows f n) r (independent_cons f n c [] wc (no_rows f n) (none_free f n) out) (none_free f n) (λ w e. subst (InSpan f n base) (sym e) (span_zero f n base base_rows)) in
    let into : (w : List ℕ) → InSpan f n base w → InSpan f n C.rows w = λ w s. span_within f n base C.rows w r (All-cons (InSpan f n C.rows) c [] i (λ j e l. absurd (omega (arith, l)))) s in
    let whole : SameSpan f n (t.added ++ base) C.rows = λ w. (
      (λ s.
          let (a, (b, x, y, e)) = span_parted f n t.added base w base_rows s in
          subst (InSpan f n C.rows) (sym e) (span_sum f n C.rows a b (t.inside a x) (into b y))),
      (λ s. t.covers w s),
    ) in
    let count : length (t.added ++ base) ≡ length C.rows = dimension_unique f n (t.added ++ base) C.rows (rows_append f n t.added base t.words base_rows) r t.free (reduced_independent f n C.rows r reduced) whole in
    let images = map h t.added in
    let words : AreRows f m images = image_rows f n m h t.added linear t.words in
    let free : AreIndependent f m images = images_free f n m h t.added c linear t.words wc t.free (λ u s z. multiple_of C c u d r i some heavy less (t.inside u s) z) in
    let same : SameSpan f m images R.rows = λ w. (
      (λ s.
          let (u, x, e) = span_image f n m h t.added w linear t.words s in
          (k.generator.members w).1 (span_word f m images w words s, (u, t.inside u x, e))),
      (λ s.
          let (u, x, e) = ((k.generator.members w).0 s).1 in
          let (a, (b, y, z, g)) = span_parted f n t.added base u base_rows (t.covers u x) in
          let (p, o) = one_word f n c b wc z in
          let kept : h u ≡ h a = ap h (g ∙ ap (word_sum f a) o) ∙ residual_kept C c a p r i some (span_word f n t.added a t.words y) in
          subst (InSpan f m images) (sym (e ∙ kept)) (image_span f n m h t.added a linear t.words y)),
    ) in
    let left : length images ≡ length R.rows = dimension_unique f m images R.rows words k.generator.words free (reduced_independent f m R.rows k.generator.words k.generator.reduced) same in
    omega (arith, count, left, length-append t.added base, length-map t.added h)

-- Linear maps of words, and the words that images of rows generate.
--   IsLinear f n m h           h takes words of length n to words of length m, sums to sums and multiples to multiples
--   image_rows                 images are words
--   image_span, span_image     the words of the images of some rows are the images of their words
--   combine_image              combinations of images
--   same_rows                  rows whose words are those that meet P have the words of the code of these
--   image_independent          independent rows have independent images if only the zero word goes to the zero word
--   image_dimension            so the images are a code of the same dimension
use Rattle.std.proofs.Common.{◌≡◌, ℕ, ◌↔◌, List, [], ◌∷◌, map, refl, sym, ap, subst, ◌∙◌, arith, length, All, ap₂, zero, ◌-◌}
use Rattle.std.proofs.lemmas.List.Elements.{All-head, All-tail, All-cons}
use Rattle.std.proofs.lemmas.List.{length-map}
use Rattle.lc_algebra.specs.declared.FieldName.{FieldName}
use Rattle.lc_algebra.specs.Word.{IsWord, zero_word, word_sum, scale}
use Rattle.lc_algebra.specs.Span.{InSpan, combine, SameSpan, AreIndependent}
use Rattle.lc_algebra.specs.Matrix.{Matrix, AreRows, IsReduced}
use Rattle.lc_algebra.proofs.WordLaws.{IsWord_scale}
use Rattle.lc_algebra.proofs.SpanLaws.{span_word, combine_is_word, word_of_combination}
use Rattle.lc_algebra.proofs.ReducedLaws.{reduced_independent}
use Rattle.lc_algebra.proofs.DimensionLaws.{dimension_unique}
use Rattle.lc_constructions.specs.Code.{IsCode}

pub record IsLinear (f : FieldName) (n m : ℕ) (h : List ℕ → List ℕ) : Type 0 where
  pub word : (u : List ℕ) → IsWord f n u → IsWord f m (h u)
  pub zero : h (zero_word n) ≡ zero_word m
  pub sums : (u v : List ℕ) → IsWord f n u → IsWord f n v → h (word_sum f u v) ≡ word_sum f (h u) (h v)
  pub multiples : (c : ℕ) (u : List ℕ) → IsWord f n u → h (scale f c u) ≡ scale f c (h u)

no_rows : (f : FieldName) (n : ℕ) → AreRows f n []
no_rows f n k d l = absurd (omega (arith, l))

pub image_rows : (f : FieldName) (n m : ℕ) (h : List ℕ → List ℕ) (rows : List (List ℕ)) → IsLinear f n m h → AreRows f n rows → AreRows f m (map h rows)
image_rows f n m h [] s r = no_rows f m
image_rows f n m h (g ∷ rows) s r =
    All-cons (IsWord f m) (h g) (map h rows) (s.word g (All-head (IsWord f n) g rows r)) (image_rows f n m h rows s (All-tail (IsWord f n) g rows r))

step : (f : FieldName) (n m : ℕ) (h : List ℕ → List ℕ) (c : ℕ) (g v : List ℕ) → IsLinear f n m h → IsWord f n g → IsWord f n v → IsWord f n (scale f c g) → h (word_sum f (scale f c g) v) ≡ word_sum f (scale f c (h g)) (h v)
step f n m h c g v s a b t = s.sums (scale f c g) v t b ∙ ap (λ u. word_sum f u (h v)) (s.multiples c g a)

pub image_span : (f : FieldName) (n m : ℕ) (h : List ℕ → List ℕ) (rows : List (List ℕ)) (u : List ℕ) → IsLinear f n m h → AreRows f n rows → InSpan f n rows u → InSpan f m (map h rows) (h u)
image_span f n m h [] u s r e = ap h e ∙ s.zero
image_span f n m h (g ∷ rows) u s r (c, l, (v, p, e)) =
    let a = All-head (IsWord f n) g rows r in
    let t = All-tail (IsWord f n) g rows r in
    (c, l, (h v, image_span f n m h rows v s t p, ap h e ∙ step f n m h c g v s a (span_word f n rows v t p) (IsWord_scale f n c g a.long)))

pub span_image : (f : FieldName) (n m : ℕ) (h : List ℕ → List ℕ) (rows : List (List ℕ)) (w : List ℕ) → IsLinear f n m h → AreRows f n rows → InSpan f m (map h rows) w → (u : List ℕ) × InSpan f n rows u × (w ≡ h u)
span_image f n m h [] w s r e = (zero_word n, refl, e ∙ sym s.zero)
span_image f n m h (g ∷ rows) w s r (c, l, (v, p, e)) =
    let a = All-head (IsWord f n) g rows r in
    let t = All-tail (IsWord f n) g rows r in
    let (x, q, k) = span_image f n m h rows v s t p in
    (word_sum f (scale f c g) x, (c, l, (x, q, refl)), e ∙ ap (word_sum f (scale f c (h g))) k ∙ sym (step f n m h c g x s a (span_word f n rows x t q) (IsWord_scale f n c g a.long)))

pub combine_image : (f : FieldName) (n m : ℕ) (h : List ℕ → List ℕ) (cs : List ℕ) (rows : List (List ℕ)) → IsLinear f n m h → AreRows f n rows → combine f m cs (map h rows) ≡ h (combine f n cs rows)
unfolding combine
combine_image f n m h [] [] s r = sym s.zero
combine_image f n m h [] (g ∷ rows) s r = sym s.zero
combine_image f n m h (a ∷ cs) [] s r = sym s.zero
combine_image f n m h (a ∷ cs) (g ∷ rows) s r =
    let w = All-head (IsWord f n) g rows r in
    let t = All-tail (IsWord f n) g rows r in
    ap₂ (word_sum f) (sym (s.multiples a g w)) (combine_image f n m h cs rows s t) ∙ sym (s.sums (scale f a g) (combine f n cs rows) (IsWord_scale f n a g w.long) (combine_is_word f n cs rows t))

pub same_rows : (f : FieldName) (n : ℕ) (P : List ℕ → Type 0) (rows : List (List ℕ)) (E : Matrix) → IsCode f n P E → AreRows f n rows → ((w : List ℕ) → InSpan f n rows w ↔ P w) → SameSpan f n rows E.rows
same_rows f n P rows E c r h w = (
  (λ s. (c.generator.members w).1 (span_word f n rows w r s, (h w).0 s)),
  (λ s. (h w).1 ((c.generator.members w).0 s).1),
)

pub image_independent : (f : FieldName) (n m : ℕ) (h : List ℕ → List ℕ) (rows : List (List ℕ)) → IsLinear f n m h → AreRows f n rows → AreIndependent f n rows → ((u : List ℕ) → InSpan f n rows u → h u ≡ zero_word m → u ≡ zero_word n) → AreIndependent f m (map h rows)
image_independent f n m h rows linear r free only cs w z =
    let e : length (map h rows) ≡ length rows = length-map rows h in
    let word : IsWord f (length rows) cs = subst (λ i. IsWord f i cs) e w in
    let zero : combine f n cs rows ≡ zero_word n = only (combine f n cs rows) (word_of_combination f n rows cs word) (sym (combine_image f n m h cs rows linear r) ∙ z) in
    free cs word zero ∙ ap (λ i. zero_word i) (sym e)

pub image_dimension : (f : FieldName) (n m : ℕ) (h : List ℕ → List ℕ) (rows : List (List ℕ)) (P : List ℕ → Type 0) (E : Matrix) → IsLinear f n m h → AreRows f n rows → IsReduced n rows → ((u : List ℕ) → InSpan f n rows u → h u ≡ zero_word m → u ≡ zero_word n) → ((w : List ℕ) → InSpan f m (map h rows) w ↔ P w) → IsCode f m P E → length E.rows ≡ length rows
image_dimension f n m h rows P E linear r o only members c =
    let images = map h rows in
    let words : AreRows f m images = image_rows f n m h rows linear r in
    let free = image_independent f n m h rows linear r (reduced_independent f n rows r o) only in
    sym (dimension_unique f m images E.rows words c.generator.words free (reduced_independent f m E.rows c.generator.words c.generator.reduced) (same_rows f m P images E c words members)) ∙ length-map rows h

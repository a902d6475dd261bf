-- Traces of elements and of words from a symbol field to a smaller one (MacWilliams and Sloane, chapter 4).
--   trace_once, trace_exists       each element has one trace
--   trace_reached          and each element of the smaller field is one
--   trace_added, trace_scaled, trace_zero      it is linear over the smaller field
--   trace_told             an element is 0 if each of its multiples has trace 0
--   word_once, word_added, word_scaled, word_zero, word_inside      so of words, symbol by symbol
--   word_exists            each word has a word of traces
--   dot_trace              the trace of the dot with a word over the smaller field is the dot with the traces
--   traces_closed          the words of traces of the words of a code are a linear code
use Rattle.std.proofs.Common.{◌≡◌, ℕ, zero, suc, ◌<◌, ◌≤◌, List, [], ◌∷◌, length, map, slice_index, refl, sym, ap, ap₂, subst, ◌∙◌, ⊎_elim, arith}
use Rattle.std.specs.Prelude.{IsTrue}
use Rattle.std.proofs.lemmas.Bool.{cases_lt}
use Rattle.lc_algebra.specs.declared.FieldName.{FieldName}
use Rattle.lc_algebra.specs.Field.{size, is_symbol, add, mul}
use Rattle.lc_algebra.specs.Embedding.{IsSubfield, embed}
use Rattle.lc_algebra.specs.Word.{Fits, IsWord, zero_word, word_sum, scale, word_dot}
use Rattle.lc_algebra.specs.Matrix.{Matrix, AreRows}
use Rattle.lc_algebra.proofs.FieldLaws.{zero_inside, add_inside, mul_inside, zero_mul}
use Rattle.lc_algebra.proofs.EmbeddingLaws.{embed_add, embed_mul, embed_zero, embed_injective}
use Rattle.lc_algebra.proofs.WordLaws.{same_words, index_word_sum, index_scale, index_zero_word, length_word_sum, length_scale, fits_head, fits_tail, word_symbol, dot_inside}
use Rattle.lc_algebra.proofs.SpanLaws.{span_word, span_zero, span_sum, span_scale}
use Rattle.lc_matrix.proofs.PlaceLaws.{past_end}
use Rattle.lc_constructions.specs.Code.{IsClosed}
use Rattle.lc_language.specs.Trace.{IsTrace, IsTraceWord, InTrace}
use Rattle.lc_trace.proofs.TraceTests.{sum_of, trace_there, sum_added, sum_scaled, sum_told, sum_reached}

-- ---- elements

pub trace_once : (F K : FieldName) (a b c : ℕ) → IsSubfield F K → IsTrace F K a b → IsTrace F K a c → b ≡ c
trace_once F K a b c t p q = embed_injective F K b c t p.inside q.inside (p.is ∙ sym q.is)

pub trace_exists : (F K : FieldName) (a : ℕ) → IsTrue (is_symbol K) → IsSubfield F K → a < size K → (b : ℕ) × IsTrace F K a b
unfolding sum_of
trace_exists F K a s t l = let (b, m, e) = trace_there F K a s t l in (b, record { inside = m; is = e })

pub trace_reached : (F K : FieldName) (b : ℕ) → IsTrue (is_symbol K) → IsSubfield F K → b < size F → (a : ℕ) × (a < size K) × IsTrace F K a b
unfolding sum_of
trace_reached F K b s t l = let (a, m, e) = sum_reached F K b s t l in (a, m, record { inside = l; is = sym e })

pub trace_added : (F K : FieldName) (a b c d : ℕ) → IsTrue (is_symbol K) → IsSubfield F K → a < size K → c < size K → IsTrace F K a b → IsTrace F K c d → IsTrace F K (add K a c) (add F b d)
unfolding sum_of
trace_added F K a b c d s t l m p q = record {
  inside = add_inside F b d;
  is = embed_add F K b d t p.inside q.inside ∙ ap₂ (add K) p.is q.is ∙ sym (sum_added F K a c s t l m);
}

pub trace_scaled : (F K : FieldName) (c a b : ℕ) → IsTrue (is_symbol K) → IsSubfield F K → c < size F → a < size K → IsTrace F K a b → IsTrace F K (mul K (embed F K c) a) (mul F c b)
unfolding sum_of
trace_scaled F K c a b s t l m p = record {
  inside = mul_inside F c b;
  is = embed_mul F K c b t l p.inside ∙ ap (mul K (embed F K c)) p.is ∙ sym (sum_scaled F K c a s t l m);
}

sum_zero : (F K : FieldName) → IsTrue (is_symbol K) → IsSubfield F K → sum_of F K 0 ≡ 0
sum_zero F K s t =
    let z : mul K (embed F K 0) 0 ≡ 0 = ap (λ x. mul K x 0) (embed_zero F K t) ∙ zero_mul K 0 in
    ap (sum_of F K) (sym z) ∙ sum_scaled F K 0 0 s t (zero_inside F) (zero_inside K) ∙ ap (λ x. mul K x (sum_of F K 0)) (embed_zero F K t) ∙ zero_mul K (sum_of F K 0)

pub trace_zero : (F K : FieldName) → IsTrue (is_symbol K) → IsSubfield F K → IsTrace F K 0 0
unfolding sum_of
trace_zero F K s t = record { inside = zero_inside F; is = embed_zero F K t ∙ sym (sum_zero F K s t) }

pub trace_told : (F K : FieldName) (a : ℕ) → IsTrue (is_symbol K) → IsSubfield F K → a < size K → ((x : ℕ) → x < size K → IsTrace F K (mul K x a) 0) → a ≡ 0
unfolding sum_of
trace_told F K a s t l h = sum_told F K a s t l (λ x m. sym ((h x m).is) ∙ embed_zero F K t)

-- ---- words

pub word_once : (F K : FieldName) (u v w : List ℕ) → IsSubfield F K → IsTraceWord F K u v → IsTraceWord F K u w → v ≡ w
word_once F K u v w t p q = same_traces (p.long ∙ sym q.long) (λ i l. trace_once F K (slice_index u i) (slice_index v i) (slice_index w i) t (p.traces i l) (q.traces i l))
  where
    same_traces : length v ≡ length w → ((i : ℕ) → i < length u → slice_index v i ≡ slice_index w i) → v ≡ w
    same_traces e h = same_words v w e (λ i. ⊎_elim (λ (l : i < length u). h i l) (λ (m : length u ≤ i). past_end v i (omega (arith, m, p.long)) ∙ sym (past_end w i (omega (arith, m, q.long)))) (cases_lt i (length u)))

pub word_inside : (F K : FieldName) (n : ℕ) (u v : List ℕ) → length u ≡ n → IsTraceWord F K u v → IsWord F n v
word_inside F K n u v l p = record { long = p.long ∙ l; fits = λ i m. (p.traces i (omega (arith, m, p.long))).inside }

pub word_added : (F K : FieldName) (n : ℕ) (u v x y : List ℕ) → IsTrue (is_symbol K) → IsSubfield F K → IsWord K n u → IsWord K n x → IsTraceWord F K u v → IsTraceWord F K x y → IsTraceWord F K (word_sum K u x) (word_sum F v y)
word_added F K n u v x y s t a b p q =
    let l : length u ≡ length x = a.long ∙ sym b.long in
    let m : length v ≡ length y = p.long ∙ l ∙ sym q.long in
    record {
      long = length_word_sum F v y m ∙ q.long ∙ sym (length_word_sum K u x l);
      traces = λ i k.
          let h : i < length u = omega (arith, k, length_word_sum K u x l, l) in
          let z = trace_added F K (slice_index u i) (slice_index v i) (slice_index x i) (slice_index y i) s t (word_symbol K n u a i) (word_symbol K n x b i) (p.traces i h) (q.traces i (omega (arith, h, l))) in
          subst (λ c. IsTrace F K c (slice_index (word_sum F v y) i)) (sym (index_word_sum K u x i l)) (subst (IsTrace F K (add K (slice_index u i) (slice_index x i))) (sym (index_word_sum F v y i m)) z);
    }

pub word_scaled : (F K : FieldName) (n c : ℕ) (u v : List ℕ) → IsTrue (is_symbol K) → IsSubfield F K → c < size F → IsWord K n u → IsTraceWord F K u v → IsTraceWord F K (scale K (embed F K c) u) (scale F c v)
word_scaled F K n c u v s t l a p = record {
  long = length_scale F c v ∙ p.long ∙ sym (length_scale K (embed F K c) u);
  traces = λ i k.
      let h : i < length u = omega (arith, k, length_scale K (embed F K c) u) in
      let z = trace_scaled F K c (slice_index u i) (slice_index v i) s t l (word_symbol K n u a i) (p.traces i h) in
      subst (λ x. IsTrace F K x (slice_index (scale F c v) i)) (sym (index_scale K (embed F K c) u i)) (subst (IsTrace F K (mul K (embed F K c) (slice_index u i))) (sym (index_scale F c v i)) z);
}

pub word_zero : (F K : FieldName) (n : ℕ) → IsTrue (is_symbol K) → IsSubfield F K → IsTraceWord F K (zero_word n) (zero_word n)
word_zero F K n s t = record {
  long = refl;
  traces = λ i k. subst (λ x. IsTrace F K x (slice_index (zero_word n) i)) (sym (index_zero_word n i)) (subst (IsTrace F K 0) (sym (index_zero_word n i)) (trace_zero F K s t));
}

word_cons : (F K : FieldName) (a b : ℕ) (u v : List ℕ) → IsTrace F K a b → IsTraceWord F K u v → IsTraceWord F K (a ∷ u) (b ∷ v)
word_cons F K a b u v p q = record { long = ap suc q.long; traces = each }
  where
    each : (i : ℕ) → i < length (a ∷ u) → IsTrace F K (slice_index (a ∷ u) i) (slice_index (b ∷ v) i)
    each zero l = p
    each (suc i) l = q.traces i (omega (arith, l))

pub word_exists : (F K : FieldName) (u : List ℕ) → IsTrue (is_symbol K) → IsSubfield F K → Fits K u → (v : List ℕ) × IsTraceWord F K u v
word_exists F K [] s t h = ([], record { long = refl; traces = λ i l. absurd (omega (arith, l)) })
word_exists F K (a ∷ u) s t h =
    let (b, p) = trace_exists F K a s t (fits_head K a u h) in
    let (v, q) = word_exists F K u s t (fits_tail K a u h) in
    (b ∷ v, word_cons F K a b u v p q)

pub dot_trace : (F K : FieldName) (w h v : List ℕ) → IsTrue (is_symbol K) → IsSubfield F K → Fits F w → Fits K h → length w ≡ length h → IsTraceWord F K h v → IsTrace F K (word_dot K (map (embed F K) w) h) (word_dot F w v)
unfolding word_dot
dot_trace F K [] h v s t f g l p = trace_zero F K s t
dot_trace F K (c ∷ w) [] v s t f g l p = absurd (omega (arith, l))
dot_trace F K (c ∷ w) (a ∷ h) [] s t f g l p = absurd (omega (arith, p.long))
dot_trace F K (c ∷ w) (a ∷ h) (b ∷ v) s t f g l p =
    let rest : IsTraceWord F K h v = record { long = omega (arith, p.long); traces = λ i m. p.traces (suc i) (omega (arith, m)) } in
    let one = trace_scaled F K c a b s t (fits_head F c w f) (fits_head K a h g) (p.traces 0 (omega arith)) in
    let others = dot_trace F K w h v s t (fits_tail F c w f) (fits_tail K a h g) (omega (arith, l)) rest in
    trace_added F K (mul K (embed F K c) a) (mul F c b) (word_dot K (map (embed F K) w) h) (word_dot F w v) s t (mul_inside K (embed F K c) a) (dot_inside K (map (embed F K) w) h) one others

-- ---- the words of traces of a code

pub traces_closed : (C : Matrix) (F : FieldName) → IsTrue (is_symbol C.field) → IsSubfield F C.field → AreRows C.field C.columns C.rows → IsClosed F C.columns (InTrace C F)
traces_closed C F s t r =
    let K = C.field in
    let n = C.columns in
    record {
      zero = (zero_word n, span_zero K n C.rows r, word_zero F K n s t);
      sums = λ v y a b p q.
          let (u, i, e) = p in
          let (x, j, k) = q in
          (word_sum K u x, span_sum K n C.rows u x i j, word_added F K n u v x y s t (span_word K n C.rows u r i) (span_word K n C.rows x r j) e k);
      multiples = λ c v l a p.
          let (u, i, e) = p in
          (scale K (embed F K c) u, span_scale K n C.rows (embed F K c) u i, word_scaled F K n c u v s t l (span_word K n C.rows u r i) e);
    }

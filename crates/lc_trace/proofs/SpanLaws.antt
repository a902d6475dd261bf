-- The words that generate a trace code, and the dual of a subfield subcode.
--   traced_word            a table of traces gives the words of traces
--   traced_words           the rows that it gives are words
--   trace_members          they generate the words of traces of a code
--   trace_code             so does the code of these rows
--   subcode_dual           the words of the subfield subcode are orthogonal to the words of traces of the dual
--   subcode_code, subcode_told       so the subfield subcode is the dual of the trace code of the dual
--   delsarte               and the trace code of the dual is the dual of the subfield subcode
use Rattle.std.proofs.Common.{◌≡◌, ℕ, ◌<◌, ◌↔◌, List, map, slice_index, slice_index_or, Contains, sym, ap, subst, ◌∙◌, arith}
use Rattle.std.specs.Prelude.{IsTrue}
use Rattle.std.proofs.lemmas.List.{get_or-map, length-map}
use Rattle.std.proofs.lemmas.List.Elements.{Contains-get_or, All-contains}
use Rattle.lc_algebra.specs.declared.FieldName.{FieldName}
use Rattle.lc_algebra.specs.Field.{shape_of, size, is_symbol, pow}
use Rattle.lc_algebra.specs.Residue.{digits}
use Rattle.lc_algebra.specs.Polynomial.{value_at}
use Rattle.lc_algebra.specs.Embedding.{IsSubfield, embed}
use Rattle.lc_algebra.specs.Word.{Fits, IsWord, zero_word, word_sum, scale, word_dot}
use Rattle.lc_algebra.specs.Span.{below, InSpan}
use Rattle.lc_algebra.specs.Matrix.{Matrix, AreRows, IsReduced, IsOrthogonal}
use Rattle.lc_algebra.proofs.EmbeddingLaws.{embed_inside}
use Rattle.lc_algebra.proofs.ResidueLaws.{length-digits}
use Rattle.lc_algebra.proofs.WordLaws.{IsWord_zero, IsWord_sum, IsWord_scale, dot_inside, dot_scale, dot_comm}
use Rattle.lc_algebra.proofs.SpanLaws.{span_word, span_zero, span_sum, span_scale, span_of_member, contains_map, map_contains, contains_flat_map, flat_map_contains, contains_below, below_contains}
use Rattle.lc_constructions.specs.Code.{InCode, IsCode}
use Rattle.lc_constructions.specs.Basic.{GeneratedBy}
use Rattle.lc_constructions.specs.Combined.{InDual}
use Rattle.lc_code.specs.Coordinates.{relative_degree, element_of}
use Rattle.lc_code.proofs.CoordinateTests.{element_covered, fits_digits}
use Rattle.lc_code.proofs.CodeLaws.{same_code, orthogonal_dual}
use Rattle.lc_code.proofs.GeneratedLaws.{generated_by, dual_orthogonal, shaped}
use Rattle.lc_language.specs.Trace.{IsTrace, IsTraceWord, InTrace, InSubfieldSubcode}
use Rattle.lc_linear_laws.specs.Powers.{power_multiples, outer_rows}
use Rattle.lc_linear_laws.proofs.PowerSpan.{IsClosedOver, multiple_by_powers, closed_over_span, closed_span}
use Rattle.lc_trace.specs.Traces.{AreTraces, traced, traced_rows}
use Rattle.lc_trace.proofs.TraceLaws.{trace_once, trace_told, trace_zero, word_once, word_added, word_scaled, word_zero, word_inside, word_exists, dot_trace, traces_closed}

-- ---- the table

pub traced_word : (F K : FieldName) (ts u : List ℕ) → AreTraces F K ts → Fits K u → IsTraceWord F K u (traced ts u)
traced_word F K ts u h f = record {
  long = length-map u (slice_index ts);
  traces = λ i l. subst (IsTrace F K (slice_index u i)) (sym (get_or-map (slice_index ts) u i 0 0 l)) (h.traces (slice_index u i) (f i l));
}

traced_is : (F K : FieldName) (n : ℕ) (ts u v : List ℕ) → IsSubfield F K → AreTraces F K ts → IsWord K n u → IsTraceWord F K u v → traced ts u ≡ v
traced_is F K n ts u v t h w p = word_once F K u (traced ts u) v t (traced_word F K ts u h w.fits) p

-- ---- a row is the word of traces of a word of the code

from_row : (K : FieldName) (s : ℕ) (ts : List ℕ) (us : List (List ℕ)) (w : List ℕ) → Contains (traced_rows K s ts us) w → (g : List ℕ) × ((t : ℕ) × Contains us g × (t < s) × (w ≡ traced ts (scale K (pow K (shape_of K).primitive t) g)))
from_row K s ts us w c =
    let (u, b, e) = contains_map (traced ts) (outer_rows K s us) w c in
    let (g, a, d) = contains_flat_map (power_multiples K s) us u b in
    let (t, i, h) = contains_map (λ t. scale K (pow K (shape_of K).primitive t) g) (below s) u d in
    (g, (t, a, contains_below s t i, e ∙ ap (traced ts) h))

row_there : (K : FieldName) (s : ℕ) (ts : List ℕ) (us : List (List ℕ)) (g : List ℕ) (t : ℕ) → Contains us g → t < s → Contains (traced_rows K s ts us) (traced ts (scale K (pow K (shape_of K).primitive t) g))
row_there K s ts us g t c l =
    map_contains (traced ts) (outer_rows K s us) (scale K (pow K (shape_of K).primitive t) g)
    (flat_map_contains (power_multiples K s) us g (scale K (pow K (shape_of K).primitive t) g) c (map_contains (λ t. scale K (pow K (shape_of K).primitive t) g) (below s) t (below_contains s t l)))

row_traces : (C : Matrix) (F : FieldName) (s : ℕ) (ts w : List ℕ) → AreRows C.field C.columns C.rows → AreTraces F C.field ts → Contains (traced_rows C.field s ts C.rows) w → InTrace C F w
row_traces C F s ts w r h c =
    let K = C.field in
    let (g, (t, a, l, e)) = from_row K s ts C.rows w c in
    let u = scale K (pow K (shape_of K).primitive t) g in
    let i : InCode C u = span_scale K C.columns C.rows (pow K (shape_of K).primitive t) g (span_of_member K C.columns C.rows g r a) in
    (u, i, subst (IsTraceWord F K u) (sym e) (traced_word F K ts u h (span_word K C.columns C.rows u r i).fits))

pub traced_words : (C : Matrix) (F : FieldName) (s : ℕ) (ts : List ℕ) → AreRows C.field C.columns C.rows → AreTraces F C.field ts → AreRows F C.columns (traced_rows C.field s ts C.rows)
traced_words C F s ts r h k d l =
    let w = slice_index_or (traced_rows C.field s ts C.rows) k d in
    let (u, i, e) = row_traces C F s ts w r h (Contains-get_or (traced_rows C.field s ts C.rows) k d l) in
    word_inside F C.field C.columns u w (span_word C.field C.columns C.rows u r i).long e

-- ---- and they generate these words

abbrev IsGood : Matrix → FieldName → List ℕ → List (List ℕ) → List ℕ → Type 0
IsGood C F ts rows u = IsWord C.field C.columns u × InSpan F C.columns rows (traced ts u)

good_closed : (C : Matrix) (F : FieldName) (ts : List ℕ) (rows : List (List ℕ)) → IsTrue (is_symbol C.field) → IsSubfield F C.field → AreTraces F C.field ts → AreRows F C.columns rows → IsClosedOver F C.field C.columns (IsGood C F ts rows)
good_closed C F ts rows s t h q =
    let K = C.field in
    let n = C.columns in
    record {
      zero = (IsWord_zero K n, subst (InSpan F n rows) (sym (traced_is F K n ts (zero_word n) (zero_word n) t h (IsWord_zero K n) (word_zero F K n s t))) (span_zero F n rows q));
      sums = λ u v l m a b.
          let w : IsWord K n (word_sum K u v) = IsWord_sum K n u v l m in
          let e : traced ts (word_sum K u v) ≡ word_sum F (traced ts u) (traced ts v) =
          traced_is F K n ts (word_sum K u v) (word_sum F (traced ts u) (traced ts v)) t h w (word_added F K n u (traced ts u) v (traced ts v) s t a.0 b.0 (traced_word F K ts u h (a.0).fits) (traced_word F K ts v h (b.0).fits)) in
          (w, subst (InSpan F n rows) (sym e) (span_sum F n rows (traced ts u) (traced ts v) a.1 b.1));
      multiples = λ c u l m a.
          let w : IsWord K n (scale K (embed F K c) u) = IsWord_scale K n (embed F K c) u m in
          let e : traced ts (scale K (embed F K c) u) ≡ scale F c (traced ts u) =
          traced_is F K n ts (scale K (embed F K c) u) (scale F c (traced ts u)) t h w (word_scaled F K n c u (traced ts u) s t l a.0 (traced_word F K ts u h (a.0).fits)) in
          (w, subst (InSpan F n rows) (sym e) (span_scale F n rows c (traced ts u) a.1));
    }

covered : (F K : FieldName) (a : ℕ) → IsTrue (is_symbol F) → IsSubfield F K → a < size K → (cs : List ℕ) × IsWord F (relative_degree F K) cs × (a ≡ value_at K (map (embed F K) cs) (shape_of K).primitive)
unfolding element_of
covered F K a s t l =
    let (k, m, e) = element_covered F K a s t l in
    let n = relative_degree F K in
    (digits (size F) n k, record { long = length-digits (size F) n k; fits = fits_digits F n k }, sym e)

pub trace_members : (C : Matrix) (F : FieldName) (ts w : List ℕ) → IsTrue (is_symbol F) → IsTrue (is_symbol C.field) → IsSubfield F C.field → AreRows C.field C.columns C.rows → AreTraces F C.field ts
    → InSpan F C.columns (traced_rows C.field (relative_degree F C.field) ts C.rows) w ↔ InTrace C F w
trace_members C F ts w y s t r h =
    let K = C.field in
    let n = C.columns in
    let m = relative_degree F K in
    let rows = traced_rows K m ts C.rows in
    let q = traced_words C F m ts r h in
    let z = good_closed C F ts rows s t h q in (
      (λ i. closed_span F n (InTrace C F) rows w (traces_closed C F s t r) q (λ g c. row_traces C F m ts g r h c) i),
      (λ p.
          let (u, i, e) = p in
          let word = span_word K n C.rows u r i in
          let good : IsGood C F ts rows u = closed_over_span F K n (IsGood C F ts rows) C.rows u z r
          (λ g a c l.
          let (cs, d, is) = covered F K a y t l in
          let long = (All-contains (IsWord K n) C.rows g r c).long in
          multiple_by_powers F K n m a (IsGood C F ts rows) g cs z long d l is
          (λ j k. (IsWord_scale K n (pow K (shape_of K).primitive j) g long, span_of_member F n rows (traced ts (scale K (pow K (shape_of K).primitive j) g)) q (row_there K m ts C.rows g j c k))))
          i in
          subst (InSpan F n rows) (traced_is F K n ts u w t h word e) good.1),
    )

pub trace_code : (C E : Matrix) (F g : FieldName) (k s : ℕ) (ts : List ℕ) (rows : List (List ℕ)) → IsTrue (is_symbol F) → IsTrue (is_symbol C.field) → IsSubfield F C.field → AreRows C.field C.columns C.rows → AreTraces F C.field ts
    → g ≡ F → k ≡ C.columns → s ≡ relative_degree F C.field → rows ≡ traced_rows C.field s ts C.rows → IsCode g k (GeneratedBy g k rows) E → IsCode F C.columns (InTrace C F) E
trace_code C E F g k s ts rows y z t r h a b d e c =
    generated_by F g C.columns k (traced_rows C.field (relative_degree F C.field) ts C.rows) rows (InTrace C F) E a b (e ∙ ap (λ m. traced_rows C.field m ts C.rows) d) (λ w _. trace_members C F ts w y z t r h) c

pub traced_shape : (C : Matrix) (F g : FieldName) (k s : ℕ) (ts : List ℕ) (rows : List (List ℕ)) → AreRows C.field C.columns C.rows → AreTraces F C.field ts → g ≡ F → k ≡ C.columns → rows ≡ traced_rows C.field s ts C.rows → AreRows g k rows
traced_shape C F g k s ts rows r h a b e = shaped F g C.columns k (traced_rows C.field s ts C.rows) rows a b e (traced_words C F s ts r h)

-- ---- subfield subcodes

embedded_word : (F K : FieldName) (n : ℕ) (w : List ℕ) → IsWord F n w → IsWord K n (map (embed F K) w)
embedded_word F K n w h = record {
  long = length-map w (embed F K) ∙ h.long;
  fits = λ i l. subst (λ x. x < size K) (sym (get_or-map (embed F K) w i 0 0 (omega (arith, l, length-map w (embed F K))))) (embed_inside F K (slice_index w i));
}

told : (f : FieldName) (n : ℕ) (P : List ℕ → Type 0) (C : Matrix) (w : List ℕ) → IsCode f n P C → InCode C w ↔ (IsWord f n w × P w)
told f n P C w c = (
  (λ i. (c.generator.members w).0 (subst (λ m. InSpan f m C.rows w) c.length_is (subst (λ g. InSpan g C.columns C.rows w) c.over i))),
  (λ p. subst (λ m. InSpan C.field m C.rows w) (sym c.length_is) (subst (λ g. InSpan g n C.rows w) (sym c.over) ((c.generator.members w).1 p))),
)

-- H is the dual of C, and T the trace code of H
pub subcode_dual : (C H T : Matrix) (F : FieldName) (w : List ℕ) → IsTrue (is_symbol C.field) → IsSubfield F C.field → AreRows C.field C.columns C.rows → IsReduced C.columns C.rows → IsCode C.field C.columns (InDual C) H
    → IsCode F C.columns (InTrace H F) T → IsWord F C.columns w → InDual T w ↔ InSubfieldSubcode C F w
subcode_dual C H T F w s t r o d c word =
    let K = C.field in
    let n = C.columns in
    let x = map (embed F K) w in
    let xw : IsWord K n x = embedded_word F K n w word in
    let dots : (h v : List ℕ) → IsWord K n h → IsTraceWord F K h v → IsTrace F K (word_dot K x h) (word_dot F w v) = λ h v a p.
    dot_trace F K w h v s t word.fits a.fits (word.long ∙ sym a.long) p in
    let over : (h v : List ℕ) → IsTraceWord F H.field h v ↔ IsTraceWord F K h v = λ h v.
    ((λ p. subst (λ g. IsTraceWord F g h v) d.over p), (λ p. subst (λ g. IsTraceWord F g h v) (sym d.over) p)) in (
      -- each multiple of the dot with a word of H has trace 0
      (λ q. (dual_orthogonal C H x r o d xw).0 (λ k e l.
          let h = slice_index_or H.rows k e in
          let i : IsWord K n h = d.generator.words k e l in
          let inside : InCode H h = span_of_member H.field H.columns H.rows h (rows_over H K n d.over d.length_is d.generator.words) (Contains-get_or H.rows k e l) in
          dot_comm K h x ∙ trace_told F K (word_dot K x h) s t (dot_inside K x h) (λ y m.
          let u = scale K y h in
          let a : IsWord K n u = IsWord_scale K n y h i.long in
          let (v, p) = word_exists F K u s t a.fits in
          let b : InCode H u = subst (λ g. InCode H (scale g y h)) d.over (span_scale H.field H.columns H.rows y h inside) in
          let there : InCode T v = (told F n (InTrace H F) T v c).1 (word_inside F K n u v a.long p, (u, b, (over u v).1 p)) in
          let zero : word_dot F w v ≡ 0 = dot_comm F w v ∙ subst (λ g. word_dot g v w ≡ 0) c.over (q v there) in
          subst (λ z. IsTrace F K z 0) (dot_scale K y x h) (subst (IsTrace F K (word_dot K x u)) zero (dots u v a p))))),
      (λ i v j.
          let (vw, (h, b, p)) = (told F n (InTrace H F) T v c).0 j in
          let hd = (told K n (InDual C) H h d).0 b in
          let e : word_dot K x h ≡ 0 = hd.1 x i in
          let z : IsTrace F K 0 (word_dot F w v) = subst (λ a. IsTrace F K a (word_dot F w v)) e (dots h v hd.0 ((over h v).0 p)) in
          subst (λ g. word_dot g v w ≡ 0) (sym c.over) (dot_comm F v w ∙ trace_once F K 0 (word_dot F w v) 0 t z (trace_zero F K s t))),
    )
  where
    rows_over : (H : Matrix) (K : FieldName) (n : ℕ) → H.field ≡ K → H.columns ≡ n → AreRows K n H.rows → AreRows H.field H.columns H.rows
    rows_over H K n a b r = subst (λ m. AreRows H.field m H.rows) (sym b) (subst (λ g. AreRows g n H.rows) (sym a) r)

pub subcode_code : (C H T E : Matrix) (F : FieldName) → IsTrue (is_symbol C.field) → IsSubfield F C.field → AreRows C.field C.columns C.rows → IsReduced C.columns C.rows → IsCode C.field C.columns (InDual C) H
    → IsCode F C.columns (InTrace H F) T → IsCode T.field T.columns (InDual T) E → IsCode F C.columns (InSubfieldSubcode C F) E
subcode_code C H T E F s t r o d c e =
    same_code F C.columns (InDual T) (InSubfieldSubcode C F) E (λ w word. subcode_dual C H T F w s t r o d c word)
    (subst (λ m. IsCode F m (InDual T) E) c.length_is (subst (λ g. IsCode g T.columns (InDual T) E) c.over e))

-- the dual's field and length are those of C
pub subcode_told : (C H T E : Matrix) (F : FieldName) → IsTrue (is_symbol C.field) → IsSubfield F C.field → AreRows C.field C.columns C.rows → IsReduced C.columns C.rows → IsCode C.field C.columns (InDual C) H
    → IsCode F H.columns (InTrace H F) T → IsCode T.field T.columns (InDual T) E → IsCode F C.columns (InSubfieldSubcode C F) E
subcode_told C H T E F s t r o d c e = subcode_code C H T E F s t r o d (subst (λ m. IsCode F m (InTrace H F) T) d.length_is c) e

-- S is the subfield subcode of C
pub delsarte : (C H S T : Matrix) (F : FieldName) → IsTrue (is_symbol C.field) → IsSubfield F C.field → AreRows C.field C.columns C.rows → IsReduced C.columns C.rows → IsCode C.field C.columns (InDual C) H
    → IsCode F C.columns (InSubfieldSubcode C F) S → IsCode F C.columns (InTrace H F) T → IsCode F C.columns (InDual S) T
delsarte C H S T F s t r o d e c =
    let n = C.columns in
    let dual : IsCode F n (InDual T) S = same_code F n (InSubfieldSubcode C F) (InDual T) S (λ w word. let p = subcode_dual C H T F w s t r o d c word in (p.1, p.0)) e in
    let back : IsCode T.field T.columns (InDual T) S = subst (λ m. IsCode T.field m (InDual T) S) (sym c.length_is) (subst (λ g. IsCode g n (InDual T) S) (sym c.over) dual) in
    let rows : AreRows T.field T.columns T.rows = subst (λ m. AreRows T.field m T.rows) (sym c.length_is) (subst (λ g. AreRows g n T.rows) (sym c.over) c.generator.words) in
    let reduced : IsReduced T.columns T.rows = subst (λ m. IsReduced m T.rows) (sym c.length_is) c.generator.reduced in
    let checks : AreRows S.field S.columns S.rows = subst (λ m. AreRows S.field m S.rows) (sym e.length_is) (subst (λ g. AreRows g n S.rows) (sym e.over) e.generator.words) in
    same_code F n (InTrace H F) (InDual S) T
    (λ w word.
    let orthogonal = orthogonal_dual S w checks in
    let fields : S.field ≡ T.field = e.over ∙ sym c.over in
    let twice = dual_orthogonal T S w rows reduced back (subst (λ m. IsWord T.field m w) (sym c.length_is) (subst (λ g. IsWord g n w) (sym c.over) word)) in
    let in_code = told F n (InTrace H F) T w c in (
      (λ p. orthogonal.0 (subst (λ g. IsOrthogonal g S.rows w) (sym fields) (twice.1 (in_code.1 (word, p))))),
      (λ q. (in_code.0 (twice.0 (subst (λ g. IsOrthogonal g S.rows w) fields (orthogonal.1 q)))).1),
    ))
    c

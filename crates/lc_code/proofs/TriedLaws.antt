-- A word is tried against a code by clearing it where the rows begin.
--   begins, begins_at  a row begins at its place
--   tried_first        the word itself, before any row
--   tried_more         one row more
--   tried_last         after all rows the word is in the code exactly where nothing is left
use Rattle.std.proofs.Common.{◌≡◌, ℕ, ◌+◌, ◌<◌, ◌↔◌, IsTrue, not, ◌==◌, List, [], length, slice_index, slice_index_or, Some, refl, sym, ap, subst, ◌∙◌, ⊎_elim, arith, lt-ltb}
use Rattle.std.specs.List.{position_or_len}
use Rattle.std.proofs.lemmas.List.Sums.{position_or_len_is}
use Rattle.std.proofs.lemmas.Bool.{cases_lt}
use Rattle.std.proofs.lemmas.Bool.Decides.{Decides-eqb}
use Rattle.lc_algebra.specs.declared.FieldName.{FieldName}
use Rattle.lc_algebra.specs.Field.{neg}
use Rattle.lc_algebra.specs.Word.{IsWord, zero_word, word_sum, scale, weight, first_nonzero}
use Rattle.lc_algebra.specs.Span.{InSpan}
use Rattle.lc_algebra.specs.Matrix.{Matrix, AreRows, HasPivots}
use Rattle.lc_algebra.proofs.FieldLaws.{add_neg, add_zero, mul_one, mul_zero, neg_inside, zero_inside}
use Rattle.lc_algebra.proofs.WordLaws.{index_word_sum, index_scale, index_zero_word, length_scale, IsWord_sum, multiple_undone, zero_from_weight, weight_zero_word}
use Rattle.lc_algebra.proofs.SpanLaws.{span_zero, span_sum, span_scale, span_row}
use Rattle.lc_algebra.proofs.ReducedLaws.{reduced_told}
use Rattle.lc_constructions.specs.Code.{InCode}
use Rattle.lc_code.specs.Kept.{IsKept, IsCleared, IsTried}

begins : (f : FieldName) (n : ℕ) (ps : List ℕ) (rows : List (List ℕ)) (i : ℕ) → AreRows f n rows → HasPivots n ps rows → i < length rows → first_nonzero (slice_index_or rows i []) ≡ Some (slice_index ps i)
begins f n ps rows i r h l =
    let row = slice_index_or rows i [] in
    let q = slice_index ps i in
    let b : q < length row = omega (arith, h.inside i (omega (arith, l, h.count)), (r i [] l).long) in
    let e : position_or_len (λ a. not (a == 0)) row ≡ q = position_or_len_is (λ a. not (a == 0)) row q 0 (omega (arith, b)) (λ k m. ap (λ a. not (a == 0)) (h.before i k l m)) (λ _. ap (λ a. not (a == 0)) (h.leads i l)) in
    rw e (rw (lt-ltb q (length row) b) refl)

begins_at : (f : FieldName) (n : ℕ) (ps : List ℕ) (rows : List (List ℕ)) (i p : ℕ) → AreRows f n rows → HasPivots n ps rows → i < length rows → first_nonzero (slice_index_or rows i []) ≡ Some p → p ≡ slice_index ps i
begins_at f n ps rows i p r h l e =
    let t : Some p ≡ Some (slice_index ps i) = sym e ∙ begins f n ps rows i r h l in
    cc t

pub tried_first : (C : Matrix) (word : List ℕ) → IsWord C.field C.columns word → IsTried C 0 word word
tried_first C word w = record { fits = w; same = ((λ s. s), (λ s. s)); clear = λ j p l e. absurd (omega (arith, l)) }

-- the symbols after a step
cleared_here : (f : FieldName) (n : ℕ) (old row : List ℕ) (q : ℕ) → IsWord f n old → IsWord f n row → slice_index row q ≡ 1 → slice_index (word_sum f old (scale f (neg f (slice_index old q)) row)) q ≡ 0
cleared_here f n old row q w r o =
    let a = slice_index old q in
    let e : length old ≡ length (scale f (neg f a) row) = w.long ∙ sym r.long ∙ sym (length_scale f (neg f a) row) in
    cc (index_word_sum f old (scale f (neg f a) row) q e, index_scale f (neg f a) row q, o, mul_one f (neg f a) (neg_inside f a), add_neg f a)

cleared_there : (f : FieldName) (n c : ℕ) (old row : List ℕ) (p : ℕ) → IsWord f n old → IsWord f n row → slice_index row p ≡ 0 → slice_index old p ≡ 0 → slice_index (word_sum f old (scale f c row)) p ≡ 0
cleared_there f n c old row p w r o z =
    let e : length old ≡ length (scale f c row) = w.long ∙ sym r.long ∙ sym (length_scale f c row) in
    cc (index_word_sum f old (scale f c row) p e, index_scale f c row p, o, z, mul_zero f c, add_zero f 0 (zero_inside f))

-- a word less a multiple of a row is in the span exactly where the word is
same_cleared : (f : FieldName) (n c : ℕ) (rows : List (List ℕ)) (old row : List ℕ) → IsWord f n old → IsWord f n row → InSpan f n rows row → InSpan f n rows old ↔ InSpan f n rows (word_sum f old (scale f c row))
same_cleared f n c rows old row w r s = (
  (λ t. span_sum f n rows old (scale f c row) t (span_scale f n rows c row s)),
  (λ t. subst (InSpan f n rows) (multiple_undone f n c old row w r.long) (span_sum f n rows (word_sum f old (scale f c row)) (scale f (neg f c) row) t (span_scale f n rows (neg f c) row s))),
)

tried_sum : (C : Matrix) (ps : List ℕ) (i : ℕ) (word old : List ℕ) → IsKept C → HasPivots C.columns ps C.rows → i < length C.rows → IsTried C i word old → IsTried C (i + 1) word (word_sum C.field old (scale C.field (neg C.field (slice_index old (slice_index ps i))) (slice_index_or C.rows i [])))
tried_sum C ps i word old k h l t =
    let f = C.field in
    let row = slice_index_or C.rows i [] in
    let q = slice_index ps i in
    let c = neg f (slice_index old q) in
    let r : IsWord f C.columns row = k.words i [] l in
    let s : InCode C old ↔ InCode C (word_sum f old (scale f c row)) = same_cleared f C.columns c C.rows old row t.fits r (span_row f C.columns C.rows k.words i [] l) in
    record {
      fits = IsWord_sum f C.columns old (scale f c row) t.fits.long (length_scale f c row ∙ r.long);
      same = ((λ m. s.0 (t.same.0 m)), (λ m. t.same.1 (s.1 m)));
      clear = λ j p m e.
          let b : j < length C.rows = omega (arith, m, l) in
          let a : p ≡ slice_index ps j = begins_at f C.columns ps C.rows j p k.words h b e in
          ⊎_elim
          (λ x. cleared_there f C.columns c old row p t.fits r (ap (slice_index row) a ∙ h.clears j i b l (λ y. omega (arith, x, y))) (t.clear j p x e))
          (λ x.
          let y : j ≡ i = omega (arith, x, m) in
          let z : p ≡ q = a ∙ ap (slice_index ps) y in
          ap (slice_index (word_sum f old (scale f c row))) z ∙ cleared_here f C.columns old row q t.fits r (h.leads i l))
          (cases_lt j i);
    }

pub tried_more : (C : Matrix) (i : ℕ) (word old new : List ℕ) → IsKept C → i < length C.rows → IsTried C i word old → IsCleared C i old new → IsTried C (i + 1) word new
tried_more C i word old new k l t s =
    let ps = k.reduced.pivots.0 in
    let h : HasPivots C.columns ps C.rows = k.reduced.pivots.1 in
    subst (IsTried C (i + 1) word) (sym (s (slice_index ps i) (begins C.field C.columns ps C.rows i k.words h l))) (tried_sum C ps i word old k h l t)

nothing_left : (C : Matrix) (word rest : List ℕ) → IsKept C → IsTried C (length C.rows) word rest → InCode C rest → rest ≡ zero_word C.columns
nothing_left C word rest k t s =
    let f = C.field in
    let ps = k.reduced.pivots.0 in
    let h : HasPivots C.columns ps C.rows = k.reduced.pivots.1 in
    reduced_told f C.columns ps C.rows rest (zero_word C.columns) k.words h s (span_zero f C.columns C.rows k.words) (λ i l.
    let m : i < length C.rows = omega (arith, l, h.count) in
    t.clear i (slice_index ps i) m (begins f C.columns ps C.rows i k.words h m) ∙ sym (index_zero_word C.columns (slice_index ps i)))

pub tried_last : (C : Matrix) (i : ℕ) (word rest : List ℕ) → IsKept C → i ≡ length C.rows → IsTried C i word rest → IsTrue (weight rest == 0) ↔ InCode C word
tried_last C i word rest k e s =
    let t : IsTried C (length C.rows) word rest = subst (λ j. IsTried C j word rest) e s in (
      (λ z.
          let a : rest ≡ zero_word C.columns = zero_from_weight C.columns rest t.fits.long ((Decides-eqb (weight rest) 0).0 z) in
          t.same.1 (subst (InCode C) (sym a) (span_zero C.field C.columns C.rows k.words))),
      (λ m.
          let a : rest ≡ zero_word C.columns = nothing_left C word rest k t (t.same.0 m) in
          (Decides-eqb (weight rest) 0).1 (ap weight a ∙ weight_zero_word C.columns)),
    )

pub ruleset contains_laws = (tried_first, tried_more, tried_last)

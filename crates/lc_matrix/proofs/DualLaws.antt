-- The words that have dot 0 with the rows of a kernel are combinations of the rows: a code is the dual of its dual (MacWilliams and
-- Sloane, chapter 1).
--   rising_apart           a rising list has no entry twice
--   kernel_at, free_turned the kernel words are rows with the free columns as places, and the places are the columns free of these
--   row_is_kernel_word     reduced rows are the kernel words of their kernel words
--   orthogonal_to_kernel   the words that have dot 0 with the rows of the kernel
use Rattle.std.proofs.Common.{◌≡◌, ◌≢◌, ℕ, ◌<◌, ◌↔◌, inl, inr, List, [], length, slice_index, slice_index_or, sym, ap, ◌∙◌, ⊎_elim, arith}
use Rattle.std.proofs.lemmas.Bool.{cases_lt}
use Rattle.std.proofs.lemmas.List.Elements.{All-from_get_or}
use Rattle.lc_algebra.specs.declared.FieldName.{FieldName}
use Rattle.lc_algebra.specs.Field.{neg}
use Rattle.lc_algebra.specs.Word.{IsWord, word_dot}
use Rattle.lc_algebra.specs.Span.{InSpan}
use Rattle.lc_algebra.specs.Matrix.{entry, AreRows, HasPivots, IsReduced, IsReducedGenerator, IsOrthogonal}
use Rattle.lc_algebra.proofs.FieldLaws.{neg_neg}
use Rattle.lc_algebra.proofs.WordLaws.{dot_comm, word_symbol}
use Rattle.lc_algebra.proofs.SpanLaws.{span_row, dot_span}
use Rattle.lc_algebra.proofs.ReducedLaws.{reduced_at_most}
use Rattle.lc_matrix.specs.Kernel.{IsFree, IsKernelWord, AreKernelWords}
use Rattle.lc_matrix.proofs.PlaceLaws.{past_end}
use Rattle.lc_matrix.proofs.KernelLaws.{IsReducedAt, kernel_rows, kernel_orthogonal, kernel_whole}
use Rattle.lc_matrix.proofs.RankLaws.{at_of_pivots, free_made, words_made}

rising_apart : (xs : List ℕ) → ((i k : ℕ) → i < k → k < length xs → slice_index xs i < slice_index xs k) → (i j : ℕ) → i < length xs → j < length xs → i ≢ j → slice_index xs i ≢ slice_index xs j
rising_apart xs r i j l m o e =
    ⊎_elim
    (λ t. omega (arith, r i j t m, e))
    (λ t. omega (arith, r j i (omega (arith, t, o)) l, e))
    (cases_lt i j)

kernel_at : (f : FieldName) (n : ℕ) (ps : List ℕ) (rows : List (List ℕ)) (free : List ℕ) (kernel : List (List ℕ)) → IsFree ps n free → AreKernelWords f n ps rows free (length free) kernel → IsReducedAt n free kernel
kernel_at f n ps rows free kernel o h = record {
  at_most = omega (arith, h.count);
  inside = o.inside;
  leads = λ i l. (h.words i l).one;
  clears = λ i j l m d.
      let k : j < length free = omega (arith, m, h.count) in
      (h.words j k).others (slice_index free i) (rising_apart free o.rises i j l k d) (λ t x. o.apart i t l x);
  below = λ j c l m k. absurd (omega (arith, l, m, h.count));
}

free_turned : (n : ℕ) (ps : List ℕ) (rows : List (List ℕ)) (free : List ℕ) → IsReduced n rows → HasPivots n ps rows → IsFree ps n free → IsFree free n ps
free_turned n ps rows free r h o = record {
  at_most = omega (arith, reduced_at_most n rows r, h.count);
  inside = h.inside;
  rises = h.rises;
  apart = λ i k l m e. o.apart k i m l (sym e);
  whole = λ c l. ⊎_elim (λ t. inr t) (λ t. inl t) (o.whole c l);
}

row_is_kernel_word : (f : FieldName) (n : ℕ) (ps : List ℕ) (rows : List (List ℕ)) (free : List ℕ) (kernel : List (List ℕ)) (k : ℕ) → AreRows f n rows → HasPivots n ps rows → IsFree ps n free → AreKernelWords f n ps rows free (length free) kernel → k < length ps → IsKernelWord f n free kernel (slice_index ps k) (length free) (slice_index_or rows k [])
row_is_kernel_word f n ps rows free kernel k r h o u l =
    let m : k < length rows = omega (arith, l, h.count) in
    let w : IsWord f n (slice_index_or rows k []) = r k [] m in
    record {
      word = w;
      one = h.leads k m;
      places = λ i x. sym (ap (neg f) ((u.words i x).places k l) ∙ neg_neg f (entry rows k (slice_index free i)) (word_symbol f n (slice_index_or rows k []) w (slice_index free i)));
      others = λ c d e. ⊎_elim
          (λ t. ⊎_elim
          (λ s. let differs : s.0 ≢ k = λ q. d (sym s.2 ∙ ap (slice_index ps) q) in ap (entry rows k) (sym s.2) ∙ h.clears s.0 k (omega (arith, s.1, h.count)) m differs)
          (λ s. absurd (e s.0 s.1 s.2))
          (o.whole c t))
          (λ t. past_end (slice_index_or rows k []) c (omega (arith, w.long, t)))
          (cases_lt c n);
    }

pub orthogonal_to_kernel : (f : FieldName) (n : ℕ) (rows checks : List (List ℕ)) (w : List ℕ) → AreRows f n rows → IsReduced n rows → IsReducedGenerator f n (IsOrthogonal f rows) checks → IsWord f n w → IsOrthogonal f checks w ↔ InSpan f n rows w
orthogonal_to_kernel f n rows checks w r reduced g word = (
  (λ orth.
      let ps = reduced.pivots.0 in
      let h = reduced.pivots.1 in
      let b = at_of_pivots n ps rows h in
      let (free, o) = free_made ps n in
      let (kernel, u) = words_made f n ps rows free b o (length free) (omega arith) in
      let ks : AreRows f n kernel = kernel_rows f n ps rows free kernel u in
      let meets : IsOrthogonal f kernel w = All-from_get_or (λ v. word_dot f v w ≡ 0) kernel [] (λ j m.
      let a : j < length free = omega (arith, m, u.count) in
      let v = slice_index_or kernel j [] in
      let dots : IsOrthogonal f rows v = All-from_get_or (λ row. word_dot f row v ≡ 0) rows [] (λ i l. kernel_orthogonal f n (slice_index free j) i ps rows v r b (o.inside j a) (λ t x. o.apart j t a x) (u.words j a) l) in
      dot_span f n checks w v g.words orth ((g.members v).1 (ks j [] m, dots))) in
      kernel_whole f n free kernel ps rows w ks (kernel_at f n ps rows free kernel o u) (free_turned n ps rows free reduced h o) (record { count = sym h.count; words = λ k l. row_is_kernel_word f n ps rows free kernel k r h o u l }) word meets),
  (λ s. All-from_get_or (λ row. word_dot f row w ≡ 0) checks [] (λ i l.
      let v = slice_index_or checks i [] in
      dot_comm f v w ∙ dot_span f n rows v w r ((g.members v).0 (span_row f n checks g.words i [] l)).1 s)),
)

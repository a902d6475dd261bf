-- The rank of a kernel. Each free column has a kernel word, they are the identity on the free columns, and the free columns are as
-- many as the columns less the rows.
--   at_of_pivots           reduced rows are rows with places
--   free_made, word_made, words_made       there are free columns, and their kernel words
--   count_free             there are n less the number of places of them
--   rank_of_kernel         so the kernel has n less the rank rows
use Rattle.std.proofs.Common.{◌≡◌, ◌≢◌, ℕ, zero, suc, ◌+◌, ◌<◌, ◌≤◌, List, [], ◌∷◌, ◌++◌, length, set, slice_index, refl, sym, subst, ◌∙◌, ⊎_elim, arith}
use Rattle.std.proofs.lemmas.List.{length-append}
use Rattle.std.proofs.lemmas.List.Elements.{Contains-append_left, Contains-append_right, Contains-append_cases}
use Rattle.lc_algebra.specs.declared.FieldName.{FieldName}
use Rattle.lc_algebra.specs.Field.{neg}
use Rattle.lc_algebra.specs.Word.{zero_word}
use Rattle.lc_algebra.specs.Span.{below, SameSpan}
use Rattle.lc_algebra.specs.Matrix.{entry, AreRows, HasPivots, IsEchelon, IsReducedGenerator, IsOrthogonal}
use Rattle.lc_algebra.proofs.SpanLaws.{contains_below, below_contains, length_below}
use Rattle.lc_algebra.proofs.ReducedLaws.{independent_by_places, reduced_independent}
use Rattle.lc_algebra.proofs.DimensionLaws.{AreDistinct, distinct_append, distinct_below, distinct_at_most, dimension_unique}
use Rattle.lc_matrix.specs.Kernel.{IsFree, IsKernelWord, AreKernelWords}
use Rattle.lc_matrix.proofs.PlaceLaws.{place_at, at_place, distinct_rising}
use Rattle.lc_matrix.proofs.KernelLaws.{IsReducedAt, held, free_none, free_held, free_pushed, kernel_word_none, kernel_word_at, words_none, words_more, kernel_rows, kernel_identity, kernel_members}

pub at_of_pivots : (n : ℕ) (ps : List ℕ) (e : List (List ℕ)) → HasPivots n ps e → IsReducedAt n ps e
at_of_pivots n ps e h = record {
  at_most = omega (arith, h.count);
  inside = h.inside;
  leads = λ i l. h.leads i (omega (arith, l, h.count));
  clears = λ i j l m o. h.clears i j (omega (arith, l, h.count)) m o;
  below = λ j c l m k. absurd (omega (arith, l, m, h.count));
}

pub free_made : (ps : List ℕ) (n : ℕ) → (free : List ℕ) × IsFree ps n free
free_made ps zero = ([], free_none ps)
free_made ps (suc n) =
    let t = free_made ps n in
    let e : n + 1 ≡ suc n = omega arith in
    ⊎_elim
    (λ k. (t.0, subst (λ m. IsFree ps m t.0) e (free_held ps t.0 n k.0 t.1 k.1 k.2)))
    (λ k. (t.0 ++ n ∷ [], subst (λ m. IsFree ps m (t.0 ++ n ∷ [])) e (free_pushed ps t.0 n t.1 k)))
    (held ps n)

word_made : (f : FieldName) (n j : ℕ) (ps : List ℕ) (rows : List (List ℕ)) → IsReducedAt n ps rows → j < n → ((k : ℕ) → k < length ps → slice_index ps k ≢ j) → (i : ℕ) → i ≤ length ps → (w : List ℕ) × IsKernelWord f n ps rows j i w
word_made f n j ps rows b l o zero m = (set (zero_word n) j 1, kernel_word_none f n j ps rows (set (zero_word n) j 1) l refl)
word_made f n j ps rows b l o (suc i) m =
    let t = word_made f n j ps rows b l o i (omega (arith, m)) in
    let a = neg f (entry rows i j) in
    let w = set t.0 (slice_index ps i) a in
    let e : i + 1 ≡ suc i = omega arith in
    (w, subst (λ k. IsKernelWord f n ps rows j k w) e (kernel_word_at f n j i a ps rows t.0 w b t.1 m o refl refl))

pub words_made : (f : FieldName) (n : ℕ) (ps : List ℕ) (rows : List (List ℕ)) (free : List ℕ) → IsReducedAt n ps rows → IsFree ps n free → (i : ℕ) → i ≤ length free → (kernel : List (List ℕ)) × AreKernelWords f n ps rows free i kernel
words_made f n ps rows free b o zero m = ([], words_none f n ps rows free [] refl)
words_made f n ps rows free b o (suc i) m =
    let t = words_made f n ps rows free b o i (omega (arith, m)) in
    let w = word_made f n (slice_index free i) ps rows b (o.inside i m) (λ k l. o.apart i k m l) (length ps) (omega arith) in
    let new = t.0 ++ w.0 ∷ [] in
    let e : i + 1 ≡ suc i = omega arith in
    (new, subst (λ k. AreKernelWords f n ps rows free k new) e (words_more f n i ps rows free t.0 new w.0 t.1 w.1 refl))

count_free : (n : ℕ) (ps : List ℕ) (e : List (List ℕ)) (free : List ℕ) → HasPivots n ps e → IsFree ps n free → length free + length ps ≡ n
count_free n ps e free h o =
    let d : AreDistinct (free ++ ps) = distinct_append free ps (distinct_rising free o.rises) (distinct_rising ps h.rises) (λ x c t. o.apart c.0 t.0 c.1 t.1 (place_at ps x t ∙ sym (place_at free x c))) in
    let a : length (free ++ ps) ≤ length (below n) = distinct_at_most (free ++ ps) (below n) d (λ x c. below_contains n x (⊎_elim (λ t. omega (arith, o.inside t.0 t.1, place_at free x t)) (λ t. omega (arith, h.inside t.0 t.1, place_at ps x t)) (Contains-append_cases free ps x c))) in
    let b : length (below n) ≤ length (free ++ ps) = distinct_at_most (below n) (free ++ ps) (distinct_below n) (λ x c. ⊎_elim (λ z. Contains-append_right free ps x (at_place ps z.0 x z.1 z.2)) (λ z. Contains-append_left free ps x (at_place free z.0 x z.1 z.2)) (o.whole x (contains_below n x c))) in
    omega (arith, a, b, length-append free ps, length_below n)

pub rank_of_kernel : (f : FieldName) (n : ℕ) (rows e k : List (List ℕ)) → AreRows f n rows → IsEchelon f n rows e → IsReducedGenerator f n (IsOrthogonal f rows) k → length k + length e ≡ n
rank_of_kernel f n rows e k r p q =
    let ps = p.reduced.pivots.0 in
    let h = p.reduced.pivots.1 in
    let b = at_of_pivots n ps e h in
    let t = free_made ps n in
    let free = t.0 in
    let u = words_made f n ps e free b t.1 (length free) (omega arith) in
    let ks = u.0 in
    let same : SameSpan f n ks k = λ w.
    let m = kernel_members f n ps rows e free ks w r p.words p.same b t.1 u.1 in
    ((λ x. (q.members w).1 (m.0 x)), (λ x. m.1 ((q.members w).0 x))) in
    let words : AreRows f n ks = kernel_rows f n ps e free ks u.1 in
    let l : length ks ≡ length k = dimension_unique f n ks k words q.words (independent_by_places f n free ks words u.1.count (kernel_identity f n ps e free ks t.1 u.1)) (reduced_independent f n k q.words q.reduced) same in
    omega (arith, l, u.1.count, count_free n ps e free h t.1, h.count)

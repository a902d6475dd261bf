-- A system of t equations in t + 1 unknowns with right sides 0 has a solution that isn't 0 (any textbook of linear algebra).
--   restrict_whole         a word restricted to all its coordinates is the word
--   kernel_found           at most t columns of t symbols are independent, so the kernel of t rows of t + 1 symbols has a row
use Rattle.std.proofs.Common.{◌≡◌, ℕ, ◌+◌, ◌<◌, List, [], ◌∷◌, length, map, slice_index_or, get_or, sym, ap, subst, ◌∙◌, arith}
use Rattle.std.proofs.lemmas.List.{ext_get_or, length-map}
use Rattle.std.proofs.lemmas.List.Elements.{All-map}
use Rattle.lc_algebra.specs.declared.FieldName.{FieldName}
use Rattle.lc_algebra.specs.Word.{IsWord, zero_word, word_dot}
use Rattle.lc_algebra.specs.Span.{below}
use Rattle.lc_algebra.specs.Matrix.{column, AreRows, IsReducedGenerator, IsOrthogonal, AreIndependentColumns}
use Rattle.lc_algebra.specs.SpanLaws.{restrict}
use Rattle.lc_algebra.proofs.WordLaws.{dot_comm}
use Rattle.lc_algebra.proofs.SpanLaws.{length_below}
use Rattle.lc_algebra.proofs.ColumnLaws.{length_restrict, index_restrict, column_word, columns_from_relation}
use Rattle.lc_algebra.proofs.DimensionLaws.{independent_few}
use Rattle.lc_matrix.proofs.PlaceLaws.{index_below}

restrict_whole : (f : FieldName) (n : ℕ) (row : List ℕ) → IsWord f n row → restrict (below n) row ≡ row
restrict_whole f n row h =
    let e : length (restrict (below n) row) ≡ n = length_restrict (below n) row ∙ length_below n in
    ext_get_or 0 (restrict (below n) row) row (e ∙ sym h.long) (λ i l.
    let k : i < n = omega (arith, l, e) in
    index_restrict (below n) row i (omega (arith, k, length_below n)) ∙ ap (λ c. get_or row c 0) (index_below n i k))

pub kernel_found : (f : FieldName) (t : ℕ) (rows k : List (List ℕ)) → AreRows f (t + 1) rows → length rows ≡ t → IsReducedGenerator f (t + 1) (IsOrthogonal f rows) k → 0 < length k
kernel_found f t rows (g ∷ k) r e h = omega arith
kernel_found f t rows [] r e h =
    let n = t + 1 in
    let set = below n in
    let long : length set ≡ n = length_below n in
    let apart : AreIndependentColumns f rows set = columns_from_relation f n rows set r (λ xs w s.
    let orthogonal : IsOrthogonal f rows xs = λ j d l. dot_comm f (slice_index_or rows j d) xs ∙ sym (ap (word_dot f xs) (restrict_whole f n (slice_index_or rows j d) (r j d l))) ∙ s j d l in
    (h.members xs).1 (subst (λ m. IsWord f m xs) long w, orthogonal) ∙ ap zero_word (sym long)) in
    let columns : AreRows f (length rows) (map (column rows) set) = All-map (IsWord f (length rows)) (column rows) set (λ j d l. column_word f n rows (slice_index_or set j d) r) in
    absurd (omega (arith, independent_few f (length rows) (map (column rows) set) columns apart, length-map set (column rows), long, e))

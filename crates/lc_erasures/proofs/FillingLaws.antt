-- What the equations tell of the codewords that agree with a word off its erasures.
--   fills_message          the message of such a codeword is a solution
--   filled_message         the codeword of a solution is such a codeword
--   no_message             no solution: there is none
--   sum_differs            a sum with a word is another word if that word is not zero
--   two_messages           a word other than zero that is orthogonal to each equation: there are two
--   one_message            no such word: the codeword of a solution is the only one
--   unfilled_told, ambiguous_told, filled_told      the same of a matrix of the equations and its kernel
use Rattle.std.proofs.Common.{◌≡◌, ◌≢◌, ℕ, ◌<◌, ◌↔◌, List, [], ◌∷◌, length, slice_index, slice_index_or, Some, None, IsSome, Option, IfSome, true≢false, refl, sym, ap, subst, ◌∙◌, arith}
use Rattle.lc_algebra.specs.declared.FieldName.{FieldName}
use Rattle.lc_algebra.specs.Field.{neg}
use Rattle.lc_algebra.specs.Word.{IsWord, zero_word, word_sum, scale, difference}
use Rattle.lc_algebra.specs.Span.{combine, InSpan}
use Rattle.lc_algebra.specs.Matrix.{Matrix, AreRows, IsReduced, IsReducedGenerator, IsOrthogonal}
use Rattle.lc_algebra.proofs.WordLaws.{index_zero_word, sum_assoc, sum_negative, sum_zero, IsWord_sum, IsWord_difference, same_from_difference}
use Rattle.lc_algebra.proofs.SpanLaws.{combination_of_word, word_of_combination, length_combine, coefficients_unique, span_row}
use Rattle.lc_algebra.proofs.ReducedLaws.{reduced_independent}
use Rattle.lc_matrix.specs.Solve.{Solves}
use Rattle.lc_language.specs.Erasures.{Fills, filled, unfilled, ambiguous, IsFilling}
use Rattle.lc_erasures.specs.System.{IsSystem}
use Rattle.lc_erasures.proofs.SystemLaws.{solves_difference, solves_sum}

pub fills_message : (C : Matrix) (x erased : List ℕ) (columns : List (List ℕ)) (symbols u : List ℕ) → IsWord C.field C.columns x
    → IsSystem C x erased C.columns columns symbols → IsWord C.field (length C.rows) u → Fills C x erased (combine C.field C.columns u C.rows) → Solves C.field columns symbols u
fills_message C x erased columns symbols u w h word (inside, agrees) = (h.solved u word).1 (λ i l n. agrees.agrees i (omega (arith, l, w.long)) n)

pub filled_message : (C : Matrix) (x erased : List ℕ) (columns : List (List ℕ)) (symbols u : List ℕ) → AreRows C.field C.columns C.rows → IsWord C.field C.columns x
    → IsSystem C x erased C.columns columns symbols → IsWord C.field (length C.rows) u → Solves C.field columns symbols u → Fills C x erased (combine C.field C.columns u C.rows)
filled_message C x erased columns symbols u r w h word s = (
  word_of_combination C.field C.columns C.rows u word,
  record {
    long = length_combine C.field C.columns u C.rows r ∙ sym w.long;
    agrees = λ i l n. (h.solved u word).0 s i (omega (arith, l, w.long)) n;
  },
)

pub no_message : (C : Matrix) (x erased : List ℕ) (columns : List (List ℕ)) (symbols : List ℕ) → IsWord C.field C.columns x
    → IsSystem C x erased C.columns columns symbols → ((u : List ℕ) → IsWord C.field (length C.rows) u → Solves C.field columns symbols u → ⊥) → IsFilling C x erased unfilled
no_message C x erased columns symbols w h none v (inside, agrees) =
    let (u, word, is) = combination_of_word C.field C.columns C.rows v inside in
    none u word (fills_message C x erased columns symbols u w h word (subst (Fills C x erased) is (inside, agrees)))

pub sum_differs : (f : FieldName) (k : ℕ) (e u : List ℕ) → IsWord f k e → IsWord f k u → word_sum f e u ≡ u → e ≡ zero_word k
unfolding difference
sum_differs f k e u a b same =
    let back : word_sum f (word_sum f e u) (scale f (neg f 1) u) ≡ e =
    sum_assoc f e u (scale f (neg f 1) u) ∙ ap (word_sum f e) (sum_negative f k u b.long) ∙ sum_zero f k e a in
    sym back ∙ ap (λ v. word_sum f v (scale f (neg f 1) u)) same ∙ sum_negative f k u b.long

pub two_messages : (C : Matrix) (x erased : List ℕ) (columns : List (List ℕ)) (symbols u e : List ℕ) → AreRows C.field C.columns C.rows → IsReduced C.columns C.rows → IsWord C.field C.columns x
    → IsSystem C x erased C.columns columns symbols → IsWord C.field (length C.rows) u → Solves C.field columns symbols u
    → IsWord C.field (length C.rows) e → e ≢ zero_word (length C.rows) → IsOrthogonal C.field columns e → IsFilling C x erased ambiguous
two_messages C x erased columns symbols u e r p w h word s other nonzero o =
    let f = C.field in
    let n = C.columns in
    let k = length C.rows in
    let v = word_sum f e u in
    let sum : IsWord f k v = IsWord_sum f k e u other.long word.long in
    let t : Solves f columns symbols v = solves_sum f columns symbols e u (other.long ∙ sym word.long) o s in (
      combine f n v C.rows,
      (
        combine f n u C.rows,
        filled_message C x erased columns symbols v r w h sum t,
        filled_message C x erased columns symbols u r w h word s,
        λ same. nonzero (sum_differs f k e u other word (coefficients_unique f n C.rows v u r (reduced_independent f n C.rows r p) sum word same)),
      ),
    )

pub one_message : (C : Matrix) (x erased : List ℕ) (columns : List (List ℕ)) (symbols u : List ℕ) → AreRows C.field C.columns C.rows → IsWord C.field C.columns x
    → IsSystem C x erased C.columns columns symbols → IsWord C.field (length C.rows) u → Solves C.field columns symbols u
    → ((e : List ℕ) → IsWord C.field (length C.rows) e → IsOrthogonal C.field columns e → e ≡ zero_word (length C.rows))
    → IsFilling C x erased (filled (combine C.field C.columns u C.rows))
one_message C x erased columns symbols u r w h word s zero = (
  filled_message C x erased columns symbols u r w h word s,
  λ v fills.
      let f = C.field in
      let n = C.columns in
      let k = length C.rows in
      let (c, own, is) = combination_of_word f n C.rows v fills.0 in
      let t : Solves f columns symbols c = fills_message C x erased columns symbols c w h own (subst (Fills C x erased) is fills) in
      let l : length c ≡ length u = own.long ∙ sym word.long in
      let same : c ≡ u = same_from_difference f k c u own word (zero (difference f c u) (IsWord_difference f k c u own.long word.long) (solves_difference f columns symbols c u l t s)) in
      is ∙ ap (λ a. combine f n a C.rows) same,
)

-- ---- of a matrix

not_some : (o : Option (List ℕ)) → ((w : List ℕ) → o ≢ Some w) → ¬ IsSome o
not_some None h e = absurd (true≢false (sym e))
not_some (Some w) h e = h w refl

some_told : (P : List ℕ → Type 0) (o : Option (List ℕ)) (u : List ℕ) → o ≡ Some u → IfSome o P → P u
some_told P o u e h = subst (λ (p : Option (List ℕ)). IfSome p P) e h

pub unfilled_told : (C S : Matrix) (x erased symbols : List ℕ) (o : Option (List ℕ)) → S.field ≡ C.field → S.columns ≡ length C.rows → IsWord C.field C.columns x
    → IsSystem C x erased C.columns S.rows symbols
    → IsSome o ↔ ((w : List ℕ) × IsWord S.field S.columns w × Solves S.field S.rows symbols w) → ((w : List ℕ) → o ≢ Some w) → IsFilling C x erased unfilled
unfilled_told C S x erased symbols o f k w h exact none =
    no_message C x erased S.rows symbols w h
    (λ u word s. not_some o none (exact.1 (u, subst (λ m. IsWord S.field m u) (sym k) (subst (λ g. IsWord g (length C.rows) u) (sym f) word), subst (λ g. Solves g S.rows symbols u) (sym f) s)))

over : (C S : Matrix) (u : List ℕ) → S.field ≡ C.field → S.columns ≡ length C.rows → IsWord S.field S.columns u → IsWord C.field (length C.rows) u
over C S u f k w = subst (λ m. IsWord C.field m u) k (subst (λ g. IsWord g S.columns u) f w)

pub ambiguous_told : (C S K : Matrix) (x erased symbols u : List ℕ) (o : Option (List ℕ)) → AreRows C.field C.columns C.rows → IsReduced C.columns C.rows → S.field ≡ C.field → S.columns ≡ length C.rows
    → IsWord C.field C.columns x → IsSystem C x erased C.columns S.rows symbols
    → o ≡ Some u → IfSome o (λ w. IsWord S.field S.columns w) → IfSome o (λ w. Solves S.field S.rows symbols w) → IsReducedGenerator S.field S.columns (IsOrthogonal S.field S.rows) K.rows → 0 < length K.rows
    → IsFilling C x erased ambiguous
ambiguous_told C S K x erased symbols u o r p f k w h is words solves kernel some =
    let word = some_told (λ v. IsWord S.field S.columns v) o u is words in
    let s = some_told (λ v. Solves S.field S.rows symbols v) o u is solves in
    let e = slice_index_or K.rows 0 [] in
    let t = (kernel.members e).0 (span_row S.field S.columns K.rows kernel.words 0 [] some) in
    two_messages C x erased S.rows symbols u e r p w h (over C S u f k word) (subst (λ g. Solves g S.rows symbols u) f s) (over C S e f k t.0)
    (λ z.
    let (ps, pivots) = kernel.reduced.pivots in
    absurd (omega (arith, pivots.leads 0 some, ap (λ v. slice_index v (slice_index ps 0)) z, index_zero_word (length C.rows) (slice_index ps 0))))
    (subst (λ g. IsOrthogonal g S.rows e) f t.1)

pub filled_told : (C S K : Matrix) (x erased symbols u c : List ℕ) (o : Option (List ℕ)) → AreRows C.field C.columns C.rows → S.field ≡ C.field → S.columns ≡ length C.rows
    → IsWord C.field C.columns x → IsSystem C x erased C.columns S.rows symbols
    → o ≡ Some u → IfSome o (λ w. IsWord S.field S.columns w) → IfSome o (λ w. Solves S.field S.rows symbols w) → IsReducedGenerator S.field S.columns (IsOrthogonal S.field S.rows) K.rows → length K.rows ≡ 0
    → c ≡ combine C.field C.columns u C.rows → IsFilling C x erased (filled c)
filled_told C S K x erased symbols u c o r f k w h told words solves kernel none is =
    let word = some_told (λ v. IsWord S.field S.columns v) o u told words in
    let s = some_told (λ v. Solves S.field S.rows symbols v) o u told solves in
    let zero : (e : List ℕ) → IsWord C.field (length C.rows) e → IsOrthogonal C.field S.rows e → e ≡ zero_word (length C.rows) = λ e a o.
    let inside : InSpan S.field S.columns K.rows e = (kernel.members e).1 (subst (λ m. IsWord S.field m e) (sym k) (subst (λ g. IsWord g (length C.rows) e) (sym f) a), subst (λ g. IsOrthogonal g S.rows e) (sym f) o) in
    subst (λ (rows : List (List ℕ)). InSpan S.field S.columns rows e) (no_rows K.rows none) inside ∙ ap zero_word k in
    subst (λ v. IsFilling C x erased (filled v)) (sym is) (one_message C x erased S.rows symbols u r w h (over C S u f k word) (subst (λ g. Solves g S.rows symbols u) f s) zero)
  where
    no_rows : (rows : List (List ℕ)) → length rows ≡ 0 → rows ≡ []
    no_rows [] e = refl
    no_rows (g ∷ rows) e = absurd (omega (arith, e))

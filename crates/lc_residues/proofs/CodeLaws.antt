-- The rows of a quadratic residue code, as the loops make them.
--   mapped_word, symbol_inside, residue_word_is, shift_is_word, residue_words      they are words
--   length_residue_word    the length of the residue word
--   word_none, word_more, word_whole, shift_none, shift_more, shift_whole, shift_inside, rows_none, rows_more, rows_whole
--                          what the loops make, entry by entry
--   rows_fit               the rows are words
--   code_told              the code that they generate
use Rattle.std.proofs.Common.{◌≡◌, ℕ, ◌+◌, ◌-◌, ◌%◌, ◌<◌, ◌≤◌, ◌==◌, Bool, true, false, if◌then◌else◌, List, [], ◌∷◌, ◌++◌, length, map, replicate, slice_index, slice_index_or, sym, ap, subst, ◌∙◌, arith}
use Rattle.std.proofs.Math.Nat.{mod-lt}
use Rattle.std.proofs.lemmas.List.{length-map, get_or-map}
use Rattle.std.proofs.lemmas.List.Elements.{All-cons, All-map}
use Rattle.lc_algebra.specs.declared.FieldName.{FieldName}
use Rattle.lc_algebra.specs.Field.{size, neg}
use Rattle.lc_algebra.specs.Word.{Fits, IsWord}
use Rattle.lc_algebra.specs.Span.{below}
use Rattle.lc_algebra.specs.Matrix.{Matrix, AreRows}
use Rattle.lc_algebra.proofs.FieldLaws.{zero_inside, one_inside, neg_inside}
use Rattle.lc_algebra.proofs.WordLaws.{fits_symbol, ones_word}
use Rattle.lc_algebra.proofs.SpanLaws.{length_below}
use Rattle.lc_basic.proofs.ColumnLaws.{map_more}
use Rattle.lc_constructions.specs.Code.{IsCode}
use Rattle.lc_constructions.specs.Basic.{GeneratedBy}
use Rattle.lc_language.specs.QuadraticResidues.{is_residue, period, residue_symbol, residue_word, cyclic_shift, residue_rows, InResidueCode}
use Rattle.lc_residues.specs.Parts.{word_part, shift_part, rows_part}

chosen_inside : (f : FieldName) (a b : Bool) (t : ℕ) → (if a then neg f t else if b then 1 else 0) < size f
chosen_inside f true b t = neg_inside f t
chosen_inside f false true t = one_inside f
chosen_inside f false false t = zero_inside f

pub symbol_inside : (f : FieldName) (n t i : ℕ) → residue_symbol f n t i < size f
unfolding residue_symbol
symbol_inside f n t i = chosen_inside f (i == 0) (is_residue n i) t

pub mapped_word : (f : FieldName) (n : ℕ) (h : ℕ → ℕ) → ((i : ℕ) → h i < size f) → IsWord f n (map h (below n))
mapped_word f n h k = record {
  long = length-map (below n) h ∙ length_below n;
  fits = λ i l. rw (get_or-map h (below n) i 0 0 (omega (arith, l, length-map (below n) h))) (k (slice_index (below n) i));
}

pub residue_word_is : (f : FieldName) (n t : ℕ) → IsWord f n (residue_word f n t)
unfolding residue_word
residue_word_is f n t = mapped_word f n (residue_symbol f n t) (symbol_inside f n t)

pub length_residue_word : (f : FieldName) (n t : ℕ) (w : List ℕ) → w ≡ residue_word f n t → length w ≡ n
length_residue_word f n t w e = ap (λ (u : List ℕ). length u) e ∙ (residue_word_is f n t).long

pub shift_is_word : (f : FieldName) (n k : ℕ) (w : List ℕ) → Fits f w → IsWord f n (cyclic_shift n k w)
unfolding cyclic_shift
shift_is_word f n k w h = mapped_word f n (λ i. slice_index w ((i + (n - k)) % n)) (λ i. fits_symbol f w h ((i + (n - k)) % n))

pub residue_words : (f : FieldName) (n t : ℕ) → AreRows f n (residue_rows f n t)
unfolding residue_rows
residue_words f n t =
    let w = residue_word f n t in
    All-cons (IsWord f n) (replicate n 1) (map (λ k. cyclic_shift n k w) (below n)) (ones_word f n)
    (All-map (IsWord f n) (λ k. cyclic_shift n k w) (below n) (λ k d l. shift_is_word f n (slice_index_or (below n) k d) w (residue_word_is f n t).fits))

-- ---- loops

same_end : (m n : ℕ) → n ≤ m → m ≤ n → m ≡ n
same_end m n a b = omega (arith, a, b)

pub word_none : (f : FieldName) (n t : ℕ) (xs : List ℕ) → xs ≡ [] → xs ≡ word_part f n t 0
unfolding word_part below
word_none f n t xs e = e

pub word_more : (f : FieldName) (n t m x : ℕ) (xs ys : List ℕ) → xs ≡ word_part f n t m → x ≡ residue_symbol f n t m → ys ≡ xs ++ x ∷ [] → ys ≡ word_part f n t (m + 1)
unfolding word_part
word_more f n t m x xs ys e a b = cc (map_more (residue_symbol f n t) m, e, a, b)

pub word_whole : (f : FieldName) (n t m : ℕ) (xs : List ℕ) → xs ≡ word_part f n t m → n ≤ m → m ≤ n → xs ≡ residue_word f n t
unfolding word_part residue_word
word_whole f n t m xs e a b = e ∙ ap (λ k. map (residue_symbol f n t) (below k)) (same_end m n a b)

pub shift_none : (n k : ℕ) (w xs : List ℕ) → xs ≡ [] → xs ≡ shift_part n k w 0
unfolding shift_part below
shift_none n k w xs e = e

pub shift_more : (n k m x : ℕ) (w xs ys : List ℕ) → xs ≡ shift_part n k w m → x ≡ slice_index w ((m + (n - k)) % n) → ys ≡ xs ++ x ∷ [] → ys ≡ shift_part n k w (m + 1)
unfolding shift_part
shift_more n k m x w xs ys e a b = cc (map_more (λ i. slice_index w ((i + (n - k)) % n)) m, e, a, b)

pub shift_whole : (n k m : ℕ) (w xs : List ℕ) → xs ≡ shift_part n k w m → n ≤ m → m ≤ n → xs ≡ cyclic_shift n k w
unfolding shift_part cyclic_shift
shift_whole n k m w xs e a b = e ∙ ap (λ j. map (λ i. slice_index w ((i + (n - k)) % n)) (below j)) (same_end m n a b)

pub shift_inside : (n k i : ℕ) → k < n → (i + (n - k)) % n < n
shift_inside n k i l = mod-lt (i + (n - k)) (omega (arith, l))

pub rows_none : (f : FieldName) (n t : ℕ) (w : List ℕ) (rows : List (List ℕ)) → w ≡ replicate n 1 → rows ≡ w ∷ [] → rows ≡ rows_part f n t 0
unfolding rows_part below
rows_none f n t w rows e a = a ∙ ap (λ u. u ∷ []) e

pub rows_more : (f : FieldName) (n t m : ℕ) (w x : List ℕ) (xs ys : List (List ℕ)) → w ≡ residue_word f n t → xs ≡ rows_part f n t m → x ≡ cyclic_shift n m w → ys ≡ xs ++ x ∷ [] → ys ≡ rows_part f n t (m + 1)
unfolding rows_part
rows_more f n t m w x xs ys d e a b = cc (map_more (λ k. cyclic_shift n k (residue_word f n t)) m, d, e, a, b)

pub rows_whole : (f : FieldName) (n t m : ℕ) (rows : List (List ℕ)) → rows ≡ rows_part f n t m → n ≤ m → m ≤ n → rows ≡ residue_rows f n t
unfolding rows_part residue_rows
rows_whole f n t m rows e a b = e ∙ ap (λ j. replicate n 1 ∷ map (λ k. cyclic_shift n k (residue_word f n t)) (below j)) (same_end m n a b)

pub rows_fit : (f : FieldName) (n t : ℕ) (rows : List (List ℕ)) → rows ≡ residue_rows f n t → AreRows f n rows
rows_fit f n t rows e = subst (AreRows f n) (sym e) (residue_words f n t)

pub code_told : (f : FieldName) (n t : ℕ) (rows : List (List ℕ)) (C : Matrix) → t ≡ period f n → rows ≡ residue_rows f n t → IsCode f n (GeneratedBy f n rows) C → IsCode f n (InResidueCode f n (period f n)) C
code_told f n t rows C e a c = subst (λ x. IsCode f n (GeneratedBy f n (residue_rows f n x)) C) e (subst (λ r. IsCode f n (GeneratedBy f n r) C) a c)

pub ruleset residue_code_laws = (rows_fit, code_told)

pub ruleset residue_rows_laws = (length_residue_word, rows_none, rows_more, rows_whole)

pub ruleset residue_word_laws = (word_none, word_more, word_whole)

pub ruleset cyclic_shift_laws = (shift_none, shift_more, shift_whole, shift_inside)

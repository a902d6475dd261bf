-- Extended codes.
--   sum_none, sum_more, sum_all      a sum of symbols from the left: at the first symbol, at one symbol more, at the end
--   extended_linear        extending is linear
--   extended_words         extended rows are words
--   extended_members, extended_code      their words are the extended words
use Rattle.std.proofs.Common.{◌≡◌, ℕ, zero, ◌+◌, ◌<◌, ◌↔◌, List, [], ◌∷◌, ◌++◌, length, drop, slice_index, refl, sym, ap, subst, ◌∙◌, arith, add-one}
use Rattle.std.proofs.lemmas.List.{drop_all}
use Rattle.std.proofs.Math.Seq.{drop-cons}
use Rattle.lc_algebra.specs.declared.FieldName.{FieldName}
use Rattle.lc_algebra.specs.Field.{size, add, neg}
use Rattle.lc_algebra.specs.Word.{IsWord, zero_word, word_sum, scale}
use Rattle.lc_algebra.specs.Span.{InSpan}
use Rattle.lc_algebra.specs.Matrix.{Matrix, AreRows}
use Rattle.lc_algebra.proofs.FieldLaws.{zero_inside, neg_inside, add_inside, zero_add, add_zero, add_assoc, neg_zero}
use Rattle.lc_algebra.proofs.WordLaws.{fits_cons}
use Rattle.lc_constructions.specs.Code.{IsCode}
use Rattle.lc_constructions.specs.Basic.{GeneratedBy}
use Rattle.lc_constructions.specs.Combined.{symbol_sum, InExtended}
use Rattle.lc_constructions.proofs.ClosedLaws.{sum_parts, scale_parts, zero_parts, last_sum, last_scale, symbol_sum_of_zero}
use Rattle.lc_code.proofs.GeneratedLaws.{generated_by, shaped}
use Rattle.lc_linear_laws.proofs.LinearLaws.{IsLinear, image_rows, image_span, span_image}
use Rattle.lc_linear_laws.proofs.PartLaws.{word_append}
use Rattle.lc_combine.specs.Rows.{extended_rows}

symbol_sum_inside : (f : FieldName) (u : List ℕ) → symbol_sum f u < size f
unfolding symbol_sum
symbol_sum_inside f [] = zero_inside f
symbol_sum_inside f (a ∷ u) = add_inside f a (symbol_sum f u)

pub sum_none : (f : FieldName) (u : List ℕ) → add f 0 (symbol_sum f (drop 0 u)) ≡ symbol_sum f u
sum_none f u = zero_add f (symbol_sum f u) (symbol_sum_inside f u)

sum_step : (f : FieldName) (s a : ℕ) (u : List ℕ) → add f (add f s a) (symbol_sum f u) ≡ add f s (symbol_sum f (a ∷ u))
unfolding symbol_sum
sum_step f s a u = add_assoc f s a (symbol_sum f u)

pub sum_more : (f : FieldName) (u : List ℕ) (s i : ℕ) → i < length u → add f (add f s (slice_index u i)) (symbol_sum f (drop (i + 1) u)) ≡ add f s (symbol_sum f (drop i u))
sum_more f u s i l = rw (drop-cons u i 0, add-one) (sum_step f s (slice_index u i) _)

sum_end : (f : FieldName) (s : ℕ) → s < size f → add f s (symbol_sum f []) ≡ s
unfolding symbol_sum
sum_end f s l = add_zero f s l

pub sum_all : (f : FieldName) (u : List ℕ) (s i : ℕ) → s < size f → i ≡ length u → add f s (symbol_sum f (drop i u)) ≡ s
sum_all f u s i l e = rw (drop_all i u (omega (arith, e))) (sum_end f s l)

abbrev last : FieldName → List ℕ → List ℕ
last f u = neg f (symbol_sum f u) ∷ []

pub one_symbol : (f : FieldName) (a : ℕ) → a < size f → IsWord f 1 (a ∷ [])
one_symbol f a l = record { long = refl; fits = fits_cons f a [] l (λ i m. absurd (omega (arith, m))) }

pub extended_linear : (f : FieldName) (n : ℕ) → IsLinear f n (n + 1) (λ u. u ++ neg f (symbol_sum f u) ∷ [])
extended_linear f n = record {
  word = λ u a. word_append f n 1 u (last f u) a (one_symbol f (neg f (symbol_sum f u)) (neg_inside f (symbol_sum f u)));
  zero = ap (λ x. zero_word n ++ x ∷ []) (ap (neg f) (symbol_sum_of_zero f n) ∙ neg_zero f) ∙ zero_parts n 1;
  sums = λ u v a b. sym (sum_parts f u v (last f u) (last f v) (a.long ∙ sym b.long) ∙ ap (λ t. word_sum f u v ++ t) (last_sum f u v (a.long ∙ sym b.long)));
  multiples = λ c u a. sym (scale_parts f c u (last f u) ∙ ap (λ t. scale f c u ++ t) (last_scale f c u));
}

pub extended_words : (C : Matrix) (g : FieldName) (k : ℕ) (rows : List (List ℕ)) → g ≡ C.field → k ≡ C.columns + 1 → AreRows C.field C.columns C.rows → rows ≡ extended_rows C.field C.rows → AreRows g k rows
extended_words C g k rows a b r e =
    let f = C.field in
    let n = C.columns in
    shaped f g (n + 1) k (extended_rows f C.rows) rows a b e (image_rows f n (n + 1) (λ u. u ++ last f u) C.rows (extended_linear f n) r)

pub extended_members : (C : Matrix) (w : List ℕ) → AreRows C.field C.columns C.rows → InSpan C.field (C.columns + 1) (extended_rows C.field C.rows) w ↔ InExtended C w
extended_members C w r =
    let f = C.field in
    let n = C.columns in
    let h : List ℕ → List ℕ = λ u. u ++ last f u in (
      (λ p. span_image f n (n + 1) h C.rows w (extended_linear f n) r p),
      (λ p. subst (InSpan f (n + 1) (extended_rows f C.rows)) (sym p.2) (image_span f n (n + 1) h C.rows p.0 (extended_linear f n) r p.1)),
    )

pub extended_code : (C E : Matrix) (g : FieldName) (k : ℕ) (rows : List (List ℕ)) → AreRows C.field C.columns C.rows → g ≡ C.field → k ≡ C.columns + 1 → rows ≡ extended_rows C.field C.rows → IsCode g k (GeneratedBy g k rows) E → IsCode C.field (C.columns + 1) (InExtended C) E
extended_code C E g k rows r a b e c = generated_by C.field g (C.columns + 1) k (extended_rows C.field C.rows) rows (InExtended C) E a b e (λ w _. extended_members C w r) c

pub ruleset extended_words_laws = (extended_words, extended_code)

pub ruleset last_symbol_laws = (sum_none, sum_more, sum_all, zero_inside)

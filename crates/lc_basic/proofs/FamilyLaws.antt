-- Repetition codes, the whole space and the null code.
--   ones, length_ones, index_ones   the word of ones
--   one_row, no_rows, ones_rows     a row alone, no row, and the row of ones, as rows of words
--   constant_code      the multiples of the word of ones are the words of equal symbols
--   any_code           every word has dot 0 with each of no rows
--   zero_code          the sums of multiples of no rows are the zero word
use Rattle.std.proofs.Common.{◌≡◌, ℕ, zero, suc, ◌<◌, ◌≤◌, ◌↔◌, List, [], ◌∷◌, length, replicate, slice_index, refl, sym, ap, subst, ◌∙◌, arith}
use Rattle.std.proofs.lemmas.List.{ext_get_or, length-replicate, get_or-replicate}
use Rattle.lc_algebra.specs.declared.FieldName.{FieldName}
use Rattle.lc_algebra.specs.Field.{size}
use Rattle.lc_algebra.specs.Word.{IsWord, zero_word, word_sum, scale}
use Rattle.lc_algebra.specs.Matrix.{Matrix, AreRows}
use Rattle.lc_algebra.proofs.FieldLaws.{add_zero, mul_one}
use Rattle.lc_algebra.proofs.WordLaws.{index_word_sum, index_scale, index_zero_word, length_word_sum, length_scale, length_zero_word, word_symbol, ones_word}
use Rattle.lc_constructions.specs.Code.{IsCode, CheckedBy}
use Rattle.lc_constructions.specs.Basic.{GeneratedBy, IsConstant, IsAny, IsZero}
use Rattle.lc_code.proofs.CodeLaws.{same_code}

pub no_rows : (f : FieldName) (n : ℕ) (rows : List (List ℕ)) → rows ≡ [] → AreRows f n rows
no_rows f n rows e = subst (AreRows f n) (sym e) (λ k d l. absurd (omega (arith, l)))

pub one_row : (f : FieldName) (n : ℕ) (g : List ℕ) → IsWord f n g → AreRows f n (g ∷ [])
one_row f n g w zero d l = w
one_row f n g w (suc k) d l = absurd (omega (arith, l))

abbrev pub ones : ℕ → List ℕ
ones n = replicate n 1

pub length_ones : (n : ℕ) → length (ones n) ≡ n
length_ones n = length-replicate n 1

pub index_ones : (n i : ℕ) → i < n → slice_index (ones n) i ≡ 1
index_ones n i l = get_or-replicate n i 1 0 l

pub ones_rows : (f : FieldName) (n : ℕ) (rows : List (List ℕ)) → rows ≡ ones n ∷ [] → AreRows f n rows
ones_rows f n rows e = subst (AreRows f n) (sym e) (one_row f n (ones n) (ones_word f n))

-- a symbol of a multiple of the word of ones
symbol_of_ones : (f : FieldName) (n c i : ℕ) → c < size f → i < n → slice_index (word_sum f (scale f c (ones n)) (zero_word n)) i ≡ c
symbol_of_ones f n c i b l =
    let e : length (scale f c (ones n)) ≡ length (zero_word n) = length_scale f c (ones n) ∙ length_ones n ∙ sym (length_zero_word n) in
    let o : slice_index (ones n) i ≡ 1 = index_ones n i l in
    cc (index_word_sum f (scale f c (ones n)) (zero_word n) i e, index_scale f c (ones n) i, o, index_zero_word n i, mul_one f c b, add_zero f c b)

length_of_ones : (f : FieldName) (n c : ℕ) → length (word_sum f (scale f c (ones n)) (zero_word n)) ≡ n
length_of_ones f n c =
    length_word_sum f (scale f c (ones n)) (zero_word n) (length_scale f c (ones n) ∙ length_ones n ∙ sym (length_zero_word n)) ∙ length_zero_word n

pub ones_constant : (f : FieldName) (n : ℕ) (w : List ℕ) → 1 ≤ n → IsWord f n w → GeneratedBy f n (ones n ∷ []) w ↔ IsConstant w
ones_constant f n w a h = (
  (λ s i j l m.
      let e : w ≡ word_sum f (scale f s.0 (ones n)) (zero_word n) = s.2.2 ∙ ap (word_sum f (scale f s.0 (ones n))) s.2.1 in
      let x : slice_index w i ≡ s.0 = ap (λ u. slice_index u i) e ∙ symbol_of_ones f n s.0 i s.1 (omega (arith, l, h.long)) in
      let y : slice_index w j ≡ s.0 = ap (λ u. slice_index u j) e ∙ symbol_of_ones f n s.0 j s.1 (omega (arith, m, h.long)) in
      x ∙ sym y),
  (λ p.
      let c = slice_index w 0 in
      let b : c < size f = word_symbol f n w h 0 in
      (c, b, (zero_word n, refl, ext_get_or 0 w _ (h.long ∙ sym (length_of_ones f n c)) (λ i l. p i 0 l (omega (arith, a, h.long)) ∙ sym (symbol_of_ones f n c i b (omega (arith, l, h.long))))))),
)

pub constant_code : (f : FieldName) (n : ℕ) (rows : List (List ℕ)) (C : Matrix) → 1 ≤ n → rows ≡ ones n ∷ [] → IsCode f n (GeneratedBy f n rows) C → IsCode f n IsConstant C
constant_code f n rows C a e c =
    same_code f n (GeneratedBy f n (ones n ∷ [])) IsConstant C (λ w h. ones_constant f n w a h) (subst (λ r. IsCode f n (GeneratedBy f n r) C) e c)

pub any_code : (f : FieldName) (n : ℕ) (rows : List (List ℕ)) (C : Matrix) → rows ≡ [] → IsCode f n (CheckedBy f rows) C → IsCode f n IsAny C
any_code f n rows C e c =
    same_code f n (CheckedBy f rows) IsAny C (λ w h. ((λ _. tt), (λ _. subst (λ r. CheckedBy f r w) (sym e) (λ k d l. absurd (omega (arith, l)))))) c

pub zero_is : (n : ℕ) (w : List ℕ) → length w ≡ n → (w ≡ zero_word n) ↔ IsZero w
zero_is n w h = (
  (λ e i l. ap (λ u. slice_index u i) e ∙ index_zero_word n i),
  (λ z. ext_get_or 0 w (zero_word n) (h ∙ sym (length_zero_word n)) (λ i l. z i l ∙ sym (index_zero_word n i))),
)

pub zero_code : (f : FieldName) (n : ℕ) (rows : List (List ℕ)) (C : Matrix) → rows ≡ [] → IsCode f n (GeneratedBy f n rows) C → IsCode f n IsZero C
zero_code f n rows C e c =
    same_code f n (GeneratedBy f n []) IsZero C (λ w h. zero_is n w h.long) (subst (λ r. IsCode f n (GeneratedBy f n r) C) e c)

pub ruleset constant_words_laws = (ones_rows, constant_code)

-- Words whose symbols are those of a word at given coordinates: cyclic shifts, and words multiplied by a number modulo n.
--   picked n h w           the word of the symbols of w at the coordinates h 0 to h (n - 1)
--   index_mapped           an entry of a list of values
--   index_picked, picked_linear      its symbols; it is linear
--   index_shift, shifts_linear, index_multiplied, multiplied_linear      the same of shifts and of multiplied words
--   same_picks             words with the same symbols below n are equal
--   span_kept              a linear map that takes the rows to words of other rows takes all words there
use Rattle.std.proofs.Common.{◌≡◌, ℕ, ◌+◌, ◌-◌, ◌*◌, ◌%◌, ◌<◌, List, length, map, slice_index, All, sym, ap, ◌∙◌, arith}
use Rattle.std.proofs.lemmas.List.{length-map, get_or-map, ext_get_or}
use Rattle.lc_algebra.specs.declared.FieldName.{FieldName}
use Rattle.lc_algebra.specs.Word.{IsWord, zero_word, word_sum, scale}
use Rattle.lc_algebra.specs.Span.{below, InSpan}
use Rattle.lc_algebra.specs.Matrix.{AreRows}
use Rattle.lc_algebra.proofs.WordLaws.{word_symbol, index_word_sum, index_scale, index_zero_word, length_word_sum, length_scale, length_zero_word}
use Rattle.lc_algebra.proofs.SpanLaws.{length_below, index_below, span_within}
use Rattle.lc_relations.proofs.StructureLaws.{mapped}
use Rattle.lc_language.specs.QuadraticResidues.{cyclic_shift, multiplied}
use Rattle.lc_linear_laws.proofs.LinearLaws.{IsLinear, image_span}
use Rattle.lc_residues.proofs.CodeLaws.{mapped_word}

unfoldable pub picked : ℕ → (ℕ → ℕ) → List ℕ → List ℕ
picked n h w = map (λ i. slice_index w (h i)) (below n)

pub index_mapped : (g : ℕ → ℕ) (n i : ℕ) → i < n → slice_index (map g (below n)) i ≡ g i
index_mapped g n i l = get_or-map g (below n) i 0 0 (omega (arith, l, length_below n)) ∙ ap g (index_below n i 0 l)

pub length_mapped : (g : ℕ → ℕ) (n : ℕ) → length (map g (below n)) ≡ n
length_mapped g n = length-map (below n) g ∙ length_below n

pub index_picked : (n : ℕ) (h : ℕ → ℕ) (w : List ℕ) (i : ℕ) → i < n → slice_index (picked n h w) i ≡ slice_index w (h i)
unfolding picked
index_picked n h w i l = index_mapped (λ i. slice_index w (h i)) n i l

pub length_picked : (n : ℕ) (h : ℕ → ℕ) (w : List ℕ) → length (picked n h w) ≡ n
unfolding picked
length_picked n h w = length_mapped (λ i. slice_index w (h i)) n

pub same_picks : (n : ℕ) (u v : List ℕ) → length u ≡ n → length v ≡ n → ((i : ℕ) → i < n → slice_index u i ≡ slice_index v i) → u ≡ v
same_picks n u v a b h = ext_get_or 0 u v (a ∙ sym b) (λ i l. h i (omega (arith, l, a)))

pub picked_word : (f : FieldName) (n : ℕ) (h : ℕ → ℕ) (w : List ℕ) → IsWord f n w → IsWord f n (picked n h w)
unfolding picked
picked_word f n h w a = mapped_word f n (λ i. slice_index w (h i)) (λ i. word_symbol f n w a (h i))

picked_sum : (f : FieldName) (n : ℕ) (h : ℕ → ℕ) (u v : List ℕ) → IsWord f n u → IsWord f n v → picked n h (word_sum f u v) ≡ word_sum f (picked n h u) (picked n h v)
picked_sum f n h u v a b =
    let l : length u ≡ length v = a.long ∙ sym b.long in
    let m : length (picked n h u) ≡ length (picked n h v) = length_picked n h u ∙ sym (length_picked n h v) in
    same_picks n (picked n h (word_sum f u v)) (word_sum f (picked n h u) (picked n h v)) (length_picked n h (word_sum f u v)) (length_word_sum f (picked n h u) (picked n h v) m ∙ length_picked n h v) (λ i k.
    cc (index_picked n h (word_sum f u v) i k, index_word_sum f u v (h i) l, index_word_sum f (picked n h u) (picked n h v) i m, index_picked n h u i k, index_picked n h v i k))

picked_scale : (f : FieldName) (n : ℕ) (h : ℕ → ℕ) (c : ℕ) (u : List ℕ) → picked n h (scale f c u) ≡ scale f c (picked n h u)
picked_scale f n h c u =
    same_picks n (picked n h (scale f c u)) (scale f c (picked n h u)) (length_picked n h (scale f c u)) (length_scale f c (picked n h u) ∙ length_picked n h u) (λ i k.
    cc (index_picked n h (scale f c u) i k, index_scale f c u (h i), index_scale f c (picked n h u) i, index_picked n h u i k))

picked_zero : (n : ℕ) (h : ℕ → ℕ) → picked n h (zero_word n) ≡ zero_word n
picked_zero n h =
    same_picks n (picked n h (zero_word n)) (zero_word n) (length_picked n h (zero_word n)) (length_zero_word n) (λ i k.
    index_picked n h (zero_word n) i k ∙ index_zero_word n (h i) ∙ sym (index_zero_word n i))

pub picked_linear : (f : FieldName) (n : ℕ) (h : ℕ → ℕ) → IsLinear f n n (picked n h)
picked_linear f n h = record {
  word = λ u a. picked_word f n h u a;
  zero = picked_zero n h;
  sums = λ u v a b. picked_sum f n h u v a b;
  multiples = λ c u a. picked_scale f n h c u;
}

pub index_shift : (n k : ℕ) (w : List ℕ) (i : ℕ) → i < n → slice_index (cyclic_shift n k w) i ≡ slice_index w ((i + (n - k)) % n)
unfolding cyclic_shift
index_shift n k w i l = index_mapped (λ i. slice_index w ((i + (n - k)) % n)) n i l

pub length_shift : (n k : ℕ) (w : List ℕ) → length (cyclic_shift n k w) ≡ n
unfolding cyclic_shift
length_shift n k w = length_mapped (λ i. slice_index w ((i + (n - k)) % n)) n

pub shifts_linear : (f : FieldName) (n k : ℕ) → IsLinear f n n (cyclic_shift n k)
unfolding picked cyclic_shift
shifts_linear f n k = picked_linear f n (λ i. (i + (n - k)) % n)

pub index_multiplied : (n r : ℕ) (w : List ℕ) (i : ℕ) → i < n → slice_index (multiplied n r w) i ≡ slice_index w (r * i % n)
unfolding multiplied
index_multiplied n r w i l = index_mapped (λ i. slice_index w (r * i % n)) n i l

pub length_multiplied : (n r : ℕ) (w : List ℕ) → length (multiplied n r w) ≡ n
unfolding multiplied
length_multiplied n r w = length_mapped (λ i. slice_index w (r * i % n)) n

pub multiplied_linear : (f : FieldName) (n r : ℕ) → IsLinear f n n (multiplied n r)
unfolding picked multiplied
multiplied_linear f n r = picked_linear f n (λ i. r * i % n)

pub span_kept : (f : FieldName) (n : ℕ) (h : List ℕ → List ℕ) (rows others : List (List ℕ)) (w : List ℕ) → IsLinear f n n h → AreRows f n rows → AreRows f n others → All (λ row. InSpan f n others (h row)) rows → InSpan f n rows w → InSpan f n others (h w)
span_kept f n h rows others w a r s k i =
    span_within f n (map h rows) others (h w) s (mapped h (InSpan f n others) rows k) (image_span f n n h rows w a r i)

-- The words of two lists of rows.
--   words_apart              the sums of a word of some rows and one of others are the words of all these rows
use Rattle.std.proofs.Common.{◌≡◌, ℕ, ◌++◌, List, [], ◌∷◌, map, sum_by, sym, ap, ◌∙◌, arith}
use Rattle.std.proofs.lemmas.List.Sums.{sum_by-cons}
use Rattle.lc_algebra.specs.declared.FieldName.{FieldName}
use Rattle.lc_algebra.specs.Field.{size}
use Rattle.lc_algebra.specs.Word.{zero_word, word_sum, scale}
use Rattle.lc_algebra.specs.Matrix.{AreRows}
use Rattle.lc_algebra.specs.Span.{below, words}
use Rattle.lc_algebra.proofs.WordLaws.{sum_assoc, zero_sum}
use Rattle.lc_algebra.proofs.SpanLaws.{span_word, word_of_member}
use Rattle.lc_macwilliams.proofs.CountLaws.{sum_same, sum_map, sum_flat_map}

pub words_apart : (f : FieldName) (n : ℕ) (g : List ℕ → ℕ) (xs ys : List (List ℕ)) → AreRows f n ys → sum_by g (words f n (xs ++ ys)) ≡ sum_by (λ u. sum_by (λ v. g (word_sum f u v)) (words f n ys)) (words f n xs)
unfolding words
words_apart f n g [] ys r =
    let each = sum_same g (λ v. g (word_sum f (zero_word n) v)) (words f n ys) (λ v c. ap g (sym (zero_sum f n v (span_word f n ys v r (word_of_member f n ys v c))))) in
    let one = sum_by-cons (λ u. sum_by (λ v. g (word_sum f u v)) (words f n ys)) (zero_word n) [] in
    omega (arith, each, one)
words_apart f n g (x ∷ xs) ys r =
    let h = λ (c : ℕ) (v : List ℕ). word_sum f (scale f c x) v in
    let inner = λ (u : List ℕ). sum_by (λ v. g (word_sum f u v)) (words f n ys) in
    sum_flat_map g (λ c. map (h c) (words f n (xs ++ ys))) (below (size f))
    ∙ sum_same (λ c. sum_by g (map (h c) (words f n (xs ++ ys)))) (λ c. sum_by inner (map (h c) (words f n xs))) (below (size f)) (λ c _.
    sum_map g (h c) (words f n (xs ++ ys)) ∙ words_apart f n (λ w. g (h c w)) xs ys r
    ∙ sum_same (λ u. sum_by (λ v. g (h c (word_sum f u v))) (words f n ys)) (λ u. inner (h c u)) (words f n xs) (λ u _.
    sum_same (λ v. g (h c (word_sum f u v))) (λ v. g (word_sum f (h c u) v)) (words f n ys) (λ v _. ap g (sym (sum_assoc f (scale f c x) u v))))
    ∙ sym (sum_map inner (h c) (words f n xs)))
    ∙ sym (sum_flat_map inner (λ c. map (h c) (words f n xs)) (below (size f)))

-- Words that a loop makes symbol by symbol.
--   word_sum_made      what has the symbols of a sum of a word and a multiple is that sum
--   sum_made           what has the symbols of a sum of two words is that sum
--   scale_made         what has the symbols of a multiple is that multiple
--   dot_none, dot_more, dot_all      a dot that is summed from the left: at the first place, at one place more, at the end
use Rattle.std.proofs.Common.{◌≡◌, ℕ, ◌+◌, ◌<◌, List, [], ◌∷◌, length, drop, slice_index, sym, ap, ◌∙◌, arith, add-one}
use Rattle.std.proofs.lemmas.List.{ext_get_or, drop_all}
use Rattle.std.proofs.Math.Seq.{drop-cons}
use Rattle.lc_algebra.specs.declared.FieldName.{FieldName}
use Rattle.lc_algebra.specs.Field.{size, add, mul}
use Rattle.lc_algebra.specs.Word.{word_sum, scale, word_dot}
use Rattle.lc_algebra.proofs.FieldLaws.{zero_add, add_zero, add_assoc, zero_inside}
use Rattle.lc_algebra.proofs.WordLaws.{length_word_sum, length_scale, index_word_sum, index_scale, dot_inside}

pub word_sum_made : (f : FieldName) (c : ℕ) (u v w : List ℕ) → length u ≡ length v → length w ≡ length u → ((k : ℕ) → k < length w → slice_index w k ≡ add f (slice_index u k) (mul f c (slice_index v k))) → w ≡ word_sum f u (scale f c v)
word_sum_made f c u v w e l h =
    let long : length u ≡ length (scale f c v) = e ∙ sym (length_scale f c v) in
    ext_get_or 0 w (word_sum f u (scale f c v)) (l ∙ long ∙ sym (length_word_sum f u (scale f c v) long)) (λ k m.
    h k m ∙ ap (add f (slice_index u k)) (sym (index_scale f c v k)) ∙ sym (index_word_sum f u (scale f c v) k long))

pub sum_made : (f : FieldName) (u v w : List ℕ) → length u ≡ length v → length w ≡ length u → ((k : ℕ) → k < length w → slice_index w k ≡ add f (slice_index u k) (slice_index v k)) → w ≡ word_sum f u v
sum_made f u v w e l h = ext_get_or 0 w (word_sum f u v) (l ∙ e ∙ sym (length_word_sum f u v e)) (λ k m. h k m ∙ sym (index_word_sum f u v k e))

pub scale_made : (f : FieldName) (c : ℕ) (u w : List ℕ) → length w ≡ length u → ((k : ℕ) → k < length w → slice_index w k ≡ mul f c (slice_index u k)) → w ≡ scale f c u
scale_made f c u w l h =
    ext_get_or 0 w (scale f c u) (l ∙ sym (length_scale f c u)) (λ k m. h k m ∙ sym (index_scale f c u k))

pub dot_none : (f : FieldName) (u v : List ℕ) → add f 0 (word_dot f (drop 0 u) (drop 0 v)) ≡ word_dot f u v
dot_none f u v = zero_add f (word_dot f u v) (dot_inside f u v)

dot_step : (f : FieldName) (s a b : ℕ) (u v : List ℕ) → add f (add f s (mul f a b)) (word_dot f u v) ≡ add f s (word_dot f (a ∷ u) (b ∷ v))
unfolding word_dot
dot_step f s a b u v = add_assoc f s (mul f a b) (word_dot f u v)

pub dot_more : (f : FieldName) (u v : List ℕ) (s i : ℕ) → i < length u → i < length v → add f (add f s (mul f (slice_index u i) (slice_index v i))) (word_dot f (drop (i + 1) u) (drop (i + 1) v)) ≡ add f s (word_dot f (drop i u) (drop i v))
dot_more f u v s i l m =
    rw (drop-cons u i 0, drop-cons v i 0, add-one) (dot_step f s (slice_index u i) (slice_index v i) _ _)

dot_end : (f : FieldName) (s : ℕ) → s < size f → add f s (word_dot f [] []) ≡ s
unfolding word_dot
dot_end f s l = add_zero f s l

pub dot_all : (f : FieldName) (u v : List ℕ) (s i : ℕ) → s < size f → i ≡ length u → length u ≡ length v → add f s (word_dot f (drop i u) (drop i v)) ≡ s
dot_all f u v s i l e k =
    rw (drop_all i u (omega (arith, e)), drop_all i v (omega (arith, e, k))) (dot_end f s l)

pub ruleset dot_laws = (dot_none, dot_more, dot_all, zero_inside)

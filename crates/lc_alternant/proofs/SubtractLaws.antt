-- A word of the field back from its errors in the locator field.
--   error_found        each error is the image of a difference of symbols
--   no_error           so it is the image of an element
--   symbol_back        and the received symbol less the element of which it is the image is the symbol of the word
--   word_back          a word with these symbols is the word
use Rattle.std.proofs.Common.{◌≡◌, ◌≢◌, ℕ, ◌<◌, List, length, map, slice_index, refl, sym, ap, ◌∙◌, arith}
use Rattle.std.proofs.lemmas.List.{ext_get_or, get_or-map}
use Rattle.lc_algebra.specs.declared.FieldName.{FieldName}
use Rattle.lc_algebra.specs.Field.{size, add, neg}
use Rattle.lc_algebra.specs.Embedding.{IsSubfield, embed}
use Rattle.lc_algebra.specs.Word.{Fits, IsWord, difference}
use Rattle.lc_algebra.proofs.FieldLaws.{add_inside, add_comm, add_assoc, add_neg, neg_add, add_cancel}
use Rattle.lc_algebra.proofs.EmbeddingLaws.{embed_injective}
use Rattle.lc_algebra.proofs.WordLaws.{fits_symbol, index_difference, IsWord_difference}

error_found : (f K : FieldName) (x u e : List ℕ) (i : ℕ) → IsWord f (length x) u → e ≡ map (embed f K) (difference f x u) → i < length x → slice_index e i ≡ embed f K (slice_index (difference f x u) i)
error_found f K x u e i w h l =
    let d = difference f x u in
    let m : i < length d = omega (arith, l, (IsWord_difference f (length x) x u refl w.long).long) in
    ap (λ v. slice_index v i) h ∙ get_or-map (embed f K) d i 0 0 m

pub no_error : (f K : FieldName) (x u e : List ℕ) (i : ℕ) → IsWord f (length x) u → e ≡ map (embed f K) (difference f x u) → i < length x → ((a : ℕ) → a < size f → embed f K a ≢ slice_index e i) → ⊥
no_error f K x u e i w h l n =
    let d = difference f x u in
    n (slice_index d i) (fits_symbol f d (IsWord_difference f (length x) x u refl w.long).fits i) (sym (error_found f K x u e i w h l))

taken_back : (f : FieldName) (a b : ℕ) → a < size f → b < size f → add f a (neg f (add f a (neg f b))) ≡ b
taken_back f a b l m =
    let d = add f a (neg f b) in
    add_cancel f (add f a (neg f d)) b d (add_inside f a (neg f d)) m
    (cc (add_assoc f a (neg f d) d, neg_add f d, add_comm f a (neg f b), add_assoc f b (neg f b) a, add_neg f b, add_comm f 0 a))

pub symbol_back : (f K : FieldName) (x u e : List ℕ) (i a : ℕ) → IsSubfield f K → Fits f x → IsWord f (length x) u → e ≡ map (embed f K) (difference f x u) → i < length x → a < size f → embed f K a ≡ slice_index e i → add f (slice_index x i) (neg f a) ≡ slice_index u i
symbol_back f K x u e i a s g w h l m q =
    let d = difference f x u in
    let same : a ≡ slice_index d i = embed_injective f K a (slice_index d i) s m (fits_symbol f d (IsWord_difference f (length x) x u refl w.long).fits i) (q ∙ error_found f K x u e i w h l) in
    ap (λ b. add f (slice_index x i) (neg f b)) (same ∙ index_difference f x u i (sym w.long)) ∙ taken_back f (slice_index x i) (slice_index u i) (fits_symbol f x g i) (fits_symbol f u w.fits i)

pub word_back : (n : ℕ) (v u : List ℕ) → length v ≡ n → length u ≡ n → ((k : ℕ) → k < n → slice_index v k ≡ slice_index u k) → v ≡ u
word_back n v u e l h = ext_get_or 0 v u (e ∙ sym l) (λ k m. h k (omega (arith, m, e)))

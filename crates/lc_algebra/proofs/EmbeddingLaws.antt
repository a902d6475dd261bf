-- A field inside a larger one: what stands for its elements keeps sums and products, is told apart, and keeps residues.
--   decides_subfield          the test is_subfield decides IsSubfield
--   told_by_size              a field is told by its number of elements
--   embed_inside              what stands for an element is an element of the large field
--   embed_self                each element stands for itself in its own field
--   embed_add, embed_mul      sums and products
--   embed_prime               a number below the characteristic stands for itself
--   embed_zero, embed_one     0 and 1
--   embed_injective           distinct elements are told apart
--   embed_neg                 negatives
use Rattle.std.proofs.Common.{◌≡◌, ℕ, ◌%◌, ◌<◌, ◌⊎◌, inl, inr, ⊎_elim, Bool, true, false, not, ◌&&◌, ◌||◌, ◌==◌, slice_index, List, [], ◌∷◌, refl, subst, arith, Decides}
use Rattle.std.proofs.lemmas.Bool.Decides.{Decides-eqb, Decides-and}
use Rattle.std.proofs.lemmas.Bool.{and_parts}
use Rattle.lc_algebra.specs.declared.FieldName.{FieldName}
use Rattle.lc_algebra.specs.Field.{shape_of, size, coefficients, add, neg, mul}
use Rattle.lc_algebra.specs.Polynomial.{value_at}
use Rattle.lc_algebra.specs.Embedding.{IsSubfield, is_subfield, root, embed}
use Rattle.lc_algebra.proofs.FieldTests.{below, below_each, positive, above_one_characteristic, characteristic_inside}
use Rattle.lc_algebra.proofs.FieldLaws.{add_inside, neg_inside, mul_inside, add_neg, negative_unique}
use Rattle.lc_algebra.proofs.EmbeddingTests.{each_name, told_by_size, is_proper, sum_kept, product_kept, told_apart, keeps_test, images_test, images, image_at, found_root, found_is_root, pair_when, pair_test, pairs_test, self_from, self_test}
use Rattle.lc_algebra.proofs.PolynomialLaws.{value_inside}
pub use Rattle.lc_algebra.proofs.EmbeddingTests.{told_by_size}

pub decides_subfield : (small large : FieldName) → Decides (is_subfield small large) (IsSubfield small large)
unfolding is_subfield
decides_subfield small large =
    let d = Decides-and ((shape_of small).characteristic == (shape_of large).characteristic) ((shape_of large).degree % (shape_of small).degree == 0) (Decides-eqb (shape_of small).characteristic (shape_of large).characteristic) (Decides-eqb ((shape_of large).degree % (shape_of small).degree) 0) in
    ((λ e. let s = d.0 e in record { characteristic = s.0; degree = s.1 }), (λ s. d.1 (s.characteristic, s.degree)))

pub embed_inside : (small large : FieldName) (a : ℕ) → embed small large a < size large
unfolding embed
embed_inside small large a = value_inside large (coefficients small a) (root small large)

pub embed_self : (f : FieldName) (a : ℕ) → a < size f → embed f f a ≡ a
unfolding embed self_from
embed_self f a l =
    let e : found_root f f ≡ root f f = found_is_root f f in
    let t = below_each (λ a. value_at f (coefficients f a) (found_root f f) == a) (size f) (self_test f) a l in
    cc ((Decides-eqb (value_at f (coefficients f a) (found_root f f)) a).0 t)

same_or_not : (small large : FieldName) → IsSubfield small large → (b : Bool) → ((shape_of small).degree == (shape_of large).degree) ≡ b → (small ≡ large) ⊎ (is_proper small large ≡ true)
unfolding is_proper size
same_or_not small large s true t =
    let d : (shape_of small).degree ≡ (shape_of large).degree = (Decides-eqb (shape_of small).degree (shape_of large).degree).0 t in
    let c : (shape_of small).characteristic ≡ (shape_of large).characteristic = s.characteristic in
    inl (told_by_size small large (cc))
same_or_not small large s false t =
    let e : is_subfield small large ≡ true = (decides_subfield small large).1 s in
    inr (rw (e, t) refl)

-- a field in a larger one is the larger one, or its embedding is proper
same_or_proper : (small large : FieldName) → IsSubfield small large → (small ≡ large) ⊎ (is_proper small large ≡ true)
same_or_proper small large s = same_or_not small large s ((shape_of small).degree == (shape_of large).degree) refl

abbrev pictures : FieldName → FieldName → List ℕ
pictures small large = images small large (found_root small large) 0 (size small)

picture : (small large : FieldName) (a : ℕ) → a < size small → slice_index (pictures small large) a ≡ embed small large a
unfolding embed
picture small large a l = cc (image_at small large (found_root small large) a l, found_is_root small large)

proper_images : (small large : FieldName) → is_proper small large ≡ true → images_test small large (pictures small large) ≡ true
unfolding pair_test pair_when
proper_images small large p =
    let t : pair_test small large ≡ true = each_name (λ small. pair_test small large) (pairs_test large) small in
    rw p at t

proper_parts : (small large : FieldName) → is_proper small large ≡ true → (below (λ a. slice_index (pictures small large) a == a) (shape_of small).characteristic ≡ true) × (below (λ a. below (λ b. keeps_test small large (pictures small large) a b) (size small)) (size small) ≡ true)
unfolding images_test
proper_parts small large p =
    and_parts (below (λ a. slice_index (pictures small large) a == a) (shape_of small).characteristic) (below (λ a. below (λ b. keeps_test small large (pictures small large) a b) (size small)) (size small)) (proper_images small large p)

proper_residue : (small large : FieldName) → is_proper small large ≡ true → (a : ℕ) → a < (shape_of small).characteristic → embed small large a ≡ a
proper_residue small large p a l =
    let xs = pictures small large in
    let m : a < size small = omega (arith, characteristic_inside small) in
    let t = below_each (λ a. slice_index xs a == a) (shape_of small).characteristic (proper_parts small large p).0 a l in
    cc (picture small large a m, (Decides-eqb (slice_index xs a) a).0 t)

proper_keeps : (small large : FieldName) → is_proper small large ≡ true → (a b : ℕ) → a < size small → b < size small → (sum_kept small large (pictures small large) a b ≡ true) × (product_kept small large (pictures small large) a b ≡ true) × (told_apart (pictures small large) a b ≡ true)
unfolding keeps_test
proper_keeps small large p a b l m =
    let xs = pictures small large in
    let row = below_each (λ a. below (λ b. keeps_test small large xs a b) (size small)) (size small) (proper_parts small large p).1 a l in
    let pair = below_each (λ b. keeps_test small large xs a b) (size small) row b m in
    let (first, rest) = and_parts (sum_kept small large xs a b) (product_kept small large xs a b && told_apart xs a b) pair in
    let (second, third) = and_parts (product_kept small large xs a b) (told_apart xs a b) rest in
    (first, second, third)

proper_add : (small large : FieldName) → is_proper small large ≡ true → (a b : ℕ) → a < size small → b < size small → embed small large (add small a b) ≡ add large (embed small large a) (embed small large b)
unfolding sum_kept
proper_add small large p a b l m =
    let xs = pictures small large in
    let t = (proper_keeps small large p a b l m).0 in
    cc ((Decides-eqb (slice_index xs (add small a b)) (add large (slice_index xs a) (slice_index xs b))).0 t, picture small large a l, picture small large b m, picture small large (add small a b) (add_inside small a b))

proper_mul : (small large : FieldName) → is_proper small large ≡ true → (a b : ℕ) → a < size small → b < size small → embed small large (mul small a b) ≡ mul large (embed small large a) (embed small large b)
unfolding product_kept
proper_mul small large p a b l m =
    let xs = pictures small large in
    let t = (proper_keeps small large p a b l m).1 in
    cc ((Decides-eqb (slice_index xs (mul small a b)) (mul large (slice_index xs a) (slice_index xs b))).0 t, picture small large a l, picture small large b m, picture small large (mul small a b) (mul_inside small a b))

proper_injective : (small large : FieldName) → is_proper small large ≡ true → (a b : ℕ) → a < size small → b < size small → embed small large a ≡ embed small large b → a ≡ b
unfolding told_apart
proper_injective small large p a b l m e =
    let xs = pictures small large in
    let s : slice_index xs a ≡ slice_index xs b = cc (picture small large a l, picture small large b m) in
    let t : (slice_index xs a == slice_index xs b) ≡ true = (Decides-eqb (slice_index xs a) (slice_index xs b)).1 s in
    let h : (not (slice_index xs a == slice_index xs b) || (a == b)) ≡ true = (proper_keeps small large p a b l m).2 in
    (Decides-eqb a b).0 (rw t at h)

pub embed_add : (small large : FieldName) (a b : ℕ) → IsSubfield small large → a < size small → b < size small → embed small large (add small a b) ≡ add large (embed small large a) (embed small large b)
embed_add small large a b s l m =
    ⊎_elim
    (λ h. subst (λ f. embed small f (add small a b) ≡ add f (embed small f a) (embed small f b)) h (cc (embed_self small (add small a b) (add_inside small a b), embed_self small a l, embed_self small b m)))
    (λ h. proper_add small large h a b l m)
    (same_or_proper small large s)

pub embed_mul : (small large : FieldName) (a b : ℕ) → IsSubfield small large → a < size small → b < size small → embed small large (mul small a b) ≡ mul large (embed small large a) (embed small large b)
embed_mul small large a b s l m =
    ⊎_elim
    (λ h. subst (λ f. embed small f (mul small a b) ≡ mul f (embed small f a) (embed small f b)) h (cc (embed_self small (mul small a b) (mul_inside small a b), embed_self small a l, embed_self small b m)))
    (λ h. proper_mul small large h a b l m)
    (same_or_proper small large s)

pub embed_prime : (small large : FieldName) (a : ℕ) → IsSubfield small large → a < (shape_of small).characteristic → embed small large a ≡ a
embed_prime small large a s l =
    ⊎_elim
    (λ h. subst (λ f. embed small f a ≡ a) h (embed_self small a (omega (arith, characteristic_inside small))))
    (λ h. proper_residue small large h a l)
    (same_or_proper small large s)

pub embed_zero : (small large : FieldName) → IsSubfield small large → embed small large 0 ≡ 0
embed_zero small large s = embed_prime small large 0 s (positive small)

pub embed_one : (small large : FieldName) → IsSubfield small large → embed small large 1 ≡ 1
embed_one small large s = embed_prime small large 1 s (above_one_characteristic small)

pub embed_injective : (small large : FieldName) (a b : ℕ) → IsSubfield small large → a < size small → b < size small → embed small large a ≡ embed small large b → a ≡ b
embed_injective small large a b s l m e =
    ⊎_elim
    (λ h. let k = rw (← h) at e in cc (k, embed_self small a l, embed_self small b m))
    (λ h. proper_injective small large h a b l m e)
    (same_or_proper small large s)

pub embed_neg : (small large : FieldName) (a : ℕ) → IsSubfield small large → a < size small → embed small large (neg small a) ≡ neg large (embed small large a)
embed_neg small large a s l =
    negative_unique large (embed small large a) (embed small large (neg small a)) (embed_inside small large (neg small a))
    (cc (embed_add small large a (neg small a) s l (neg_inside small a), add_neg small a, embed_zero small large s))

pub ruleset embedding_keeps_arithmetic_laws = (embed_self, embed_prime)

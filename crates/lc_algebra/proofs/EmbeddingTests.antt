-- What is told of the eighteen proper embeddings of one of the eighteen fields in another by computing with the elements
-- of the small field, of which there are at most 16; and of each field in itself.
--   is_proper small large        the small field lies in the large one, and is another field
--   names                        the eighteen fields
--   each_of test fs, each_name   the test is passed by each field of a list; by each of the eighteen, and so by any
--   told_by_size                 a field is told by its number of elements
--   size_two, two_elements, has_two_elements      the field of 2 elements, and no other one, has 2 elements
--   found_root, found_is_root    the root, found by a search that stops at it
--   images small large r a n     what stands at the root r for a and the elements after it: n of them
--   images_test small large xs   the images xs keep sums, products, distinctness and residues
--   pair_test small large        that, where the embedding is proper
--   pairs_test large             each small field passes it
--   self_test                    each element stands for itself in its own field
--   size_three, binary_symbols   the elements of the two least fields
use Rattle.std.proofs.Common.{◌≡◌, ◌≢◌, ℕ, ◌⊎◌, inl, inr, ⊎_elim, Bool, true, false, not, cond, ◌&&◌, ◌||◌, ◌==◌, List, [], ◌∷◌, refl, sym, ap, ◌∙◌, slice_index, zero-add, add-zero, suc-add, add-suc, ◌+◌, arith, zero, suc, ◌<◌, ◌++◌, subst}
use Rattle.std.specs.Prelude.{IsTrue}
use Rattle.std.proofs.lemmas.Bool.{and_parts}
use Rattle.lc_algebra.specs.declared.FieldName.{FieldName}
use Rattle.lc_algebra.specs.declared.FieldName.TheVariants.{Gf2, Gf3, Gf4, Gf5, Gf7, Gf8, Gf9, Gf11, Gf13, Gf16, Gf25, Gf27, Gf32, Gf64, Gf81, Gf128, Gf243, Gf256}
use Rattle.lc_algebra.specs.Residue.{digits, number, plus, minus, times, top, up, times_x, product}
use Rattle.lc_algebra.specs.Field.{shape, shape_of, size, coefficients, add, mul, is_symbol}
use Rattle.lc_algebra.specs.Polynomial.{value_at}
use Rattle.lc_algebra.specs.Embedding.{is_subfield, first_from, first_that, root}
use Rattle.lc_algebra.proofs.FieldTests.{below}

unfoldable pub is_proper : FieldName → FieldName → Bool
is_proper small large = is_subfield small large && not ((shape_of small).degree == (shape_of large).degree)

unfoldable pub names : List FieldName
names = Gf2 ∷ Gf3 ∷ Gf4 ∷ Gf5 ∷ Gf7 ∷ Gf8 ∷ Gf9 ∷ Gf11 ∷ Gf13 ∷ Gf16 ∷ Gf25 ∷ Gf27 ∷ Gf32 ∷ Gf64 ∷ Gf81 ∷ Gf128 ∷ Gf243 ∷ Gf256 ∷ []

unfoldable pub each_of : (FieldName → Bool) → List FieldName → Bool
each_of test [] = true
each_of test (f ∷ fs) = test f && each_of test fs

abbrev IsOneOf : FieldName → List FieldName → Type 0
IsOneOf f [] = ⊥
IsOneOf f (g ∷ gs) = (f ≡ g) ⊎ IsOneOf f gs

each_of_one : (test : FieldName → Bool) (f : FieldName) (fs : List FieldName) → each_of test fs ≡ true → IsOneOf f fs → test f ≡ true
unfolding each_of
each_of_one test f [] e o = absurd o
each_of_one test f (g ∷ gs) e o =
    let (first, rest) = and_parts (test g) (each_of test gs) e in
    ⊎_elim (λ h. ap test h ∙ first) (λ h. each_of_one test f gs rest h) o

one_of_names : (f : FieldName) → IsOneOf f names
unfolding names
one_of_names Gf2 = inl refl
one_of_names Gf3 = inr (inl refl)
one_of_names Gf4 = inr (inr (inl refl))
one_of_names Gf5 = inr (inr (inr (inl refl)))
one_of_names Gf7 = inr (inr (inr (inr (inl refl))))
one_of_names Gf8 = inr (inr (inr (inr (inr (inl refl)))))
one_of_names Gf9 = inr (inr (inr (inr (inr (inr (inl refl))))))
one_of_names Gf11 = inr (inr (inr (inr (inr (inr (inr (inl refl)))))))
one_of_names Gf13 = inr (inr (inr (inr (inr (inr (inr (inr (inl refl))))))))
one_of_names Gf16 = inr (inr (inr (inr (inr (inr (inr (inr (inr (inl refl)))))))))
one_of_names Gf25 = inr (inr (inr (inr (inr (inr (inr (inr (inr (inr (inl refl))))))))))
one_of_names Gf27 = inr (inr (inr (inr (inr (inr (inr (inr (inr (inr (inr (inl refl)))))))))))
one_of_names Gf32 = inr (inr (inr (inr (inr (inr (inr (inr (inr (inr (inr (inr (inl refl))))))))))))
one_of_names Gf64 = inr (inr (inr (inr (inr (inr (inr (inr (inr (inr (inr (inr (inr (inl refl)))))))))))))
one_of_names Gf81 = inr (inr (inr (inr (inr (inr (inr (inr (inr (inr (inr (inr (inr (inr (inl refl))))))))))))))
one_of_names Gf128 = inr (inr (inr (inr (inr (inr (inr (inr (inr (inr (inr (inr (inr (inr (inr (inl refl)))))))))))))))
one_of_names Gf243 = inr (inr (inr (inr (inr (inr (inr (inr (inr (inr (inr (inr (inr (inr (inr (inr (inl refl))))))))))))))))
one_of_names Gf256 = inr (inr (inr (inr (inr (inr (inr (inr (inr (inr (inr (inr (inr (inr (inr (inr (inr (inl refl)))))))))))))))))

pub each_name : (test : FieldName → Bool) → each_of test names ≡ true → (f : FieldName) → test f ≡ true
each_name test e f = each_of_one test f names e (one_of_names f)

-- the first field of a list with n elements, and the field of 2 elements where there is none
unfoldable pub name_of : ℕ → List FieldName → FieldName
name_of n [] = Gf2
name_of n (f ∷ fs) = cond (size f == n) f (name_of n fs)

name_of_size : (f : FieldName) → name_of (size f) names ≡ f
unfolding name_of names shape shape_of size
name_of_size Gf2 = refl
name_of_size Gf3 = refl
name_of_size Gf4 = refl
name_of_size Gf5 = refl
name_of_size Gf7 = refl
name_of_size Gf8 = refl
name_of_size Gf9 = refl
name_of_size Gf11 = refl
name_of_size Gf13 = refl
name_of_size Gf16 = refl
name_of_size Gf25 = refl
name_of_size Gf27 = refl
name_of_size Gf32 = refl
name_of_size Gf64 = refl
name_of_size Gf81 = refl
name_of_size Gf128 = refl
name_of_size Gf243 = refl
name_of_size Gf256 = refl

-- a field is told by its number of elements
pub told_by_size : (f g : FieldName) → size f ≡ size g → f ≡ g
told_by_size f g e = cc (name_of_size f, name_of_size g)

pub size_two : size Gf2 ≡ 2
unfolding shape shape_of size
size_two = refl

pub two_elements : (f : FieldName) → size f ≡ 2 → f ≡ Gf2
two_elements f e = told_by_size f Gf2 (e ∙ sym size_two)

pub has_two_elements : ((f : FieldName) → size f ≢ 2) → ⊥
has_two_elements none = none Gf2 size_two

-- the search for a root that stops where it has found one
unfoldable pub found_from : (ℕ → Bool) → ℕ → ℕ → ℕ
found_from test start zero = start
found_from test start (suc count) = elim (test start) [ true ↦ start | false ↦ found_from test (suc start) count ]

found_case : (b : Bool) (x y : ℕ) → elim b [ true ↦ x | false ↦ y ] ≡ cond b x y
found_case true x y = refl
found_case false x y = refl

found_first : (test : ℕ → Bool) (start count : ℕ) → found_from test start count ≡ first_from test start count
unfolding found_from first_from
found_first test start zero = refl
found_first test start (suc count) =
    found_case (test start) start (found_from test (suc start) count) ∙ ap (cond (test start) start) (found_first test (suc start) count)

unfoldable pub found_root : FieldName → FieldName → ℕ
found_root small large = found_from (λ b. value_at large ((shape_of small).lower ++ 1 ∷ []) b == 0) 0 (size large)

pub found_is_root : (small large : FieldName) → found_root small large ≡ root small large
unfolding found_root root first_that
found_is_root small large = found_first (λ b. value_at large ((shape_of small).lower ++ 1 ∷ []) b == 0) 0 (size large)

unfoldable pub images : FieldName → FieldName → ℕ → ℕ → ℕ → List ℕ
images small large r a zero = []
images small large r a (suc n) = value_at large (coefficients small a) r ∷ images small large r (suc a) n

image_after : (small large : FieldName) (r a n k : ℕ) → k < n → slice_index (images small large r a n) k ≡ value_at large (coefficients small (a + k)) r
unfolding images
image_after small large r a zero k l = absurd (omega arith)
image_after small large r a (suc n) zero l = cc (add-zero a)
image_after small large r a (suc n) (suc k) l = cc (image_after small large r (suc a) n k (omega arith), suc-add a k, add-suc a k)

-- the images at the root are what stands for the elements
pub image_at : (small large : FieldName) (r a : ℕ) → a < size small → slice_index (images small large r 0 (size small)) a ≡ value_at large (coefficients small a) r
image_at small large r a l = cc (image_after small large r 0 (size small) a l, zero-add a)

unfoldable pub sum_kept : FieldName → FieldName → List ℕ → ℕ → ℕ → Bool
sum_kept small large xs a b = slice_index xs (add small a b) == add large (slice_index xs a) (slice_index xs b)

unfoldable pub product_kept : FieldName → FieldName → List ℕ → ℕ → ℕ → Bool
product_kept small large xs a b = slice_index xs (mul small a b) == mul large (slice_index xs a) (slice_index xs b)

unfoldable pub told_apart : List ℕ → ℕ → ℕ → Bool
told_apart xs a b = not (slice_index xs a == slice_index xs b) || (a == b)

unfoldable pub keeps_test : FieldName → FieldName → List ℕ → ℕ → ℕ → Bool
keeps_test small large xs a b = sum_kept small large xs a b && (product_kept small large xs a b && told_apart xs a b)

unfoldable pub images_test : FieldName → FieldName → List ℕ → Bool
images_test small large xs =
    below (λ a. slice_index xs a == a) (shape_of small).characteristic
    && below (λ a. below (λ b. keeps_test small large xs a b) (size small)) (size small)

unfoldable pub pair_when : Bool → FieldName → FieldName → Bool
pair_when true small large = images_test small large (images small large (found_root small large) 0 (size small))
pair_when false small large = true

unfoldable pub pair_test : FieldName → FieldName → Bool
pair_test small large = pair_when (is_proper small large) small large

pub pairs_test : (f : FieldName) → each_of (λ small. pair_test small f) names ≡ true
unfolding each_of names is_subfield is_proper sum_kept product_kept told_apart keeps_test images_test pair_when pair_test below found_from found_root images value_at add digits number plus minus times top up times_x product shape shape_of size coefficients mul
pairs_test Gf2 = refl
pairs_test Gf3 = refl
pairs_test Gf4 = refl
pairs_test Gf5 = refl
pairs_test Gf7 = refl
pairs_test Gf8 = refl
pairs_test Gf9 = refl
pairs_test Gf11 = refl
pairs_test Gf13 = refl
pairs_test Gf16 = refl
pairs_test Gf25 = refl
pairs_test Gf27 = refl
pairs_test Gf32 = refl
pairs_test Gf64 = refl
pairs_test Gf81 = refl
pairs_test Gf128 = refl
pairs_test Gf243 = refl
pairs_test Gf256 = refl

unfoldable pub self_from : FieldName → ℕ → Bool
self_from f r = below (λ a. value_at f (coefficients f a) r == a) (size f)

pub self_test : (f : FieldName) → self_from f (found_root f f) ≡ true
unfolding self_from below found_from found_root images value_at add digits number plus minus times top up times_x product shape shape_of size coefficients mul
self_test Gf2 = refl
self_test Gf3 = refl
self_test Gf4 = refl
self_test Gf5 = refl
self_test Gf7 = refl
self_test Gf8 = refl
self_test Gf9 = refl
self_test Gf11 = refl
self_test Gf13 = refl
self_test Gf16 = refl
self_test Gf25 = refl
self_test Gf27 = refl
self_test Gf32 = refl
self_test Gf64 = refl
self_test Gf81 = refl
self_test Gf128 = refl
self_test Gf243 = refl
self_test Gf256 = refl

pub size_three : size Gf3 ≡ 3
unfolding shape shape_of size
size_three = refl

pub binary_symbols : (f : FieldName) → f ≡ Gf2 → IsTrue (is_symbol f)
unfolding is_symbol size shape shape_of
binary_symbols f e = subst (λ g. IsTrue (is_symbol g)) (sym e) refl

-- What is told of each of the eighteen fields by computing with its elements.
--   below test n, below_each        the test is passed by each number below n
--   second_false       what an `or` with a false first part tells of the second
--   positive, above_one_characteristic, characteristic_inside      the characteristic
--   above_one                       the size
--   length-lower, residues_lower    the polynomial that is divided by has the field's degree, and residues for coefficients
--   monic_test                      and its own remainder is 0
--   times_one_test                  a times 1 is a, for each element
--   powers f n a                    a and the next powers: n of them, each the primitive element times the one before
--   stands a u                      a is one of u
--   each_stands u n                 the numbers from 1 to n are among u
--   order_test                      the primitive element to the size - 1 is 1
--   members_test                    each nonzero element is one of its powers
--   order_least_test                no power between is 1
--   primitive_positive, primitive_inside      it is a nonzero element
--   frobenius_test                  the power by the characteristic keeps sums with 1
use Rattle.std.proofs.Common.{◌≡◌, ℕ, zero, suc, ◌-◌, ◌<◌, Bool, true, false, ◌&&◌, ◌||◌, ◌==◌, List, [], ◌∷◌, length, refl, lit<, ◌++◌, replicate, lit≤, ◌≤◌, true≢false, ◌⊎◌}
use Rattle.std.proofs.lemmas.Bool.Decides.{Decides-below_and}
use Rattle.lc_algebra.specs.declared.FieldName.{FieldName}
use Rattle.lc_algebra.specs.declared.FieldName.TheVariants.{Gf2, Gf3, Gf4, Gf5, Gf7, Gf8, Gf9, Gf11, Gf13, Gf16, Gf25, Gf27, Gf32, Gf64, Gf81, Gf128, Gf243, Gf256}
use Rattle.lc_algebra.specs.Residue.{digits, number, plus, minus, times, top, up, times_x, product}
use Rattle.lc_algebra.proofs.ResidueLaws.{Residues}
use Rattle.lc_algebra.specs.Field.{shape, shape_of, size, coefficients, add, mul, pow}

unfoldable pub below : (ℕ → Bool) → ℕ → Bool
below test zero = true
below test (suc n) = test n && below test n

pub below_each : (test : ℕ → Bool) (n : ℕ) → below test n ≡ true → (k : ℕ) → k < n → test k ≡ true
unfolding below
below_each test n = (Decides-below_and test (λ k. test k ≡ true) (below test) (λ k. ((λ e. e), (λ e. e))) refl (λ m. refl) n).0

pub second_false : (a b : Bool) → (a || b) ≡ false → b ≡ false
second_false true b e = absurd (true≢false e)
second_false false b e = e

unfoldable pub powers : FieldName → ℕ → ℕ → List ℕ
powers f zero a = []
powers f (suc n) a = a ∷ powers f n (mul f (shape_of f).primitive a)

unfoldable pub stands : ℕ → List ℕ → Bool
stands a [] = false
stands a (b ∷ u) = (a == b) || stands a u

unfoldable pub each_stands : List ℕ → ℕ → Bool
each_stands u n = below (λ k. stands (suc k) u) n

pub positive : (f : FieldName) → 0 < (shape_of f).characteristic
unfolding shape shape_of
positive Gf2 = lit< tt
positive Gf3 = lit< tt
positive Gf4 = lit< tt
positive Gf5 = lit< tt
positive Gf7 = lit< tt
positive Gf8 = lit< tt
positive Gf9 = lit< tt
positive Gf11 = lit< tt
positive Gf13 = lit< tt
positive Gf16 = lit< tt
positive Gf25 = lit< tt
positive Gf27 = lit< tt
positive Gf32 = lit< tt
positive Gf64 = lit< tt
positive Gf81 = lit< tt
positive Gf128 = lit< tt
positive Gf243 = lit< tt
positive Gf256 = lit< tt

pub above_one : (f : FieldName) → 1 < size f
unfolding shape shape_of size
above_one Gf2 = lit< tt
above_one Gf3 = lit< tt
above_one Gf4 = lit< tt
above_one Gf5 = lit< tt
above_one Gf7 = lit< tt
above_one Gf8 = lit< tt
above_one Gf9 = lit< tt
above_one Gf11 = lit< tt
above_one Gf13 = lit< tt
above_one Gf16 = lit< tt
above_one Gf25 = lit< tt
above_one Gf27 = lit< tt
above_one Gf32 = lit< tt
above_one Gf64 = lit< tt
above_one Gf81 = lit< tt
above_one Gf128 = lit< tt
above_one Gf243 = lit< tt
above_one Gf256 = lit< tt

pub length-lower : (f : FieldName) → length (shape_of f).lower ≡ (shape_of f).degree
unfolding shape shape_of
length-lower Gf2 = refl
length-lower Gf3 = refl
length-lower Gf4 = refl
length-lower Gf5 = refl
length-lower Gf7 = refl
length-lower Gf8 = refl
length-lower Gf9 = refl
length-lower Gf11 = refl
length-lower Gf13 = refl
length-lower Gf16 = refl
length-lower Gf25 = refl
length-lower Gf27 = refl
length-lower Gf32 = refl
length-lower Gf64 = refl
length-lower Gf81 = refl
length-lower Gf128 = refl
length-lower Gf243 = refl
length-lower Gf256 = refl

pub times_one_test : (f : FieldName) → below (λ a. mul f a 1 == a) (size f) ≡ true
unfolding below digits number plus minus times top up times_x product shape shape_of size coefficients mul
times_one_test Gf2 = refl
times_one_test Gf3 = refl
times_one_test Gf4 = refl
times_one_test Gf5 = refl
times_one_test Gf7 = refl
times_one_test Gf8 = refl
times_one_test Gf9 = refl
times_one_test Gf11 = refl
times_one_test Gf13 = refl
times_one_test Gf16 = refl
times_one_test Gf25 = refl
times_one_test Gf27 = refl
times_one_test Gf32 = refl
times_one_test Gf64 = refl
times_one_test Gf81 = refl
times_one_test Gf128 = refl
times_one_test Gf243 = refl
times_one_test Gf256 = refl

pub order_test : (f : FieldName) → pow f (shape_of f).primitive (size f - 1) ≡ 1
unfolding pow digits number plus minus times top up times_x product shape shape_of size coefficients mul
order_test Gf2 = refl
order_test Gf3 = refl
order_test Gf4 = refl
order_test Gf5 = refl
order_test Gf7 = refl
order_test Gf8 = refl
order_test Gf9 = refl
order_test Gf11 = refl
order_test Gf13 = refl
order_test Gf16 = refl
order_test Gf25 = refl
order_test Gf27 = refl
order_test Gf32 = refl
order_test Gf64 = refl
order_test Gf81 = refl
order_test Gf128 = refl
order_test Gf243 = refl
order_test Gf256 = refl

pub members_test : (f : FieldName) → each_stands (powers f (size f - 1) 1) (size f - 1) ≡ true
unfolding below powers stands each_stands digits number plus minus times top up times_x product shape shape_of size coefficients mul
members_test Gf2 = refl
members_test Gf3 = refl
members_test Gf4 = refl
members_test Gf5 = refl
members_test Gf7 = refl
members_test Gf8 = refl
members_test Gf9 = refl
members_test Gf11 = refl
members_test Gf13 = refl
members_test Gf16 = refl
members_test Gf25 = refl
members_test Gf27 = refl
members_test Gf32 = refl
members_test Gf64 = refl
members_test Gf81 = refl
members_test Gf128 = refl
members_test Gf243 = refl
members_test Gf256 = refl

pub order_least_test : (f : FieldName) → stands 1 (powers f (size f - 2) (mul f (shape_of f).primitive 1)) ≡ false
unfolding powers stands digits number plus minus times top up times_x product shape shape_of size coefficients mul
order_least_test Gf2 = refl
order_least_test Gf3 = refl
order_least_test Gf4 = refl
order_least_test Gf5 = refl
order_least_test Gf7 = refl
order_least_test Gf8 = refl
order_least_test Gf9 = refl
order_least_test Gf11 = refl
order_least_test Gf13 = refl
order_least_test Gf16 = refl
order_least_test Gf25 = refl
order_least_test Gf27 = refl
order_least_test Gf32 = refl
order_least_test Gf64 = refl
order_least_test Gf81 = refl
order_least_test Gf128 = refl
order_least_test Gf243 = refl
order_least_test Gf256 = refl

pub above_one_characteristic : (f : FieldName) → 1 < (shape_of f).characteristic
unfolding shape shape_of
above_one_characteristic Gf2 = lit< tt
above_one_characteristic Gf3 = lit< tt
above_one_characteristic Gf4 = lit< tt
above_one_characteristic Gf5 = lit< tt
above_one_characteristic Gf7 = lit< tt
above_one_characteristic Gf8 = lit< tt
above_one_characteristic Gf9 = lit< tt
above_one_characteristic Gf11 = lit< tt
above_one_characteristic Gf13 = lit< tt
above_one_characteristic Gf16 = lit< tt
above_one_characteristic Gf25 = lit< tt
above_one_characteristic Gf27 = lit< tt
above_one_characteristic Gf32 = lit< tt
above_one_characteristic Gf64 = lit< tt
above_one_characteristic Gf81 = lit< tt
above_one_characteristic Gf128 = lit< tt
above_one_characteristic Gf243 = lit< tt
above_one_characteristic Gf256 = lit< tt

pub primitive_positive : (f : FieldName) → 0 < (shape_of f).primitive
unfolding shape shape_of
primitive_positive Gf2 = lit< tt
primitive_positive Gf3 = lit< tt
primitive_positive Gf4 = lit< tt
primitive_positive Gf5 = lit< tt
primitive_positive Gf7 = lit< tt
primitive_positive Gf8 = lit< tt
primitive_positive Gf9 = lit< tt
primitive_positive Gf11 = lit< tt
primitive_positive Gf13 = lit< tt
primitive_positive Gf16 = lit< tt
primitive_positive Gf25 = lit< tt
primitive_positive Gf27 = lit< tt
primitive_positive Gf32 = lit< tt
primitive_positive Gf64 = lit< tt
primitive_positive Gf81 = lit< tt
primitive_positive Gf128 = lit< tt
primitive_positive Gf243 = lit< tt
primitive_positive Gf256 = lit< tt

pub primitive_inside : (f : FieldName) → (shape_of f).primitive < size f
unfolding shape shape_of size
primitive_inside Gf2 = lit< tt
primitive_inside Gf3 = lit< tt
primitive_inside Gf4 = lit< tt
primitive_inside Gf5 = lit< tt
primitive_inside Gf7 = lit< tt
primitive_inside Gf8 = lit< tt
primitive_inside Gf9 = lit< tt
primitive_inside Gf11 = lit< tt
primitive_inside Gf13 = lit< tt
primitive_inside Gf16 = lit< tt
primitive_inside Gf25 = lit< tt
primitive_inside Gf27 = lit< tt
primitive_inside Gf32 = lit< tt
primitive_inside Gf64 = lit< tt
primitive_inside Gf81 = lit< tt
primitive_inside Gf128 = lit< tt
primitive_inside Gf243 = lit< tt
primitive_inside Gf256 = lit< tt

pub frobenius_test : (f : FieldName) → below (λ a. pow f (add f 1 a) (shape_of f).characteristic == add f 1 (pow f a (shape_of f).characteristic)) (size f) ≡ true
unfolding below pow add digits number plus minus times top up times_x product shape shape_of size coefficients mul
frobenius_test Gf2 = refl
frobenius_test Gf3 = refl
frobenius_test Gf4 = refl
frobenius_test Gf5 = refl
frobenius_test Gf7 = refl
frobenius_test Gf8 = refl
frobenius_test Gf9 = refl
frobenius_test Gf11 = refl
frobenius_test Gf13 = refl
frobenius_test Gf16 = refl
frobenius_test Gf25 = refl
frobenius_test Gf27 = refl
frobenius_test Gf32 = refl
frobenius_test Gf64 = refl
frobenius_test Gf81 = refl
frobenius_test Gf128 = refl
frobenius_test Gf243 = refl
frobenius_test Gf256 = refl

pub characteristic_inside : (f : FieldName) → (shape_of f).characteristic ≤ size f
unfolding shape shape_of size
characteristic_inside Gf2 = lit≤ tt
characteristic_inside Gf3 = lit≤ tt
characteristic_inside Gf4 = lit≤ tt
characteristic_inside Gf5 = lit≤ tt
characteristic_inside Gf7 = lit≤ tt
characteristic_inside Gf8 = lit≤ tt
characteristic_inside Gf9 = lit≤ tt
characteristic_inside Gf11 = lit≤ tt
characteristic_inside Gf13 = lit≤ tt
characteristic_inside Gf16 = lit≤ tt
characteristic_inside Gf25 = lit≤ tt
characteristic_inside Gf27 = lit≤ tt
characteristic_inside Gf32 = lit≤ tt
characteristic_inside Gf64 = lit≤ tt
characteristic_inside Gf81 = lit≤ tt
characteristic_inside Gf128 = lit≤ tt
characteristic_inside Gf243 = lit≤ tt
characteristic_inside Gf256 = lit≤ tt

pub residues_lower : (f : FieldName) → Residues (shape_of f).characteristic (shape_of f).lower
unfolding shape shape_of
residues_lower Gf2 = (lit< tt, tt)
residues_lower Gf3 = (lit< tt, tt)
residues_lower Gf4 = (lit< tt, (lit< tt, tt))
residues_lower Gf5 = (lit< tt, tt)
residues_lower Gf7 = (lit< tt, tt)
residues_lower Gf8 = (lit< tt, (lit< tt, (lit< tt, tt)))
residues_lower Gf9 = (lit< tt, (lit< tt, tt))
residues_lower Gf11 = (lit< tt, tt)
residues_lower Gf13 = (lit< tt, tt)
residues_lower Gf16 = (lit< tt, (lit< tt, (lit< tt, (lit< tt, tt))))
residues_lower Gf25 = (lit< tt, (lit< tt, tt))
residues_lower Gf27 = (lit< tt, (lit< tt, (lit< tt, tt)))
residues_lower Gf32 = (lit< tt, (lit< tt, (lit< tt, (lit< tt, (lit< tt, tt)))))
residues_lower Gf64 = (lit< tt, (lit< tt, (lit< tt, (lit< tt, (lit< tt, (lit< tt, tt))))))
residues_lower Gf81 = (lit< tt, (lit< tt, (lit< tt, (lit< tt, tt))))
residues_lower Gf128 = (lit< tt, (lit< tt, (lit< tt, (lit< tt, (lit< tt, (lit< tt, (lit< tt, tt)))))))
residues_lower Gf243 = (lit< tt, (lit< tt, (lit< tt, (lit< tt, (lit< tt, tt)))))
residues_lower Gf256 = (lit< tt, (lit< tt, (lit< tt, (lit< tt, (lit< tt, (lit< tt, (lit< tt, (lit< tt, tt))))))))

pub monic_test : (f : FieldName) → product (shape_of f).characteristic (shape_of f).lower ((shape_of f).lower ++ 1 ∷ []) (coefficients f 1) ≡ replicate (length (shape_of f).lower) 0
unfolding digits plus minus times top up times_x product shape shape_of coefficients
monic_test Gf2 = refl
monic_test Gf3 = refl
monic_test Gf4 = refl
monic_test Gf5 = refl
monic_test Gf7 = refl
monic_test Gf8 = refl
monic_test Gf9 = refl
monic_test Gf11 = refl
monic_test Gf13 = refl
monic_test Gf16 = refl
monic_test Gf25 = refl
monic_test Gf27 = refl
monic_test Gf32 = refl
monic_test Gf64 = refl
monic_test Gf81 = refl
monic_test Gf128 = refl
monic_test Gf243 = refl
monic_test Gf256 = refl

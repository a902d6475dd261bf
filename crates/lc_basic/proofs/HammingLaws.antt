-- When a Hamming code is refused, and how its length is found without overflow.
--   power_small                    q^r, where there are at most 255 points
--   points_next        one digit more
--   product_small, points_within   bounds that the loops keep
--   length_is, length_passed, length_least    the length, or that it is above 255
--   power_positive, points_fit, length_fits     what the columns are counted by
--   hamming_too_large, hamming_few, hamming_long, hamming_fine      the first refusal
use Rattle.std.proofs.Common.{◌≡◌, ℕ, suc, ◌+◌, ◌-◌, ◌*◌, ◌^◌, ◌<◌, ◌≤◌, true, false, Some, None, nat_lt, refl, sym, ap, subst, ◌∙◌, ⊎_elim, arith}
use Rattle.std.proofs.Math.Nat.{pow-zero, one-le-pow, mul-le-mul_left, mul-le-mul_right}
use Rattle.std.proofs.lemmas.Bool.{cases_lt}
use Rattle.std.proofs.lemmas.Grind.{pow_more}
use Rattle.lc_algebra.specs.declared.FieldName.{FieldName}
use Rattle.lc_algebra.specs.Field.{size, is_symbol}
use Rattle.lc_algebra.proofs.FieldLaws.{one_inside}
use Rattle.lc_constructions.specs.Basic.{hamming_length}
use Rattle.lc_constructions.specs.declared.refusal.CodeRefusal.TheVariants.{BadLength, BadArgument, FieldTooLarge}
use Rattle.lc_constructions.specs.Code.{is_length}
use Rattle.lc_constructions.specs.Refusal.{refuse_if, first_refusal}
use Rattle.lc_constructions.specs.Refusals.{too_large, bad_length, bad_argument, hamming_refusals}
use Rattle.lc_constructions.proofs.RefusalLaws.{long_length}
use Rattle.lc_code.proofs.CoordinateSteps.{small_size}
use Rattle.lc_basic.specs.Column.{points}
use Rattle.lc_basic.proofs.ColumnLaws.{power_points, length_points, points_more, power_first, columns_first, columns_more}

pub power_small : (q r : ℕ) → 1 < q → q ≤ 16 → points q r ≤ 255 → q ^ r ≤ 3826
power_small q r l m h =
    let a : (q - 1) * points q r ≤ (q - 1) * 255 = mul-le-mul_left (q - 1) h in
    omega (arith, power_points q r l, a, m)

pub points_next : (q i : ℕ) → points q (i + 1) ≡ points q i + q ^ i
unfolding points
points_next q i = let e : i + 1 ≡ suc i = omega arith in ap (points q) e

pub length_is : (q r n : ℕ) → 1 < q → n ≡ points q r → n ≡ hamming_length q r
length_is q r n l e = e ∙ sym (length_points q r l)

pub length_passed : (q r i n : ℕ) → 1 < q → i < r → n ≡ points q (i + 1) → 255 < n → 255 < hamming_length q r
length_passed q r i n l k e h = omega (arith, length_points q r l, points_more q (i + 1) r (omega (arith, k)), e, h)

pub points_one : (q : ℕ) → points q 1 ≡ 1
unfolding points
points_one q = omega (arith, pow-zero q)

pub product_small : (q i x : ℕ) → 1 < q → q ≤ 16 → points q i ≤ 255 → x ≡ q ^ i → x * q ≤ 61216
product_small q i x l m h e =
    let a : x ≤ 3826 = omega (arith, e, power_small q i l m h) in
    let b : x * q ≤ 3826 * q = mul-le-mul_right q a in
    omega (arith, b, m)

pub points_within : (q i r : ℕ) → i ≤ r → points q r ≤ 255 → points q i ≤ 255
points_within q i r l h = omega (arith, points_more q i r l, h)

pub length_least : (q r : ℕ) → 1 < q → 1 ≤ r → 1 ≤ hamming_length q r
length_least q r l k = omega (arith, length_points q r l, points_more q 1 r k, points_one q)

pub hamming_too_large : (f : FieldName) (r : ℕ) → is_symbol f ≡ false → first_refusal (hamming_refusals f r) ≡ Some FieldTooLarge
unfolding first_refusal refuse_if too_large bad_length bad_argument hamming_refusals
hamming_too_large f r a = rw a refl

pub hamming_few : (f : FieldName) (r : ℕ) → is_symbol f ≡ true → nat_lt r 2 ≡ true → first_refusal (hamming_refusals f r) ≡ Some (BadArgument 1)
unfolding first_refusal refuse_if too_large bad_length bad_argument hamming_refusals
hamming_few f r a b = rw (a, b) refl

pub hamming_long : (f : FieldName) (r q n : ℕ) → is_symbol f ≡ true → nat_lt r 2 ≡ false → q ≡ size f → (n ≤ 255 → n ≡ hamming_length q r) → (255 < n → 255 < hamming_length q r) → is_length n ≡ false → first_refusal (hamming_refusals f r) ≡ Some BadLength
unfolding first_refusal refuse_if too_large bad_length bad_argument hamming_refusals
hamming_long f r q n a b s h k c =
    let t : is_length (hamming_length (size f) r) ≡ false = subst (λ x. is_length (hamming_length x r) ≡ false) s (⊎_elim (λ m. long_length (hamming_length q r) (k m)) (λ m. subst (λ x. is_length x ≡ false) (h (omega (arith, m))) c) (cases_lt 255 n)) in
    rw (a, b, t) refl

pub hamming_fine : (f : FieldName) (r q n : ℕ) → is_symbol f ≡ true → nat_lt r 2 ≡ false → q ≡ size f → n ≤ 255 → (n ≤ 255 → n ≡ hamming_length q r) → is_length n ≡ true → first_refusal (hamming_refusals f r) ≡ None
unfolding first_refusal refuse_if too_large bad_length bad_argument hamming_refusals
hamming_fine f r q n a b s m h c =
    let t : is_length (hamming_length (size f) r) ≡ true = subst (λ x. is_length (hamming_length x r) ≡ true) s (subst (λ x. is_length x ≡ true) (h m) c) in
    rw (a, b, t) refl

pub power_positive : (q e x : ℕ) → 1 < q → x ≡ q ^ e → 0 < x
power_positive q e x l h = omega (arith, h, one-le-pow e q (omega (arith, l)))

pub points_fit : (f : FieldName) (r q : ℕ) → q ≡ size f → hamming_length (size f) r ≤ 255 → points q r ≤ 255
points_fit f r q e h = subst (λ k. points k r ≤ 255) (sym e) (omega (arith, h, length_points (size f) r (one_inside f)))

pub length_fits : (f : FieldName) (r q n : ℕ) → q ≡ size f → hamming_length (size f) r ≤ 255 → (n ≤ 255 → n ≡ hamming_length q r) → (255 < n → 255 < hamming_length q r) → n ≡ hamming_length (size f) r
length_fits f r q n e h k m =
    let t : hamming_length q r ≡ hamming_length (size f) r = ap (λ x. hamming_length x r) e in
    ⊎_elim (λ a. absurd (omega (arith, m a, t, h))) (λ a. k (omega (arith, a)) ∙ t) (cases_lt 255 n)

pub ruleset check_hamming_laws = (small_size, hamming_too_large, hamming_few, hamming_long, hamming_fine)

pub ruleset length_of_laws = (power_small, points_next, pow_more, length_is, length_passed, length_least)

pub ruleset power_laws = (pow_more, power_positive)

pub ruleset digits_of_laws = (power_first, columns_first, columns_more, pow_more)

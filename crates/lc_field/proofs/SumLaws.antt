-- Sums and negatives, as the code finds them.
--   sum_is           a sum, digit by digit
--   xor_add          a sum in characteristic 2 is an exclusive or
--   xor_below        and is below the size
--   neg_even         there, an element is its own negative
--   neg_product      the negative is the product with the characteristic less 1
use Rattle.std.proofs.Common.{◌≡◌, ℕ, zero, suc, ◌+◌, ◌-◌, ◌*◌, ◌/◌, ◌%◌, ◌^◌, ◌<◌, refl, ap, arith, mod-lt, pow-suc, bit_xor}
use Rattle.std.proofs.Math.Nat.{mod-add-div, pow-zero}
use Rattle.std.proofs.lemmas.Nat.{xor_block, div_below}
use Rattle.lc_algebra.specs.declared.FieldName.{FieldName}
use Rattle.lc_algebra.specs.declared.FieldName.TheVariants.{Gf2}
use Rattle.lc_algebra.specs.Residue.{digits, number, plus, minus}
use Rattle.lc_algebra.specs.Field.{shape, shape_of, size, coefficients, add, neg, mul}
use Rattle.lc_algebra.proofs.ResidueLaws.{times_one}
use Rattle.lc_algebra.proofs.FieldLaws.{residues_coefficients, add_inside, neg_one_mul, one_mul, neg_inside}
use Rattle.lc_field.specs.declared.row.Row.{Row}
use Rattle.lc_field.specs.Rows.{IsRow}
use Rattle.lc_field.specs.Tables.{combined}

combined_add : (f : FieldName) (a b : ℕ) → combined (shape_of f).characteristic (shape_of f).degree 1 a b ≡ add f a b
unfolding combined add coefficients
combined_add f a b =
    ap (λ u. number (shape_of f).characteristic (plus (shape_of f).characteristic (coefficients f a) u)) (times_one (shape_of f).characteristic (coefficients f b) (residues_coefficients f b))

pub sum_is : (r : Row) (a b : ℕ) → IsRow r → combined r.characteristic r.degree 1 a b ≡ add r.name a b
sum_is r a b i = rw (i.characteristic, i.degree) (combined_add r.name a b)

-- characteristic 2

xor_bits : (r s : ℕ) → r < 2 → s < 2 → bit_xor r s ≡ (r + s) % 2
xor_bits zero zero l m = refl
xor_bits zero (suc zero) l m = refl
xor_bits (suc zero) zero l m = refl
xor_bits (suc zero) (suc zero) l m = refl
xor_bits (suc (suc r)) s l m = absurd (omega arith)
xor_bits zero (suc (suc s)) l m = absurd (omega arith)
xor_bits (suc zero) (suc (suc s)) l m = absurd (omega arith)

xor_digits : (n a b : ℕ) → a < 2 ^ n → b < 2 ^ n → bit_xor a b ≡ number 2 (plus 2 (digits 2 n a) (digits 2 n b))
unfolding digits number plus
xor_digits zero a b l m =
    let za : a ≡ 0 = omega (arith, pow-zero 2) in
    let zb : b ≡ 0 = omega (arith, pow-zero 2) in
    rw (za, zb) refl
xor_digits (suc n) a b l m =
    let la : a / 2 < 2 ^ n = div_below a 2 (2 ^ n) (omega arith) (omega (arith, pow-suc 2 n)) in
    let lb : b / 2 < 2 ^ n = div_below b 2 (2 ^ n) (omega arith) (omega (arith, pow-suc 2 n)) in
    let ra : a % 2 < 2 = mod-lt a (omega arith) in
    let rb : b % 2 < 2 = mod-lt b (omega arith) in
    let wa : (a / 2) * 2 + a % 2 ≡ a = omega (arith, mod-add-div a 2) in
    let wb : (b / 2) * 2 + b % 2 ≡ b = omega (arith, mod-add-div b 2) in
    let e : bit_xor ((a / 2) * 2 + a % 2) ((b / 2) * 2 + b % 2) ≡ bit_xor (a / 2) (b / 2) * 2 + bit_xor (a % 2) (b % 2) = xor_block 1 (a / 2) (b / 2) (a % 2) (b % 2) ra rb in
    let i : bit_xor (a / 2) (b / 2) ≡ number 2 (plus 2 (digits 2 n (a / 2)) (digits 2 n (b / 2))) = xor_digits n (a / 2) (b / 2) la lb in
    let j : bit_xor (a % 2) (b % 2) ≡ (a % 2 + b % 2) % 2 = xor_bits (a % 2) (b % 2) ra rb in
    let whole : bit_xor a b ≡ bit_xor (a / 2) (b / 2) * 2 + bit_xor (a % 2) (b % 2) = rw (wa, wb) at e in
    omega (arith, whole, i, j)

pub xor_add : (f : FieldName) (a b : ℕ) → (shape_of f).characteristic ≡ 2 → a < size f → b < size f → bit_xor a b ≡ add f a b
unfolding add coefficients size
xor_add f a b e l m = rw e (xor_digits (shape_of f).degree a b (rw e at l) (rw e at m))

-- negatives

negative_one : (f : FieldName) → neg f 1 ≡ (shape_of f).characteristic - 1
unfolding digits number minus shape shape_of coefficients neg
negative_one Gf2 = refl
negative_one _ = refl

pub neg_product : (f : FieldName) (a : ℕ) → mul f ((shape_of f).characteristic - 1) a ≡ neg f a
neg_product f a = cc (negative_one f, neg_one_mul f a)

pub neg_even : (f : FieldName) (a : ℕ) → (shape_of f).characteristic ≡ 2 → a < size f → a ≡ neg f a
neg_even f a e l =
    let one : (shape_of f).characteristic - 1 ≡ 1 = omega (arith, e) in
    cc (neg_product f a, one_mul f a l)

pub xor_below : (f : FieldName) (a b : ℕ) → (shape_of f).characteristic ≡ 2 → a < size f → b < size f → bit_xor a b < size f
xor_below f a b e l m = rw (xor_add f a b e l m) (add_inside f a b)

pub ruleset add_laws = (xor_add, xor_below, add_inside)

pub ruleset neg_laws = (neg_even, neg_product, neg_inside)

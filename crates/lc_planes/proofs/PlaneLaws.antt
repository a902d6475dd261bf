-- Planes of words, symbol by symbol.
--   plane_cons, plane_none       the planes of a word with a symbol more, and of the empty word
--   two_bits, or_bits, xor_bits, bits_of      bits are 0 and 1: their or and exclusive or
--   ones_bit                     a bit as a number of ones
--   plane_sum                    in characteristic 2 a plane of a sum is an exclusive or
--   plane_padded                 the planes of a word with zeros after it
--   plane_mask                   a plane of 64 symbols, by vectors
--   bit_plane                    a bit of a plane is a bit of a symbol
--   ones_any                     the ones of the or of four planes
use Rattle.std.proofs.Common.{◌≡◌, ◌⊎◌, ℕ, zero, suc, ◌+◌, ◌-◌, ◌*◌, ◌/◌, ◌%◌, ◌^◌, ◌<◌, ◌≤◌, not, cond, ◌==◌, List, [], ◌∷◌, length, map, replicate, slice_index, bit_and, bit_or, bit_xor, count_ones, refl, sym, ap, ◌∙◌, inl, inr, arith, w8}
use Rattle.std.specs.Int.{bit_at}
use Rattle.std.proofs.lemmas.Bool.{ne_eqb}
use Rattle.std.proofs.lemmas.Bool.Decides.{Decides-eqb}
use Rattle.std.proofs.lemmas.Nat.{xor_block, or_block, ones_cat, pow_pos}
use Rattle.std.proofs.lemmas.Nat.Bits.{bit_at-lt, bit_at-zero, bit_at_xor, bit_at_lowest, bit_at-suc, and_pow}
use Rattle.std.proofs.lemmas.Simd.{bitmask_splat, zip2_splat, length-zip2, map-map}
use lib.Count.{ones}
use lib.Lanes.{zip2, mask_l, top}
use mir.Val.{bits, hbits}
use Rattle.lc_algebra.specs.declared.FieldName.{FieldName}
use Rattle.lc_algebra.specs.Field.{add, shape_of}
use Rattle.lc_algebra.specs.Word.{Fits, word_sum, weight}
use Rattle.lc_algebra.proofs.FieldTests.{below, below_each}
use Rattle.lc_algebra.proofs.WordLaws.{weight_cons, fits_head, fits_tail}
use Rattle.lc_field.proofs.SumLaws.{xor_add}
use Rattle.lc_vec.specs.Packed.{packed}
use Rattle.lc_planes.specs.Planes.{plane}

pub plane_cons : (j a : ℕ) (u : List ℕ) → plane j (a ∷ u) ≡ plane j u * 2 + bit_at a j
unfolding plane packed
plane_cons j a u = refl

-- bits
pub two_bits : (x : ℕ) → x < 2 → (x ≡ 0) ⊎ (x ≡ 1)
two_bits zero l = inl refl
two_bits (suc zero) l = inr refl
two_bits (suc (suc x)) l = absurd (omega (arith, l))

pub record OrBits (x y : ℕ) : Type 0 where
  pub small : bit_or x y < 2
  pub none : bit_or x y ≡ 0 → (x ≡ 0) × (y ≡ 0)

pub or_bits : (x y : ℕ) → x < 2 → y < 2 → OrBits x y
or_bits zero zero l m = record { small = omega arith; none = λ e. (refl, refl) }
or_bits zero (suc zero) l m = record { small = omega arith; none = λ e. absurd (omega (arith, e)) }
or_bits (suc zero) zero l m = record { small = omega arith; none = λ e. absurd (omega (arith, e)) }
or_bits (suc zero) (suc zero) l m = record { small = omega arith; none = λ e. absurd (omega (arith, e)) }
or_bits zero (suc (suc y)) l m = absurd (omega (arith, m))
or_bits (suc zero) (suc (suc y)) l m = absurd (omega (arith, m))
or_bits (suc (suc x)) y l m = absurd (omega (arith, l))

pub record XorBits (x y : ℕ) : Type 0 where
  pub small : bit_xor x y < 2
  pub none : bit_xor x y ≡ 0 → x ≡ y
  pub same : x ≡ y → bit_xor x y ≡ 0
  pub sum : bit_xor x y ≡ (x + y) % 2

pub xor_bits : (x y : ℕ) → x < 2 → y < 2 → XorBits x y
xor_bits zero zero l m = record { small = omega arith; none = λ e. refl; same = λ e. refl; sum = refl }
xor_bits zero (suc zero) l m = record { small = omega arith; none = λ e. absurd (omega (arith, e)); same = λ e. absurd (omega (arith, e)); sum = refl }
xor_bits (suc zero) zero l m = record { small = omega arith; none = λ e. absurd (omega (arith, e)); same = λ e. absurd (omega (arith, e)); sum = refl }
xor_bits (suc zero) (suc zero) l m = record { small = omega arith; none = λ e. refl; same = λ e. refl; sum = refl }
xor_bits zero (suc (suc y)) l m = absurd (omega (arith, m))
xor_bits (suc zero) (suc (suc y)) l m = absurd (omega (arith, m))
xor_bits (suc (suc x)) y l m = absurd (omega (arith, l))

pub bits_of : (a b j : ℕ) → XorBits (bit_at a j) (bit_at b j)
bits_of a b j = xor_bits (bit_at a j) (bit_at b j) (bit_at-lt a j) (bit_at-lt b j)

pub ones_bit : (x m : ℕ) → x < 2 → ones m + ones x ≡ ones m + x
unfolding ones
ones_bit zero m l = refl
ones_bit (suc zero) m l = refl
ones_bit (suc (suc x)) m l = absurd (omega (arith, l))

plane_nil : (j : ℕ) → plane j [] ≡ bit_xor (plane j []) (plane j [])
unfolding plane packed
plane_nil j = refl

pub plane_sum : (f : FieldName) (j : ℕ) (u v : List ℕ) → (shape_of f).characteristic ≡ 2 → length u ≡ length v → Fits f u → Fits f v → plane j (word_sum f u v) ≡ bit_xor (plane j u) (plane j v)
unfolding word_sum
plane_sum f j [] [] two e h i = plane_nil j
plane_sum f j [] (b ∷ v) two e h i = absurd (omega (arith, e))
plane_sum f j (a ∷ u) [] two e h i = absurd (omega (arith, e))
plane_sum f j (a ∷ u) (b ∷ v) two e h i =
    let t = plane_sum f j u v two (omega (arith, e)) (fits_tail f a u h) (fits_tail f b v i) in
    let x = xor_block 1 (plane j u) (plane j v) (bit_at a j) (bit_at b j) (bit_at-lt a j) (bit_at-lt b j) in
    let bit : bit_at (add f a b) j ≡ bit_xor (bit_at a j) (bit_at b j) = ap (λ z. bit_at z j) (sym (xor_add f a b two (fits_head f a u h) (fits_head f b v i))) ∙ bit_at_xor a b j ∙ sym (bits_of a b j).sum in
    plane_cons j (add f a b) (word_sum f u v) ∙ ap (λ z. z * 2 + bit_at (add f a b) j) t ∙ ap (λ z. bit_xor (plane j u) (plane j v) * 2 + z) bit ∙ sym x
    ∙ ap (λ z. bit_xor z (plane j v * 2 + bit_at b j)) (sym (plane_cons j a u)) ∙ ap (bit_xor (plane j (a ∷ u))) (sym (plane_cons j b v))

-- planes of words with zeros after them
pub plane_none : (j : ℕ) → plane j [] ≡ 0
unfolding plane packed
plane_none j = refl

pub plane_padded : (j : ℕ) (u v : List ℕ) → length u ≤ length v → ((t : ℕ) → t < length u → slice_index v t ≡ slice_index u t) → ((t : ℕ) → length u ≤ t → slice_index v t ≡ 0) → plane j v ≡ plane j u
plane_padded j [] [] e h rest = refl
plane_padded j [] (b ∷ v) e h rest =
    let t = plane_padded j [] v (omega arith) (λ t l. absurd (omega (arith, l))) (λ t l. rest (suc t) (omega (arith, l))) in
    let bit : bit_at b j ≡ 0 = ap (λ z. bit_at z j) (rest 0 (omega arith)) ∙ bit_at-zero j in
    omega (arith, plane_cons j b v, t, bit, plane_none j)
plane_padded j (a ∷ u) [] e h rest = absurd (omega (arith, e))
plane_padded j (a ∷ u) (b ∷ v) e h rest =
    let t = plane_padded j u v (omega (arith, e)) (λ t l. h (suc t) (omega (arith, l))) (λ t l. rest (suc t) (omega (arith, l))) in
    plane_cons j b v ∙ ap (λ z. z * 2 + bit_at b j) t ∙ ap (λ z. plane j u * 2 + bit_at z j) (h 0 (omega arith)) ∙ sym (plane_cons j a u)

set_bit : (b p : ℕ) → 0 < p → b < 2 → cond (not (b * p == 0)) 1 0 ≡ b
set_bit zero p some l = ap (λ x. cond (not (x == 0)) 1 0) (none p)
  where
    none : (p : ℕ) → 0 * p ≡ 0
    none p = omega arith
set_bit (suc zero) p some l = ap (λ x. cond (not x) 1 0) (ne_eqb (1 * p) 0 (λ e. omega (arith, e, some)))
set_bit (suc (suc b)) p some l = absurd (omega (arith, l))

bit_test : (a j : ℕ) → cond (not (bit_and a (2 ^ j) == 0)) 1 0 ≡ bit_at a j
bit_test a j = ap (λ x. cond (not (x == 0)) 1 0) (and_pow a j) ∙ set_bit (bit_at a j) (2 ^ j) (pow_pos j) (bit_at-lt a j)

bits_mask : (j : ℕ) (ws : List ℕ) → mask_l (map (λ a. not (bit_and a (2 ^ j) == 0)) ws) ≡ plane j ws
bits_mask j [] = sym (plane_none j)
bits_mask j (a ∷ ws) =
    let t = bits_mask j ws in
    let here : mask_l (map (λ a. not (bit_and a (2 ^ j) == 0)) (a ∷ ws)) ≡ cond (not (bit_and a (2 ^ j) == 0)) 1 0 + 2 * mask_l (map (λ a. not (bit_and a (2 ^ j) == 0)) ws) = refl in
    omega (arith, here, bit_test a j, t, plane_cons j a ws)

-- a plane of 64 symbols, as a comparison of vectors
pub plane_mask : (ws : List ℕ) (j m : ℕ) → length ws ≡ 64 → m ≡ 2 ^ j → mask_l (map (top (hbits w8)) (zip2 (λ a b. cond (not (a == b)) (2 ^ bits w8 - 1) 0) (zip2 bit_and ws (replicate 64 m)) (replicate 64 0))) % 2 ^ 64 ≡ plane j ws
plane_mask ws j m long is =
    bitmask_splat w8 (λ a b. not (a == b)) (zip2 bit_and ws (replicate 64 m)) 64 0 (length-zip2 bit_and ws (replicate 64 m) long ∙ long) (omega arith)
    ∙ ap (λ xs. mask_l (map (λ x. not (x == 0)) xs)) (zip2_splat bit_and ws 64 m long)
    ∙ ap mask_l (map-map (λ x. not (x == 0)) (λ a. bit_and a m) ws)
    ∙ ap (λ p. mask_l (map (λ a. not (bit_and a p == 0)) ws)) is
    ∙ bits_mask j ws

-- the symbols of a word from its planes
half : (m b : ℕ) → b < 2 → (m * 2 + b) / 2 ≡ m
half m b l = omega (arith, l)

pub bit_plane : (t : ℕ) (w : List ℕ) (i : ℕ) → bit_at (plane t w) i ≡ bit_at (slice_index w i) t
bit_plane t [] i = ap (λ z. bit_at z i) (plane_none t) ∙ bit_at-zero i ∙ sym (bit_at-zero t)
bit_plane t (a ∷ w) zero =
    let odd : (plane t w * 2 + bit_at a t) % 2 ≡ bit_at a t = omega (arith, bit_at-lt a t) in
    ap (λ z. bit_at z 0) (plane_cons t a w) ∙ bit_at_lowest (plane t w * 2 + bit_at a t) ∙ odd
bit_plane t (a ∷ w) (suc i) =
    ap (λ z. bit_at z (suc i)) (plane_cons t a w) ∙ bit_at-suc (plane t w * 2 + bit_at a t) i ∙ ap (λ z. bit_at z i) (half (plane t w) (bit_at a t) (bit_at-lt a t)) ∙ bit_plane t w i

-- the or of four planes
abbrev any : List ℕ → ℕ
any w = bit_or (plane 3 w) (bit_or (plane 2 w) (bit_or (plane 1 w) (plane 0 w)))

abbrev any_bit : ℕ → ℕ
any_bit a = bit_or (bit_at a 3) (bit_or (bit_at a 2) (bit_or (bit_at a 1) (bit_at a 0)))

any_nil : any [] ≡ 0
unfolding plane packed
any_nil = refl

any_cell : (a : ℕ) → a < 16 → any_bit a ≡ cond (not (a == 0)) 1 0
unfolding below
any_cell a l = (Decides-eqb (any_bit a) (cond (not (a == 0)) 1 0)).0 (below_each (λ x. any_bit x == cond (not (x == 0)) 1 0) 16 refl a l)

or_step : (x y a b : ℕ) → a < 2 → b < 2 → bit_or (x * 2 + a) (y * 2 + b) ≡ bit_or x y * 2 + bit_or a b
or_step x y a b l m = or_block 1 x y a b l m

any_small : (a : ℕ) → any_bit a < 2
any_small a =
    let one = (or_bits (bit_at a 1) (bit_at a 0) (bit_at-lt a 1) (bit_at-lt a 0)).small in
    let two = (or_bits (bit_at a 2) (bit_or (bit_at a 1) (bit_at a 0)) (bit_at-lt a 2) one).small in
    (or_bits (bit_at a 3) (bit_or (bit_at a 2) (bit_or (bit_at a 1) (bit_at a 0))) (bit_at-lt a 3) two).small

any_cons : (a : ℕ) (w : List ℕ) → any (a ∷ w) ≡ any w * 2 + any_bit a
any_cons a w =
    let one = (or_bits (bit_at a 1) (bit_at a 0) (bit_at-lt a 1) (bit_at-lt a 0)).small in
    let two = (or_bits (bit_at a 2) (bit_or (bit_at a 1) (bit_at a 0)) (bit_at-lt a 2) one).small in
    rw (plane_cons 3 a w, plane_cons 2 a w, plane_cons 1 a w, plane_cons 0 a w, or_step (plane 1 w) (plane 0 w) (bit_at a 1) (bit_at a 0) (bit_at-lt a 1) (bit_at-lt a 0), or_step (plane 2 w) (bit_or (plane 1 w) (plane 0 w)) (bit_at a 2) (bit_or (bit_at a 1) (bit_at a 0)) (bit_at-lt a 2) one)
    (or_step (plane 3 w) (bit_or (plane 2 w) (bit_or (plane 1 w) (plane 0 w))) (bit_at a 3) (bit_or (bit_at a 2) (bit_or (bit_at a 1) (bit_at a 0))) (bit_at-lt a 3) two)

pub ones_any : (w : List ℕ) → ((i : ℕ) → slice_index w i < 16) → count_ones (bit_or (plane 3 w) (bit_or (plane 2 w) (bit_or (plane 1 w) (plane 0 w)))) ≡ weight w
unfolding ones
ones_any [] h = ap count_ones any_nil
ones_any (a ∷ w) h =
    let t = ones_any w (λ i. h (suc i)) in
    ap count_ones (any_cons a w) ∙ ones_cat 1 (any w) (any_bit a) (any_small a) ∙ ones_bit (any_bit a) (any w) (any_small a)
    ∙ omega (arith, t, any_cell a (h 0), weight_cons a w)

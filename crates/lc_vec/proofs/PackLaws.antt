-- Words over 2 elements as numbers of bits.
--   bit_small                      each symbol is a bit
--   packed_sum                     the packed sum of two words is the exclusive or of the packed words
--   packed_ones                    a packed word has as many ones as the word's weight
--   packed_small                   a packed word of n symbols is below 2 ^ n
--   packed_nil, packed_cons, zero_packed      the packed empty word, a word with a symbol more, the zero word
--   packed_drop                    a word packed from a place on, by that from the next place on
use Rattle.std.proofs.Common.{◌≡◌, ℕ, zero, suc, ◌+◌, ◌*◌, ◌^◌, ◌<◌, not, cond, ◌==◌, List, [], ◌∷◌, length, drop, bit_xor, count_ones, slice_index, refl, sym, ap, ◌∙◌, arith}
use Rattle.std.proofs.Math.Nat.{pow-suc}
use Rattle.std.proofs.Math.Seq.{drop-cons}
use Rattle.std.proofs.lemmas.Nat.{xor_block, ones_cat}
use lib.Count.{ones}
use Rattle.lc_algebra.specs.declared.FieldName.TheVariants.{Gf2}
use Rattle.lc_algebra.specs.Field.{add, coefficients, shape_of, shape}
use Rattle.lc_algebra.specs.Residue.{digits, number, plus}
use Rattle.lc_algebra.specs.Word.{Fits, zero_word, word_sum, weight}
use Rattle.lc_algebra.proofs.WordLaws.{weight_cons, fits_head, fits_tail, fits_symbol}
use Rattle.lc_algebra.proofs.EmbeddingTests.{size_two}
use Rattle.lc_vec.specs.Packed.{packed}

pub bit_small : (word : List ℕ) (i : ℕ) → Fits Gf2 word → slice_index word i < 2
bit_small word i h = omega (arith, fits_symbol Gf2 word h i, size_two)

add_bits : (a b : ℕ) → a < 2 → b < 2 → add Gf2 a b ≡ bit_xor a b
unfolding add coefficients shape_of shape number plus digits
add_bits zero zero l m = refl
add_bits zero (suc zero) l m = refl
add_bits (suc zero) zero l m = refl
add_bits (suc zero) (suc zero) l m = refl
add_bits zero (suc (suc b)) l m = absurd (omega (arith, m))
add_bits (suc zero) (suc (suc b)) l m = absurd (omega (arith, m))
add_bits (suc (suc a)) b l m = absurd (omega (arith, l))

bit_of : (u : List ℕ) (a : ℕ) → Fits Gf2 (a ∷ u) → a < 2
bit_of u a h = omega (arith, fits_head Gf2 a u h, size_two)

pub packed_sum : (u v : List ℕ) → length u ≡ length v → Fits Gf2 u → Fits Gf2 v → packed (word_sum Gf2 u v) ≡ bit_xor (packed u) (packed v)
unfolding packed word_sum
packed_sum [] [] e h i = refl
packed_sum [] (b ∷ v) e h i = absurd (omega (arith, e))
packed_sum (a ∷ u) [] e h i = absurd (omega (arith, e))
packed_sum (a ∷ u) (b ∷ v) e h i =
    let t = packed_sum u v (omega (arith, e)) (fits_tail Gf2 a u h) (fits_tail Gf2 b v i) in
    let x = xor_block 1 (packed u) (packed v) a b (bit_of u a h) (bit_of v b i) in
    let s = add_bits a b (bit_of u a h) (bit_of v b i) in
    ap (λ z. z * 2 + add Gf2 a b) t ∙ ap (λ z. bit_xor (packed u) (packed v) * 2 + z) s ∙ sym x

one_bit : (a : ℕ) → a < 2 → count_ones a ≡ cond (not (a == 0)) 1 0
unfolding ones
one_bit zero l = refl
one_bit (suc zero) l = refl
one_bit (suc (suc a)) l = absurd (omega (arith, l))

pub packed_ones : (u : List ℕ) → Fits Gf2 u → count_ones (packed u) ≡ weight u
unfolding packed
packed_ones [] h = one_bit 0 (omega arith)
packed_ones (a ∷ u) h =
    let t = packed_ones u (fits_tail Gf2 a u h) in
    let b = bit_of u a h in
    ones_cat 1 (packed u) a b ∙ omega (arith, t, one_bit a b, weight_cons a u)

pub packed_small : (u : List ℕ) → Fits Gf2 u → packed u < 2 ^ length u
unfolding packed
packed_small [] h = omega arith
packed_small (a ∷ u) h = omega (arith, packed_small u (fits_tail Gf2 a u h), bit_of u a h, pow-suc 2 (length u))

pub packed_nil : packed [] ≡ 0
unfolding packed
packed_nil = refl

pub packed_cons : (a : ℕ) (w : List ℕ) → packed (a ∷ w) ≡ packed w * 2 + a
unfolding packed
packed_cons a w = refl

pub zero_packed : (n : ℕ) → packed (zero_word n) ≡ 0
zero_packed zero = packed_nil
zero_packed (suc n) = packed_cons 0 (zero_word n) ∙ omega (arith, zero_packed n)

pub packed_drop : (w : List ℕ) (i : ℕ) → i < length w → packed (drop i w) ≡ packed (drop (suc i) w) * 2 + slice_index w i
packed_drop w i l = ap packed (drop-cons w i 0 l) ∙ packed_cons (slice_index w i) (drop (suc i) w)

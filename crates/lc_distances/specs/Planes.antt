-- Words over any field by their planes of bits.
--   bits_apart n u bits m e      the bits at which one of the first n planes u of a word differs from that of word e of m words
--   HasPlanes n w x         the first n numbers of a list are the planes of a word
--   IsPlaneSum f x y z      z has the planes of the sum of any two words over f whose planes are x and y
--   sum_carry n x y         what the lowest n bits of the sum of two numbers carry, at each place, from the bits of the numbers
--   sum_bit n x y           bit n of that sum, at each place
--   trit_sum a b c d        a plane of a sum over 3 elements, from the planes of two words: a and c are the same plane as that of the sum
--   digit_planes a b c d    over 9 elements, from the four planes of a word: where the low digit to the base 3 of its symbols is 1
--                           and 2, and where the high one is
use Rattle.std.specs.Prelude.{◌≡◌, ℕ, zero, suc, ◌+◌, ◌*◌, ◌^◌, ◌<◌, ◌≤◌, List, [], ◌∷◌, length, bit_and, bit_or, bit_xor, slice_index}
use Rattle.lc_algebra.specs.declared.FieldName.{FieldName}
use Rattle.lc_algebra.specs.Field.{size}
use Rattle.lc_algebra.specs.Word.{Fits, word_sum}
use Rattle.lc_planes.specs.Planes.{plane}

abbrev pub bits_apart : ℕ → List ℕ → List ℕ → ℕ → ℕ → ℕ
bits_apart zero u bits m e = 0
bits_apart (suc j) u bits m e = bit_or (bit_xor (slice_index u j) (slice_index bits (j * m + e))) (bits_apart j u bits m e)

abbrev pub HasPlanes : ℕ → List ℕ → List ℕ → Type 0
HasPlanes n w x = (p : ℕ) → p < n → slice_index x p ≡ plane p w

pub record IsPlaneSum (f : FieldName) (x y z : List ℕ) : Type 0 where
  pub planes : (n : ℕ) (u v : List ℕ) → size f ≤ 2 ^ n → n ≤ 4 → length u ≡ length v → Fits f u → Fits f v → HasPlanes n u x → HasPlanes n v y → HasPlanes n (word_sum f u v) z

abbrev pub sum_carry : ℕ → List ℕ → List ℕ → ℕ
sum_carry zero x y = 0
sum_carry (suc n) x y = bit_or (bit_and (slice_index x n) (slice_index y n)) (bit_and (bit_xor (slice_index x n) (slice_index y n)) (sum_carry n x y))

abbrev pub sum_bit : ℕ → List ℕ → List ℕ → ℕ
sum_bit n x y = bit_xor (bit_xor (slice_index x n) (slice_index y n)) (sum_carry n x y)

abbrev pub trit_sum : ℕ → ℕ → ℕ → ℕ → ℕ
trit_sum a b c d = bit_xor (bit_or b d) (bit_xor (bit_or a d) (bit_or b c))

abbrev pub digit_planes : ℕ → ℕ → ℕ → ℕ → List ℕ
digit_planes a b c d = bit_xor (bit_xor a c) (bit_and b (bit_or a c)) ∷ bit_or d (bit_or (bit_xor b (bit_and b (bit_or a c))) (bit_xor (bit_and a c) (bit_and a (bit_and b c)))) ∷ bit_xor (bit_or c (bit_and a b)) (bit_and b c) ∷ bit_or d (bit_and b c) ∷ []

-- Words over 2 elements in blocks of 64 symbols.
--   block_bits, block_short, block_cut      one block
--   sum_blocks                 the sum of two words
--   ones_more, ones_few, light_then, light_else      the weight, block by block
--   zero_blocks, zero_start    blocks that are all 0
--   next_blocks, next_word, light_is      a word and one row more, and whether it is light
use Rattle.std.proofs.Common.{◌≡◌, ℕ, zero, suc, ◌+◌, ◌-◌, ◌*◌, ◌^◌, ◌<◌, ◌≤◌, min, Bool, not, cond, ◌==◌, ◌&&◌, nat_lt, List, [], ◌∷◌, take, drop, length, replicate, bit_xor, count_ones, slice_index, slice_index_or, refl, sym, ap, ap₂, subst, ◌∙◌, ⊎_elim, arith}
use Rattle.std.proofs.lemmas.Bool.{cases_lt, lt-ltb, le-ltb}
use Rattle.std.proofs.lemmas.Nat.{ones-le}
use Rattle.std.proofs.lemmas.List.{length-drop, length-take, length-replicate, get_or-replicate, drop_all, take_all, get_or-take}
use Rattle.lc_algebra.specs.declared.FieldName.{FieldName}
use Rattle.lc_algebra.specs.declared.FieldName.TheVariants.{Gf2}
use Rattle.lc_algebra.specs.Field.{size, add}
use Rattle.lc_algebra.specs.Word.{IsWord, Fits, zero_word, word_sum, scale, weight}
use Rattle.lc_algebra.specs.Matrix.{Matrix, AreRows}
use Rattle.lc_algebra.proofs.WordLaws.{weight_cons, fits_symbol, one_scale, IsWord_sum, length_scale, weight_nil}
use Rattle.lc_formats.specs.Certificate.{is_lighter}
use Rattle.lc_checker.specs.Walk.{row_of}
use Rattle.lc_vec.specs.Packed.{packed}
use Rattle.lc_vec.proofs.PackLaws.{packed_sum, packed_ones, zero_packed}
use Rattle.lc_checker.specs.Blocks.{block, AreBlocks, AreInBlocks}
use Rattle.lc_checker.proofs.PackedLaws.{fits_drop, fits_two}

take_sum : (f : FieldName) (u v : List ℕ) (n : ℕ) → take n (word_sum f u v) ≡ word_sum f (take n u) (take n v)
unfolding word_sum
take_sum f [] v zero = refl
take_sum f [] v (suc n) = refl
take_sum f (a ∷ u) [] zero = refl
take_sum f (a ∷ u) [] (suc n) = refl
take_sum f (a ∷ u) (b ∷ v) zero = refl
take_sum f (a ∷ u) (b ∷ v) (suc n) = ap (λ w. add f a b ∷ w) (take_sum f u v n)

drop_sum : (f : FieldName) (u v : List ℕ) (n : ℕ) → length u ≡ length v → drop n (word_sum f u v) ≡ word_sum f (drop n u) (drop n v)
unfolding word_sum
drop_sum f u v zero e = refl
drop_sum f [] [] (suc n) e = refl
drop_sum f [] (b ∷ v) (suc n) e = absurd (omega (arith, e))
drop_sum f (a ∷ u) [] (suc n) e = absurd (omega (arith, e))
drop_sum f (a ∷ u) (b ∷ v) (suc n) e = drop_sum f u v n (omega (arith, e))

fits_take : (w : List ℕ) (n : ℕ) → Fits Gf2 w → Fits Gf2 (take n w)
fits_take w n h i l = subst (λ x. x < size Gf2) (sym (get_or-take n w i 0 (omega (arith, l, length-take n w)))) (fits_symbol Gf2 w h i)

length_block : (w : List ℕ) (n : ℕ) → length (take 64 (drop n w)) ≤ 64
length_block w n = omega (arith, length-take 64 (drop n w))

pub block_fits : (w : List ℕ) (n : ℕ) → Fits Gf2 w → Fits Gf2 (take 64 (drop n w))
block_fits w n h = fits_take (drop n w) 64 (fits_drop w n h)

pub block_bits : (w b : List ℕ) (n : ℕ) → Fits Gf2 w → b ≡ take 64 (drop n w) → Fits Gf2 b
block_bits w b n h e = subst (Fits Gf2) (sym e) (block_fits w n h)

pub block_short : (w b : List ℕ) (n : ℕ) → b ≡ take 64 (drop n w) → length b ≤ 64
block_short w b n e = omega (arith, length_block w n, ap length e)

rest_made : (w : List ℕ) (n : ℕ) → drop (min n (length w)) w ≡ drop n w
rest_made w n =
    ⊎_elim
    (λ l. let e : min n (length w) ≡ n = omega (arith, l) in ap (λ m. drop m w) e)
    (λ l. drop_all (min n (length w)) w (omega (arith, l)) ∙ sym (drop_all n w (omega (arith, l))))
    (cases_lt n (length w))

front_made : (w : List ℕ) → take (min (length w) 64) w ≡ take 64 w
front_made w =
    ⊎_elim
    (λ l. take_all (min (length w) 64) w (omega (arith, l)) ∙ sym (take_all 64 w (omega (arith, l))))
    (λ l. let e : min (length w) 64 ≡ 64 = omega (arith, l) in ap (λ m. take m w) e)
    (cases_lt (length w) 64)

block_made : (w rest part : List ℕ) (i a b : ℕ) → a ≡ min (64 * i) (length w) → rest ≡ drop a w → b ≡ min (length rest) 64 → part ≡ take b rest → part ≡ take 64 (drop (64 * i) w)
block_made w rest part i a b at is few shown =
    let e : rest ≡ drop (64 * i) w = is ∙ ap (λ m. drop m w) at ∙ rest_made w (64 * i) in
    shown ∙ ap (λ m. take m rest) few ∙ front_made rest ∙ ap (take 64) e

-- as the program cuts it out
pub block_cut : (w : List ℕ) (i a b : ℕ) → a ≡ min (64 * i) (length w) → b ≡ min (length (take (length w - a) (drop a w))) 64 → take b (take (length w - a) (drop a w)) ≡ take 64 (drop (64 * i) w)
block_cut w i a b at few =
    let rest = take (length w - a) (drop a w) in
    let e : rest ≡ drop a w = take_all (length w - a) (drop a w) (omega (arith, length-drop a w)) in
    block_made w rest (take b rest) i a b at e few refl

block_sum : (u v : List ℕ) (i : ℕ) → length u ≡ length v → Fits Gf2 u → Fits Gf2 v → block (word_sum Gf2 u v) i ≡ bit_xor (block u i) (block v i)
block_sum u v i e h k =
    let a = take 64 (drop (64 * i) u) in
    let b = take 64 (drop (64 * i) v) in
    ap packed (ap (take 64) (drop_sum Gf2 u v (64 * i) e) ∙ take_sum Gf2 (drop (64 * i) u) (drop (64 * i) v) 64)
    ∙ packed_sum a b (omega (arith, e, length-take 64 (drop (64 * i) u), length-take 64 (drop (64 * i) v), length-drop (64 * i) u, length-drop (64 * i) v)) (block_fits u (64 * i) h) (block_fits v (64 * i) k)

-- what the loop that adds two words knows
pub sum_blocks : (m : ℕ) (sum row result : List ℕ) → length result ≡ m → ((i : ℕ) → i < m → slice_index result i ≡ bit_xor (slice_index sum i) (slice_index row i)) → (u v : List ℕ) → length u ≡ length v → Fits Gf2 u → Fits Gf2 v → AreBlocks m sum u → AreBlocks m row v → AreBlocks m result (word_sum Gf2 u v)
sum_blocks m sum row result long each u v e h k a b = record {
  many = long;
  each = λ i l. each i l ∙ ap₂ bit_xor (a.each i l) (b.each i l) ∙ sym (block_sum u v i e h k);
}

take_nil : (n : ℕ) → take {A = ℕ} n [] ≡ []
take_nil zero = refl
take_nil (suc n) = refl

weight_parts : (a b : ℕ) (w : List ℕ) → weight (take (a + b) w) ≡ weight (take a w) + weight (take b (drop a w))
weight_parts zero b w =
    let same : zero + b ≡ b = omega arith in
    let one : weight (take zero w) ≡ 0 = weight_nil in
    let two : weight (take (zero + b) w) ≡ weight (take b (drop zero w)) = ap (λ n. weight (take n w)) same in
    omega (arith, one, two)
weight_parts (suc a) b [] =
    let next : suc a + b ≡ suc (a + b) = omega arith in
    let one : weight (take (suc a) []) ≡ 0 = weight_nil in
    let two : weight (take (suc a + b) []) ≡ 0 = ap (λ n. weight (take n [])) next ∙ weight_nil in
    let three : weight (take b (drop (suc a) [])) ≡ 0 = ap weight (take_nil b) ∙ weight_nil in
    omega (arith, one, two, three)
weight_parts (suc a) b (x ∷ w) =
    let next : suc a + b ≡ suc (a + b) = omega arith in
    let one : weight (take (suc a) (x ∷ w)) ≡ cond (not (x == 0)) 1 0 + weight (take a w) = weight_cons x (take a w) in
    let two : weight (take (suc a + b) (x ∷ w)) ≡ cond (not (x == 0)) 1 0 + weight (take (a + b) w) = ap (λ n. weight (take n (x ∷ w))) next ∙ weight_cons x (take (a + b) w) in
    let three : weight (take b (drop (suc a) (x ∷ w))) ≡ weight (take b (drop a w)) = refl in
    omega (arith, one, two, three, weight_parts a b w)

-- the weight of one block more
pub ones_more : (m i ones n : ℕ) (bits w : List ℕ) → Fits Gf2 w → i < m → AreBlocks m bits w → ones ≡ weight (take (64 * i) w) → n ≡ count_ones (slice_index bits i) → ones + n ≡ weight (take (64 * (i + 1)) w)
ones_more m i ones n bits w h l a e q =
    let next : 64 * (i + 1) ≡ 64 * i + 64 = omega arith in
    let here : count_ones (slice_index bits i) ≡ weight (take 64 (drop (64 * i) w)) = ap count_ones (a.each i l) ∙ packed_ones (take 64 (drop (64 * i) w)) (block_fits w (64 * i) h) in
    omega (arith, e, q, here, weight_parts (64 * i) 64 w, ap (λ k. weight (take k w)) next)

pub ones_few : (b n : ℕ) → b < 2 ^ 64 → n ≡ count_ones b → n ≤ 64
ones_few b n l e = omega (arith, e, ones-le 64 b l)

-- the weight that was counted, up to the last block
counted : (m i ones : ℕ) (w : List ℕ) → m ≤ i → length w ≤ 64 * m → ones ≡ weight (take (64 * i) w) → ones ≡ weight w
counted m i ones w past l e = e ∙ ap weight (take_all (64 * i) w (omega (arith, past, l)))

pub light_then : (m i ones d : ℕ) (w : List ℕ) → m ≤ i → 0 < ones → length w ≤ 64 * m → ones ≡ weight (take (64 * i) w) → nat_lt ones d ≡ is_lighter d w
unfolding is_lighter
light_then m i ones d w past some l e =
    let whole = counted m i ones w past l e in
    sym (ap (λ n. nat_lt 0 n && nat_lt n d) (sym whole) ∙ ap (λ b. b && nat_lt ones d) (lt-ltb 0 ones some))

pub light_else : (m i ones d : ℕ) (w : List ℕ) → m ≤ i → ones ≤ 0 → length w ≤ 64 * m → ones ≡ weight (take (64 * i) w) → nat_lt 0 ones ≡ is_lighter d w
unfolding is_lighter
light_else m i ones d w past none l e =
    let whole = counted m i ones w past l e in
    le-ltb 0 ones none ∙ sym (ap (λ n. nat_lt 0 n && nat_lt n d) (sym whole) ∙ ap (λ b. b && nat_lt ones d) (le-ltb 0 ones none))

part_zero : (n a b : ℕ) → take a (drop b (zero_word n)) ≡ zero_word (length (take a (drop b (zero_word n))))
part_zero zero a b = all_zero a b
  where
    all_zero : (a b : ℕ) → take a (drop b (zero_word 0)) ≡ zero_word (length (take a (drop b (zero_word 0))))
    all_zero zero zero = refl
    all_zero zero (suc b) = refl
    all_zero (suc a) zero = refl
    all_zero (suc a) (suc b) = refl
part_zero (suc n) a (suc b) = part_zero n a b
part_zero (suc n) zero zero = refl
part_zero (suc n) (suc a) zero = ap (λ w. 0 ∷ w) (part_zero n a 0)

-- blocks that are all 0 are those of the zero word
pub zero_blocks : (n m : ℕ) (bits : List ℕ) → length bits ≡ m → ((i : ℕ) → i < m → slice_index bits i ≡ 0) → AreBlocks m bits (zero_word n)
zero_blocks n m bits long zeros = record {
  many = long;
  each = λ i l. zeros i l ∙ sym (ap packed (part_zero n 64 (64 * i)) ∙ zero_packed (length (take 64 (drop (64 * i) (zero_word n)))));
}

-- a word and one row more
pub next_blocks : (C : Matrix) (m p : ℕ) (bits : List (List ℕ)) (sum next u : List ℕ) → AreInBlocks C m bits → p < length C.rows → IsWord C.field C.columns u → AreBlocks m sum u → ((u v : List ℕ) → length u ≡ length v → Fits Gf2 u → Fits Gf2 v → AreBlocks m sum u → AreBlocks m (slice_index_or bits p []) v → AreBlocks m next (word_sum Gf2 u v)) → AreBlocks m next (word_sum C.field u (scale C.field 1 (row_of C.rows p)))
next_blocks C m p bits sum next u h l word a made =
    let g = row_of C.rows p in
    let is : IsWord C.field C.columns g = h.words p [] l in
    let t = made u g (word.long ∙ sym is.long) (fits_two C.field C.columns u h.binary word) (fits_two C.field C.columns g h.binary is) a (h.entry p l) in
    subst (AreBlocks m next) (ap (λ x. word_sum x u g) (sym h.binary) ∙ ap (word_sum C.field u) (sym (one_scale C.field g is.fits))) t

pub next_word : (C : Matrix) (p : ℕ) (u : List ℕ) → AreRows C.field C.columns C.rows → p < length C.rows → IsWord C.field C.columns u → IsWord C.field C.columns (word_sum C.field u (scale C.field 1 (row_of C.rows p)))
next_word C p u r l word =
    let is : IsWord C.field C.columns (row_of C.rows p) = r p [] l in
    IsWord_sum C.field C.columns u (scale C.field 1 (row_of C.rows p)) word.long (length_scale C.field 1 (row_of C.rows p) ∙ is.long)

-- what the test of the sum says of the word
pub light_is : (C : Matrix) (m p d : ℕ) (bits : List (List ℕ)) (next w : List ℕ) (b : Bool) → AreInBlocks C m bits → IsWord C.field C.columns w → AreBlocks m next w → ((w : List ℕ) → Fits Gf2 w → length w ≤ 64 * m → AreBlocks m next w → b ≡ is_lighter d w) → b ≡ is_lighter d w
light_is C m p d bits next w b h word a told = told w (fits_two C.field C.columns w h.binary word) (omega (arith, word.long, h.narrow)) a

pub zero_start : (n m : ℕ) → AreBlocks m (replicate m 0) (zero_word n)
zero_start n m = zero_blocks n m (replicate m 0) (length-replicate m 0) (λ i l. get_or-replicate m i 0 0 l)

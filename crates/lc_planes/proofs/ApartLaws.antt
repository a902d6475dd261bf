-- At how many places words differ, by their planes.
--   ones_apart                   the weight of a sum: where one word differs from the negative of the other
--   block_planes                 the planes of a block of symbols, with zeros after them
--   restrict_fits                the symbols of a word at some columns are elements
--   part_none, part_more, part_all      the weight at some columns, part by part
--   tail_ones                    the weight of a sum at some columns, by its planes
use Rattle.std.proofs.Common.{◌≡◌, ◌≢◌, ℕ, zero, suc, ◌+◌, ◌*◌, ◌^◌, ◌<◌, ◌≤◌, not, cond, ◌==◌, List, [], ◌∷◌, ◌++◌, length, take, map, slice_index, bit_or, bit_xor, count_ones, refl, sym, ap, ◌∙◌, inl, inr, ⊎_elim, arith}
use Rattle.std.specs.Int.{bit_at}
use Rattle.std.proofs.Math.Seq.{take-add}
use Rattle.std.proofs.lemmas.Bool.{cases_lt, cases_eq, ne_eqb}
use Rattle.std.proofs.lemmas.List.{take_all}
use Rattle.std.proofs.lemmas.Nat.{xor_block, or_block, ones_cat}
use Rattle.std.proofs.lemmas.Nat.Bits.{bit_at-lt, same_from_bits_below}
use lib.Count.{ones}
use Rattle.lc_algebra.specs.declared.FieldName.{FieldName}
use Rattle.lc_algebra.specs.Field.{size, add, neg}
use Rattle.lc_algebra.specs.Word.{IsWord, Fits, word_sum, scale, weight}
use Rattle.lc_algebra.specs.SpanLaws.{restrict}
use Rattle.lc_algebra.proofs.FieldLaws.{neg_inside, neg_add, neg_neg, neg_one_mul, subtract_zero}
use Rattle.lc_algebra.proofs.WordLaws.{weight_cons, fits_head, fits_tail, fits_symbol}
use Rattle.lc_algebra.proofs.ColumnLaws.{length_restrict, index_restrict, restrict_sum, restrict_scale}
use Rattle.lc_vec.specs.Packed.{packed}
use Rattle.lc_planes.specs.Planes.{plane, plane_at, apart, negative, part_at}
use Rattle.lc_planes.proofs.PlaneLaws.{plane_cons, two_bits, or_bits, bits_of, ones_bit, plane_padded}

-- whether one of the first n bits of two numbers differs
abbrev differ : ℕ → ℕ → ℕ → ℕ
differ zero a b = 0
differ (suc j) a b = bit_or (bit_xor (bit_at a j) (bit_at b j)) (differ j a b)

differ_small : (n a b : ℕ) → differ n a b < 2
differ_small zero a b = omega arith
differ_small (suc j) a b = (or_bits (bit_xor (bit_at a j) (bit_at b j)) (differ j a b) (bits_of a b j).small (differ_small j a b)).small

differ_same : (n a : ℕ) → differ n a a ≡ 0
differ_same zero a = refl
differ_same (suc j) a = ap (λ x. bit_or x (differ j a a)) ((bits_of a a j).same refl) ∙ ap (bit_or 0) (differ_same j a)

differ_none : (n a b : ℕ) → differ n a b ≡ 0 → (i : ℕ) → i < n → bit_at a i ≡ bit_at b i
differ_none zero a b e i l = absurd (omega (arith, l))
differ_none (suc j) a b e i l =
    let t = (or_bits (bit_xor (bit_at a j) (bit_at b j)) (differ j a b) (bits_of a b j).small (differ_small j a b)).none e in
    ⊎_elim
    (λ m. differ_none j a b t.1 i m)
    (λ m. let last : i ≡ j = omega (arith, l, m) in ap (bit_at a) last ∙ (bits_of a b j).none t.0 ∙ ap (bit_at b) (sym last))
    (cases_lt i j)

differ_other : (n a b : ℕ) → a < 2 ^ n → b < 2 ^ n → a ≢ b → differ n a b ≡ 1
differ_other n a b l m other = ⊎_elim
    (λ e. absurd (other (same_from_bits_below n a b l m (differ_none n a b e))))
    (λ e. e)
    (two_bits (differ n a b) (differ_small n a b))

apart_nil : (n : ℕ) → apart n [] [] ≡ 0
unfolding plane packed
apart_nil zero = refl
apart_nil (suc j) = ap (bit_or 0) (apart_nil j)

apart_cons : (n a b : ℕ) (u v : List ℕ) → apart n (a ∷ u) (b ∷ v) ≡ apart n u v * 2 + differ n a b
apart_cons zero a b u v = refl
apart_cons (suc j) a b u v =
    let x = xor_block 1 (plane j u) (plane j v) (bit_at a j) (bit_at b j) (bit_at-lt a j) (bit_at-lt b j) in
    let first : bit_xor (plane j (a ∷ u)) (plane j (b ∷ v)) ≡ bit_xor (plane j u) (plane j v) * 2 + bit_xor (bit_at a j) (bit_at b j) = ap (λ z. bit_xor z (plane j (b ∷ v))) (plane_cons j a u) ∙ ap (bit_xor (plane j u * 2 + bit_at a j)) (plane_cons j b v) ∙ x in
    ap (λ z. bit_or z (apart j (a ∷ u) (b ∷ v))) first ∙ ap (bit_or (bit_xor (plane j u) (plane j v) * 2 + bit_xor (bit_at a j) (bit_at b j))) (apart_cons j a b u v)
    ∙ or_block 1 (bit_xor (plane j u) (plane j v)) (apart j u v) (bit_xor (bit_at a j) (bit_at b j)) (differ j a b) (bits_of a b j).small (differ_small j a b)

cell : (f : FieldName) (n a b : ℕ) → size f ≤ 2 ^ n → a < size f → b < size f → differ n a (neg f b) ≡ cond (not (add f a b == 0)) 1 0
cell f n a b s l m = elim (cases_eq a (neg f b)) [
  | inl e ↦ rw e (differ_same n (neg f b) ∙ sym (ap (λ x. cond (not (x == 0)) 1 0) (neg_add f b)))
  | inr other ↦ (
      let some : add f a b ≢ 0 = λ z. other (subtract_zero f a (neg f b) l (neg_inside f b) (ap (add f a) (neg_neg f b m) ∙ z)) in
      differ_other n a (neg f b) (omega (arith, l, s)) (omega (arith, neg_inside f b, s)) other ∙ sym (ap (λ x. cond (not x) 1 0) (ne_eqb (add f a b) 0 some))
      )
]

pub ones_apart : (f : FieldName) (n : ℕ) (u v : List ℕ) → size f ≤ 2 ^ n → length u ≡ length v → Fits f u → Fits f v → count_ones (apart n u (map (neg f) v)) ≡ weight (word_sum f u v)
unfolding ones word_sum
ones_apart f n [] [] s e h i = ap count_ones (apart_nil n)
ones_apart f n [] (b ∷ v) s e h i = absurd (omega (arith, e))
ones_apart f n (a ∷ u) [] s e h i = absurd (omega (arith, e))
ones_apart f n (a ∷ u) (b ∷ v) s e h i =
    let t = ones_apart f n u v s (omega (arith, e)) (fits_tail f a u h) (fits_tail f b v i) in
    let c = cell f n a b s (fits_head f a u h) (fits_head f b v i) in
    ap count_ones (apart_cons n a (neg f b) u (map (neg f) v)) ∙ ones_cat 1 (apart n u (map (neg f) v)) (differ n a (neg f b)) (differ_small n a (neg f b)) ∙ ones_bit (differ n a (neg f b)) (apart n u (map (neg f) v)) (differ_small n a (neg f b))
    ∙ omega (arith, t, c, weight_cons (add f a b) (word_sum f u v))

-- a block with the symbols of a word at some columns, and then zeros
pub block_planes : (cols word block : List ℕ) → length cols ≤ 64 → length block ≡ 64 → ((t : ℕ) → t < length cols → slice_index block t ≡ slice_index word (slice_index cols t)) → ((t : ℕ) → length cols ≤ t → slice_index block t ≡ 0) → (j : ℕ) → plane j block ≡ plane_at j cols word
block_planes cols word block few long h rest j =
    let many = length_restrict cols word in
    plane_padded j (restrict cols word) block (omega (arith, many, few, long)) (λ t l. h t (omega (arith, l, many)) ∙ sym (index_restrict cols word t (omega (arith, l, many)))) (λ t l. rest t (omega (arith, l, many)))

pub restrict_fits : (f : FieldName) (n : ℕ) (cols u : List ℕ) → IsWord f n u → Fits f (restrict cols u)
restrict_fits f n cols u h i l = rw (index_restrict cols u i (omega (arith, l, length_restrict cols u))) (fits_symbol f u h.fits (slice_index cols i))

weight_apart : (xs ys w : List ℕ) → weight (restrict (xs ++ ys) w) ≡ weight (restrict xs w) + weight (restrict ys w)
weight_apart [] ys w = omega arith
weight_apart (p ∷ xs) ys w = omega (arith, weight_apart xs ys w, weight_cons (slice_index w p) (restrict xs w), weight_cons (slice_index w p) (restrict (xs ++ ys) w))

pub part_more : (cols w : List ℕ) (b : ℕ) → weight (restrict (take (64 * (b + 1)) cols) w) ≡ weight (restrict (take (64 * b) cols) w) + weight (restrict (part_at cols b) w)
part_more cols w b =
    let more : 64 * (b + 1) ≡ 64 * b + 64 = omega arith in
    let both : take (64 * (b + 1)) cols ≡ take (64 * b) cols ++ part_at cols b = ap (λ n. take n cols) more ∙ take-add (64 * b) 64 cols in
    ap (λ cs. weight (restrict cs w)) both ∙ weight_apart (take (64 * b) cols) (part_at cols b) w

pub part_none : (cols w : List ℕ) → weight (restrict (take (64 * 0) cols) w) ≡ 0
part_none cols w = refl

pub part_all : (cols w : List ℕ) (b : ℕ) → length cols ≤ 64 * b → weight (restrict (take (64 * b) cols) w) ≡ weight (restrict cols w)
part_all cols w b l = ap (λ z. weight (restrict z w)) (take_all (64 * b) cols l)

-- the nonzero symbols of a sum at some columns
negative_is : (f : FieldName) (u : List ℕ) → negative f u ≡ map (neg f) u
unfolding scale
negative_is f [] = refl
negative_is f (a ∷ u) = cc (neg_one_mul f a, negative_is f u)

pub tail_ones : (f : FieldName) (n p : ℕ) (cols head tail : List ℕ) → size f ≤ 2 ^ p → IsWord f n head → IsWord f n tail → weight (restrict cols (word_sum f head tail)) ≡ count_ones (apart p (restrict cols head) (restrict cols (negative f tail)))
tail_ones f n p cols head tail s h t =
    let u = restrict cols head in
    let v = restrict cols tail in
    let turned_tail : restrict cols (negative f tail) ≡ map (neg f) v = restrict_scale f cols (neg f 1) tail ∙ negative_is f v in
    ap weight (restrict_sum f cols head tail (h.long ∙ sym t.long))
    ∙ sym (ones_apart f p u v s (length_restrict cols head ∙ sym (length_restrict cols tail)) (restrict_fits f n cols head h) (restrict_fits f n cols tail t))
    ∙ ap (λ x. count_ones (apart p u x)) (sym turned_tail)

-- Words as bits, in parts of 64 columns, and at how many places they differ.
--   array_small                  a word given as bits takes few bytes
--   part_planes                  the planes of the symbols of a part
--   places_are                   two words differ at as many places as the weight of one less the other
use Rattle.std.proofs.Common.{◌≡◌, ℕ, zero, suc, ◌+◌, ◌-◌, ◌*◌, ◌^◌, ◌<◌, ◌≤◌, min, List, [], length, take, drop, bit_or, bit_xor, count_ones, slice_index, slice_index_or, refl, sym, ap, ap₂, subst, ◌∙◌, arith}
use Rattle.std.proofs.Math.Nat.{mul-le-mul}
use Rattle.std.proofs.lemmas.List.{get_or-take, get_or-drop, ext_get_or, length-take, length-drop}
use Rattle.lc_algebra.specs.declared.FieldName.{FieldName}
use Rattle.lc_algebra.specs.Field.{size, neg}
use Rattle.lc_algebra.specs.Word.{IsWord, word_sum, scale, weight}
use Rattle.lc_algebra.specs.Span.{below}
use Rattle.lc_algebra.specs.SpanLaws.{restrict}
use Rattle.lc_algebra.proofs.WordLaws.{length_scale, length_word_sum, IsWord_scale, scale_scale, one_scale, neg_one_twice}
use Rattle.lc_algebra.proofs.SpanLaws.{length_below, index_below}
use Rattle.lc_algebra.proofs.ColumnLaws.{length_restrict, index_restrict}
use Rattle.lc_planes.specs.Planes.{plane, part_at, plane_at, apart, negative}
use Rattle.lc_planes.specs.Packing.{IsPacked, planes_apart, places_apart}
use Rattle.lc_planes.proofs.ApartLaws.{block_planes, part_none, part_more, part_all, tail_ones}

pub array_small : (P N : ℕ) → P ≤ 4 → N ≤ 4 → N * (P * 8) < 2 ^ 63
array_small P N planes parts =
    let few : P * 8 ≤ 32 = omega (arith, planes) in
    omega (arith, mul-le-mul parts few)

-- the columns of a part
abbrev columns_of : List ℕ → ℕ → List ℕ
columns_of w i = part_at (below (length w)) i

length_part : (w : List ℕ) (i : ℕ) → length (columns_of w i) ≡ min 64 (length w - 64 * i)
length_part w i = omega (arith, length-take 64 (drop (64 * i) (below (length w))), length-drop (64 * i) (below (length w)), length_below (length w))

column_is : (w : List ℕ) (i t : ℕ) → t < length (columns_of w i) → slice_index (columns_of w i) t ≡ 64 * i + t
column_is w i t l =
    let short = length_part w i in
    get_or-take 64 (drop (64 * i) (below (length w))) t 0 (omega (arith, l, short)) ∙ get_or-drop (64 * i) (below (length w)) t 0 ∙ index_below (length w) (64 * i + t) 0 (omega (arith, l, short))

-- the symbols of a part, and then zeros
pub part_planes : (w block : List ℕ) (i start many : ℕ) → start ≡ min (64 * i) (length w) → many ≡ min (length w - start) 64 → length block ≡ 64 → ((t : ℕ) → t < many → slice_index block t ≡ slice_index w (start + t)) → ((t : ℕ) → many ≤ t → slice_index block t ≡ 0) → (j : ℕ) → plane j block ≡ plane_at j (part_at (below (length w)) i) w
part_planes w block i start many s m long done rest =
    let short = length_part w i in
    let same : length (columns_of w i) ≡ many = omega (arith, short, s, m) in
    block_planes (columns_of w i) w block (omega (arith, short)) long (λ t l.
    let from : start + t ≡ 64 * i + t = omega (arith, s, m, same, l) in
    done t (omega (arith, l, same)) ∙ ap (slice_index w) (from ∙ sym (column_is w i t l))) (λ t l. rest t (omega (arith, l, same)))

-- by the planes of the words
planes_are : (P : ℕ) (x y u v : List ℕ) → ((p : ℕ) → p < P → slice_index x p ≡ plane p u) → ((p : ℕ) → p < P → slice_index y p ≡ plane p v) → planes_apart P x y ≡ apart P u v
planes_are zero x y u v a b = refl
planes_are (suc p) x y u v a b =
    ap₂ bit_or (ap₂ bit_xor (a p (omega arith)) (b p (omega arith))) (planes_are p x y u v (λ q l. a q (omega (arith, l))) (λ q l. b q (omega (arith, l))))

parts_are : (f : FieldName) (P N n m : ℕ) (u v : List ℕ) (x y : List (List ℕ)) → size f ≤ 2 ^ P → IsWord f n u → IsWord f n v → IsPacked P N u x → IsPacked P N (negative f v) y → m ≤ N → places_apart P m x y ≡ weight (restrict (take (64 * m) (below n)) (word_sum f u v))
parts_are f P N n zero u v x y s h k a b l = sym (part_none (below n) (word_sum f u v))
parts_are f P N n (suc m) u v x y s h k a b l =
    let cols = part_at (below n) m in
    let before = parts_are f P N n m u v x y s h k a b (omega (arith, l)) in
    let inside : m < N = omega (arith, l) in
    let first : (p : ℕ) → p < P → slice_index (slice_index_or x m []) p ≡ plane p (restrict cols u) = λ p o. a.plane m p inside o ∙ ap (λ z. plane_at p (part_at (below z) m) u) h.long in
    let second : (p : ℕ) → p < P → slice_index (slice_index_or y m []) p ≡ plane p (restrict cols (negative f v)) = λ p o. b.plane m p inside o ∙ ap (λ z. plane_at p (part_at (below z) m) (negative f v)) (length_scale f _ v ∙ k.long) in
    let here = ap count_ones (planes_are P (slice_index_or x m []) (slice_index_or y m []) (restrict cols u) (restrict cols (negative f v)) first second) ∙ sym (tail_ones f n P cols u v s h k) in
    let next : 64 * (m + 1) ≡ 64 * suc m = omega arith in
    ap₂ (λ c d. c + d) before here ∙ sym (part_more (below n) (word_sum f u v) m) ∙ ap (λ c. weight (restrict (take c (below n)) (word_sum f u v))) next

restrict_all : (w : List ℕ) → restrict (below (length w)) w ≡ w
restrict_all w =
    ext_get_or 0 (restrict (below (length w)) w) w (length_restrict (below (length w)) w ∙ length_below (length w)) (λ i l.
    let inside : i < length w = omega (arith, l, length_restrict (below (length w)) w, length_below (length w)) in
    index_restrict (below (length w)) w i (omega (arith, inside, length_below (length w))) ∙ ap (slice_index w) (index_below (length w) i 0 inside))

pub places_are : (f : FieldName) (P N n : ℕ) (u v : List ℕ) (x y : List (List ℕ)) → size f ≤ 2 ^ P → n ≤ 64 * N → IsWord f n u → IsWord f n v → IsPacked P N u x → IsPacked P N v y → places_apart P N x y ≡ weight (word_sum f u (negative f v))
places_are f P N n u v x y s narrow h k a b =
    let o = negative f v in
    let w = word_sum f u o in
    let turned : IsWord f n o = IsWord_scale f n (neg f 1) v k.long in
    let back : negative f o ≡ v = scale_scale f (neg f 1) (neg f 1) v ∙ ap (λ c. scale f c v) (neg_one_twice f) ∙ one_scale f v k.fits in
    let long : length w ≡ n = length_word_sum f u o (h.long ∙ sym turned.long) ∙ turned.long in
    parts_are f P N n N u o x y s h turned a (subst (λ z. IsPacked P N z y) (sym back) b) (omega arith) ∙ part_all (below n) w N (omega (arith, narrow, length_below n)) ∙ ap (λ z. weight (restrict (below z) w)) (sym long) ∙ ap weight (restrict_all w)

-- Words over 2 elements as numbers of bits, and the sums of rows that a walk makes of them.
--   binary_field               the field of 2 elements
--   pack_none, pack_step, pack_room, pack_all      a word packed symbol by symbol
--   support_single             over 2 elements a support has one word, the sum of its rows
--   front_start, front_next    the packed sum of the rows at the places of a front, and of one place more
--   front_within               the places of a front
--   leaf_passed                a last place whose word isn't lighter is passed over
use Rattle.std.proofs.Common.{◌≡◌, ℕ, zero, suc, ◌+◌, ◌-◌, ◌*◌, ◌^◌, ◌<◌, ◌≤◌, Bool, false, ◌&&◌, nat_lt, List, [], ◌∷◌, ◌++◌, find, take, drop, flat_map, length, bit_xor, count_ones, slice_index, Option, refl, sym, ap, ap₂, subst, ◌∙◌, arith, append-nil}
use Rattle.std.proofs.Math.Nat.{pow-le-pow_right}
use Rattle.std.proofs.lemmas.List.{length-drop, length-take-le, drop_all, get_or-take}
use Rattle.std.proofs.lemmas.List.Concat.{flat_map-cons}
use Rattle.lc_algebra.specs.declared.FieldName.{FieldName}
use Rattle.lc_algebra.specs.declared.FieldName.TheVariants.{Gf2}
use Rattle.lc_algebra.specs.Field.{size}
use Rattle.lc_algebra.specs.Word.{IsWord, Fits, zero_word, word_sum, scale}
use Rattle.lc_algebra.specs.Matrix.{Matrix, AreRows}
use Rattle.lc_algebra.proofs.EmbeddingTests.{told_by_size, size_two}
use Rattle.lc_algebra.proofs.WordLaws.{fits_tail, one_scale, IsWord_zero, IsWord_sum, length_scale}
use Rattle.lc_enumeration.specs.Message.{numbers_from}
use Rattle.lc_formats.specs.Certificate.{is_lighter}
use Rattle.lc_checker.specs.Walk.{row_of, words_along, support_words, words_over, found}
use Rattle.lc_vec.specs.Packed.{packed}
use Rattle.lc_vec.proofs.PackLaws.{bit_small, packed_sum, packed_ones, packed_small, packed_nil, packed_drop, zero_packed}
use Rattle.lc_checker.specs.Packed.{sum_over, front_bits, ArePacked}
use Rattle.lc_checker.proofs.WalkLaws.{over_passed, over_whole, words_none}
use Rattle.lc_checker.proofs.HeavyLaws.{along_cons}

pub binary_field : (f : FieldName) (q : ℕ) → q ≡ size f → q ≡ 2 → f ≡ Gf2
binary_field f q e t = told_by_size f Gf2 (sym e ∙ t ∙ sym size_two)

-- ---- packing

pub pack_none : (word : List ℕ) → 0 ≡ packed (drop (length word) word)
pack_none word = sym (ap packed (drop_all (length word) word (omega arith)) ∙ packed_nil)

pub pack_step : (word : List ℕ) (i bits : ℕ) → 0 < i → i ≤ length word → bits ≡ packed (drop i word) → bits * 2 + slice_index word (i - 1) ≡ packed (drop (i - 1) word)
pack_step word i bits z l e =
    let back : suc (i - 1) ≡ i = omega (arith, z) in
    sym (packed_drop word (i - 1) (omega (arith, l, z)) ∙ ap (λ m. packed (drop m word) * 2 + slice_index word (i - 1)) back ∙ ap (λ x. x * 2 + slice_index word (i - 1)) (sym e))

pub fits_drop : (w : List ℕ) (i : ℕ) → Fits Gf2 w → Fits Gf2 (drop i w)
fits_drop w zero h = h
fits_drop [] (suc i) h = h
fits_drop (a ∷ w) (suc i) h = fits_drop w i (fits_tail Gf2 a w h)

pub pack_room : (word : List ℕ) (i bits : ℕ) → Fits Gf2 word → length word ≤ 64 → 0 < i → bits ≡ packed (drop i word) → bits < 2 ^ 63
pack_room word i bits h few z e =
    let rest = drop i word in
    let short : length rest ≤ 63 = omega (arith, length-drop i word, few, z) in
    omega (arith, e, packed_small rest (fits_drop word i h), pow-le-pow_right {n = 2} (omega arith) short)

pub pack_all : (word : List ℕ) (bits : ℕ) → bits ≡ packed (drop 0 word) → bits ≡ packed word
pack_all word bits e = e

-- ---- one word a support

numbers_one : (f : FieldName) → f ≡ Gf2 → numbers_from 1 (size f - 1) ≡ 1 ∷ []
unfolding numbers_from
numbers_one f e = let one : size f - 1 ≡ 1 = omega (arith, ap size e, size_two) in ap (numbers_from 1) one

along_single : (f : FieldName) (rows : List (List ℕ)) (a s : List ℕ) → f ≡ Gf2 → words_along f rows a s ≡ sum_over f rows a s ∷ []
unfolding sum_over
along_single f rows a [] e = words_none f rows a
along_single f rows a (p ∷ s) e =
    let g = λ (c : ℕ). words_along f rows (word_sum f a (scale f c (row_of rows p))) s in
    along_cons f rows a p s ∙ ap (flat_map g) (numbers_one f e) ∙ flat_map-cons g 1 [] ∙ append-nil (g 1) ∙ along_single f rows (word_sum f a (scale f 1 (row_of rows p))) s e

support_single : (f : FieldName) (n : ℕ) (rows : List (List ℕ)) (s : List ℕ) → f ≡ Gf2 → support_words f n rows s ≡ sum_over f rows (zero_word n) s ∷ []
unfolding support_words sum_over
support_single f n rows [] e = refl
support_single f n rows (p ∷ s) e = along_single f rows (word_sum f (zero_word n) (scale f 1 (row_of rows p))) s e

sum_last : (f : FieldName) (rows : List (List ℕ)) (a s : List ℕ) (p : ℕ) → sum_over f rows a (s ++ p ∷ []) ≡ word_sum f (sum_over f rows a s) (scale f 1 (row_of rows p))
unfolding sum_over
sum_last f rows a [] p = refl
sum_last f rows a (q ∷ s) p = sum_last f rows (word_sum f a (scale f 1 (row_of rows q))) s p

sum_word : (f : FieldName) (n : ℕ) (rows : List (List ℕ)) (a s : List ℕ) → AreRows f n rows → IsWord f n a → ((i : ℕ) → i < length s → slice_index s i < length rows) → IsWord f n (sum_over f rows a s)
unfolding sum_over
sum_word f n rows a [] r w h = w
sum_word f n rows a (p ∷ s) r w h =
    let is : IsWord f n (row_of rows p) = r p [] (h 0 (omega arith)) in
    sum_word f n rows (word_sum f a (scale f 1 (row_of rows p))) s r (IsWord_sum f n a (scale f 1 (row_of rows p)) w.long (length_scale f 1 (row_of rows p) ∙ is.long)) (λ i l. h (suc i) (omega (arith, l)))

pub front_start : (C : Matrix) (front : List ℕ) → front ≡ [] → 0 ≡ front_bits C front
unfolding sum_over
front_start C front e = rw e (sym (zero_packed C.columns))

pub front_word : (C : Matrix) (bits front : List ℕ) → ArePacked C bits → ((i : ℕ) → i < length front → slice_index front i < length C.rows) → IsWord C.field C.columns (sum_over C.field C.rows (zero_word C.columns) front)
front_word C bits front h inside = sum_word C.field C.columns C.rows (zero_word C.columns) front h.words (IsWord_zero C.field C.columns) inside

pub fits_two : (f : FieldName) (n : ℕ) (w : List ℕ) → f ≡ Gf2 → IsWord f n w → Fits Gf2 w
fits_two f n w e h = subst (λ g. Fits g w) e h.fits

pub front_next : (C : Matrix) (bits front longer : List ℕ) (p sum : ℕ) → ArePacked C bits → ((i : ℕ) → i < length front → slice_index front i < length C.rows) → p < length C.rows → longer ≡ front ++ p ∷ [] → sum ≡ front_bits C front → bit_xor sum (slice_index bits p) ≡ front_bits C longer
front_next C bits front longer p sum h inside l e q =
    let f = C.field in
    let g = row_of C.rows p in
    let u = sum_over f C.rows (zero_word C.columns) front in
    let is : IsWord f C.columns g = h.words p [] l in
    let word = front_word C bits front h inside in
    let scaled : scale f 1 g ≡ g = one_scale f g is.fits in
    ap₂ bit_xor q (h.entry p l)
    ∙ sym (packed_sum u g (word.long ∙ sym is.long) (fits_two f C.columns u h.binary word) (fits_two f C.columns g h.binary is))
    ∙ ap packed (ap (λ x. word_sum x u g) (sym h.binary) ∙ ap (word_sum f u) (sym scaled) ∙ sym (sum_last f C.rows (zero_word C.columns) front p) ∙ ap (sum_over f C.rows (zero_word C.columns)) (sym e))

pub front_within : (s : List ℕ) (d k : ℕ) → d ≤ length s → ((t : ℕ) → t < d → slice_index s t < k) → (i : ℕ) → i < length (take d s) → slice_index (take d s) i < k
front_within s d k l h i m =
    let j : i < d = omega (arith, m, length-take-le d s l) in
    subst (λ x. x < k) (sym (get_or-take d s i 0 j)) (h i j)

longer_within : (front : List ℕ) (p k : ℕ) → ((i : ℕ) → i < length front → slice_index front i < k) → p < k → (i : ℕ) → i < length (front ++ p ∷ []) → slice_index (front ++ p ∷ []) i < k
longer_within [] p k h l zero m = l
longer_within [] p k h l (suc i) m = absurd (omega (arith, m))
longer_within (a ∷ front) p k h l zero m = h 0 (omega arith)
longer_within (a ∷ front) p k h l (suc i) m = longer_within front p k (λ j n. h (suc j) (omega (arith, n))) l i (omega (arith, m))

light_is : (d : ℕ) (w : List ℕ) → Fits Gf2 w → (nat_lt 0 (count_ones (packed w)) && nat_lt (count_ones (packed w)) d) ≡ is_lighter d w
unfolding is_lighter
light_is d w h = ap (λ n. nat_lt 0 n && nat_lt n d) (packed_ones w h)

found_nothing : (test : List ℕ → Bool) (w x : List ℕ) → test w ≡ false → found false x ≡ find test (w ∷ [])
unfolding found
found_nothing test w x e = rw e refl

pub leaf_passed : (C : Matrix) (bits front : List ℕ) (d p m sum : ℕ) (b : Bool) (o : Option (List ℕ)) → ArePacked C bits → ((i : ℕ) → i < length front → slice_index front i < length C.rows) → p < length C.rows → m ≡ 1 → sum ≡ front_bits C front → b ≡ (nat_lt 0 (count_ones (bit_xor sum (slice_index bits p))) && nat_lt (count_ones (bit_xor sum (slice_index bits p))) d) → b ≡ false → o ≡ find (is_lighter d) (words_over C.field C.columns C.rows front p (length C.rows - p) m) → o ≡ find (is_lighter d) (words_over C.field C.columns C.rows front (p + 1) (length C.rows - (p + 1)) m)
leaf_passed C bits front d p m sum b o h inside l one q t dark old =
    let f = C.field in
    let n = C.columns in
    let longer = front ++ p ∷ [] in
    let w = sum_over f C.rows (zero_word n) longer in
    let word = front_word C bits longer h (longer_within front p (length C.rows) inside l) in
    let next = front_next C bits front longer p sum h inside l refl q in
    let heavy : is_lighter d w ≡ false = sym (light_is d w (fits_two f n w h.binary word)) ∙ ap (λ x. nat_lt 0 (count_ones x) && nat_lt (count_ones x) d) (sym next) ∙ sym t ∙ dark in
    let nothing : found false [] ≡ find (is_lighter d) (support_words f n C.rows longer) = found_nothing (is_lighter d) w [] heavy ∙ ap (find (is_lighter d)) (sym (support_single f n C.rows longer h.binary)) in
    over_passed f n C.rows d p (length C.rows) m 0 front longer [] false o l (omega (arith, one)) refl old (over_whole f n C.rows d (p + 1) (length C.rows - (p + 1)) 0 longer (found false []) refl nothing) refl

pub ruleset bits_of_laws = (pack_none, pack_step, pack_room, bit_small, pack_all)

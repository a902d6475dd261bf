-- The words of the code of a period are orthogonal to differences of words that are made from the other period; so a word of both codes
-- has equal symbols.
--   unit_parts             the residue word is that of the residues, and minus the period at 0
--   check_word f n t m     the residue word of t, turned and moved on by m coordinates
--   product_is             the dot of the residue word of a period with each check word of the other period is the same
use Rattle.std.proofs.Common.{◌≡◌, ◌≢◌, ℕ, zero, suc, ◌+◌, ◌-◌, ◌*◌, ◌/◌, ◌%◌, ◌^◌, ◌<◌, ◌≤◌, Bool, true, false, if◌then◌else◌, ◌==◌, List, [], ◌∷◌, length, map, slice_index, refl, sym, ap, ap₂, subst, ◌∙◌, ⊎_elim, arith}
use Rattle.std.proofs.Math.Nat.{mod-lt, mod-eq_of_lt, mod_self, zero-mod, add-mod_right, zero-mul, one-mul}
use Rattle.std.proofs.lemmas.Bool.{cases_lt, cases_eq, ne_eqb}
use Rattle.std.proofs.lemmas.List.{get_or_past}
use Rattle.lc_algebra.specs.declared.FieldName.{FieldName}
use Rattle.lc_algebra.specs.Field.{shape_of, size, add, neg, mul}
use Rattle.lc_algebra.specs.Word.{IsWord, word_sum, scale, word_dot}
use Rattle.lc_algebra.specs.Span.{below}
use Rattle.lc_algebra.proofs.CommonLaws.{small_bit}
use Rattle.lc_algebra.proofs.FieldTests.{above_one_characteristic}
use Rattle.lc_algebra.proofs.FieldLaws.{one_inside, neg_inside, zero_add, add_zero, add_comm, add_assoc, add_neg, add_mul, mul_one, one_mul, zero_mul, mul_zero, neg_zero}
use Rattle.lc_algebra.proofs.WordLaws.{index_word_sum, index_scale, length_word_sum, length_scale, word_symbol, IsWord_sum, IsWord_scale, dot_comm, dot_sum, sum_dot, dot_scale, scale_dot, dot_inside}
use Rattle.lc_algebra.proofs.ReducedLaws.{dot_unit}
use Rattle.lc_enumeration.specs.InformationSet.{unit_word}
use Rattle.lc_enumeration.proofs.GreedyLaws.{length_unit, index_unit}
use Rattle.lc_infoset.proofs.ExistLaws.{unit_is_word}
use Rattle.lc_language.specs.QuadraticResidues.{is_odd_prime, period_norm, is_period, residue_word, cyclic_shift}
use Rattle.lc_residues.specs.Periods.{other_period}
use Rattle.lc_residues.proofs.CodeLaws.{residue_word_is, mapped_word}
use Rattle.lc_residues.proofs.PickLaws.{index_mapped, length_mapped, same_picks, index_shift, length_shift, shifts_linear}
use Rattle.lc_residues.proofs.ShiftLaws.{shift_none}
use Rattle.lc_residues.proofs.MultiplierLaws.{index_residue, symbol_zero, symbol_nonzero, nonzero_symbol}
use Rattle.lc_residues.proofs.CharacterLaws.{criterion}
use Rattle.lc_residues.proofs.PrimeFieldLaws.{add_residues, residue_inside, period_product, period_sum}
use Rattle.lc_residues.proofs.CountLaws.{bits, turned, nat_dot, quarter, length_turned, length_bits, index_bits, bits_zero, sums_at_zero, sums_elsewhere}

-- ---- the dot of words of zeros and ones

abbrev AreBits : List ℕ → Type 0
AreBits u = (i : ℕ) → slice_index u i < 2

bit_product : (f : FieldName) (a b : ℕ) → a < 2 → b < 2 → mul f a b ≡ a * b % (shape_of f).characteristic
bit_product f zero b l m = zero_mul f b ∙ sym (ap (λ x. x % (shape_of f).characteristic) (zero-mul b) ∙ zero-mod (shape_of f).characteristic)
bit_product f (suc zero) b l m =
    one_mul f b (omega (arith, m, one_inside f)) ∙ sym (ap (λ x. x % (shape_of f).characteristic) (one-mul b) ∙ mod-eq_of_lt (omega (arith, m, above_one_characteristic f)))
bit_product f (suc (suc a)) b l m = absurd (omega (arith, l))

dot_of_bits : (f : FieldName) (u v : List ℕ) → AreBits u → AreBits v → word_dot f u v ≡ nat_dot u v % (shape_of f).characteristic
unfolding word_dot nat_dot
dot_of_bits f [] v h k = sym (zero-mod (shape_of f).characteristic)
dot_of_bits f (a ∷ u) [] h k = sym (zero-mod (shape_of f).characteristic)
dot_of_bits f (a ∷ u) (b ∷ v) h k =
    ap₂ (add f) (bit_product f a b (h 0) (k 0)) (dot_of_bits f u v (λ i. h (suc i)) (λ i. k (suc i))) ∙ add_residues f (a * b) (nat_dot u v)

-- ---- the word of the residues

bits_small : (n : ℕ) → AreBits (bits n)
bits_small n i =
    ⊎_elim
    (λ l. subst (λ a. a < 2) (sym (index_bits n i l)) (small_bit (i ^ ((n - 1) / 2) % n == 1)))
    (λ l. let e : slice_index (bits n) i ≡ 0 = get_or_past (bits n) i 0 (omega (arith, l, length_bits n)) in omega (arith, e))
    (cases_lt i n)

picks_small : (n : ℕ) (h : ℕ → ℕ) (w : List ℕ) → AreBits w → AreBits (map (λ i. slice_index w (h i)) (below n))
picks_small n h w k i =
    ⊎_elim
    (λ l. subst (λ a. a < 2) (sym (index_mapped (λ i. slice_index w (h i)) n i l)) (k (h i)))
    (λ l. let e : slice_index (map (λ i. slice_index w (h i)) (below n)) i ≡ 0 = get_or_past (map (λ i. slice_index w (h i)) (below n)) i 0 (omega (arith, l, length_mapped (λ i. slice_index w (h i)) n)) in omega (arith, e))
    (cases_lt i n)

turned_small : (n : ℕ) (w : List ℕ) → AreBits w → AreBits (turned n w)
unfolding turned
turned_small n w k = picks_small n (λ i. (n - i) % n) w k

shift_small : (n m : ℕ) (w : List ℕ) → AreBits w → AreBits (cyclic_shift n m w)
unfolding cyclic_shift
shift_small n m w k = picks_small n (λ i. (i + (n - m)) % n) w k

pub bits_are : (f : FieldName) (n : ℕ) → n ≤ 255 → is_odd_prime n ≡ true → bits n ≡ residue_word f n 0
bits_are f n b h =
    same_picks n (bits n) (residue_word f n 0) (length_bits n) (residue_word_is f n 0).long (λ i l.
    ⊎_elim
    (λ e. ap (slice_index (bits n)) e ∙ bits_zero n b h ∙ sym (index_residue f n 0 i l ∙ symbol_zero f n 0 i e ∙ neg_zero f))
    (λ z. index_bits n i l ∙ ap nonzero_symbol (criterion n i b h l z) ∙ sym (index_residue f n 0 i l ∙ symbol_nonzero f n 0 i z))
    (cases_eq i 0))

-- ---- a unit word, turned and moved on

unit_here : (n i : ℕ) → i < n → i ≡ 0 → slice_index (unit_word n 0) i ≡ 1
unit_here n i l e = index_unit n 0 i l ∙ ap (λ j. if 0 == j then 1 else 0) e

unit_elsewhere : (n i : ℕ) → i < n → i ≢ 0 → slice_index (unit_word n 0) i ≡ 0
unit_elsewhere n i l z = index_unit n 0 i l ∙ ap (λ b. if b then 1 else 0) (ne_eqb 0 i (λ e. z (sym e)))

unfoldable pub check_word : ℕ → ℕ → List ℕ → List ℕ
check_word n m w = cyclic_shift n m (turned n w)

abbrev source : ℕ → ℕ → ℕ → ℕ
source n m i = (n - (i + (n - m)) % n) % n

length_check : (n m : ℕ) (w : List ℕ) → length (check_word n m w) ≡ n
unfolding check_word
length_check n m w = length_shift n m (turned n w)

index_check : (n m i : ℕ) (w : List ℕ) → i < n → slice_index (check_word n m w) i ≡ slice_index w (source n m i)
unfolding check_word turned
index_check n m i w l = index_shift n m (turned n w) i l ∙ index_mapped (λ i. slice_index w ((n - i) % n)) n ((i + (n - m)) % n) (mod-lt (i + (n - m)) (omega (arith, l)))

pub check_is : (f : FieldName) (n m : ℕ) (w : List ℕ) → IsWord f n w → IsWord f n (check_word n m w)
unfolding check_word turned
check_is f n m w a = (shifts_linear f n m).word (turned n w) (mapped_word f n (λ i. slice_index w ((n - i) % n)) (λ i. word_symbol f n w a ((n - i) % n)))

check_sum : (f : FieldName) (n m : ℕ) (u v : List ℕ) → IsWord f n u → IsWord f n v → check_word n m (word_sum f u v) ≡ word_sum f (check_word n m u) (check_word n m v)
check_sum f n m u v a b =
    let l : length u ≡ length v = a.long ∙ sym b.long in
    let k : length (check_word n m u) ≡ length (check_word n m v) = length_check n m u ∙ sym (length_check n m v) in
    same_picks n (check_word n m (word_sum f u v)) (word_sum f (check_word n m u) (check_word n m v)) (length_check n m (word_sum f u v)) (length_word_sum f (check_word n m u) (check_word n m v) k ∙ length_check n m v) (λ i h.
    cc (index_check n m i (word_sum f u v) h, index_word_sum f u v (source n m i) l, index_word_sum f (check_word n m u) (check_word n m v) i k, index_check n m i u h, index_check n m i v h))

check_scale : (f : FieldName) (n m c : ℕ) (u : List ℕ) → check_word n m (scale f c u) ≡ scale f c (check_word n m u)
check_scale f n m c u =
    same_picks n (check_word n m (scale f c u)) (scale f c (check_word n m u)) (length_check n m (scale f c u)) (length_scale f c (check_word n m u) ∙ length_check n m u) (λ i h.
    cc (index_check n m i (scale f c u) h, index_scale f c u (source n m i), index_scale f c (check_word n m u) i, index_check n m i u h))

source_here : (n m : ℕ) → m < n → source n m m ≡ 0
source_here n m l =
    let a : m + (n - m) ≡ n = omega (arith, l) in
    let b : n - 0 ≡ n = omega arith in
    ap (λ k. (n - k) % n) (ap (λ k. k % n) a ∙ mod_self n) ∙ ap (λ k. k % n) b ∙ mod_self n

-- below n and not 0, so is what is left to n
left_to : (n k : ℕ) → k < n → k ≢ 0 → (n - k) % n ≢ 0
left_to n zero l z e = z refl
left_to n (suc k) l z e =
    let m : (n - suc k) % n ≡ n - suc k = mod-eq_of_lt (omega (arith, l)) in
    omega (arith, m, e, l)

source_elsewhere : (n m i : ℕ) → m < n → i < n → i ≢ m → source n m i ≢ 0
source_elsewhere n m i l h z =
    ⊎_elim
    (λ k.
    let e : (i + (n - m)) % n ≡ i + (n - m) = mod-eq_of_lt (omega (arith, k, l)) in
    left_to n ((i + (n - m)) % n) (mod-lt (i + (n - m)) (omega (arith, l))) (λ q. omega (arith, q, e, l)))
    (λ k.
    let a : i + (n - m) ≡ i - m + n = omega (arith, k, l) in
    let e : (i + (n - m)) % n ≡ i - m = ap (λ j. j % n) a ∙ add-mod_right (i - m) n ∙ mod-eq_of_lt (omega (arith, h)) in
    left_to n ((i + (n - m)) % n) (mod-lt (i + (n - m)) (omega (arith, l))) (λ q. z (omega (arith, q, e, k))))
    (cases_lt i m)

source_first : (n m : ℕ) → m < n → source n m 0 ≡ m
source_first n m l =
    ⊎_elim
    (λ e. subst (λ k. source n k 0 ≡ k) (sym e) (source_here n 0 (omega (arith, l))))
    (λ z.
    let a : 0 + (n - m) ≡ n - m = omega arith in
    let p : 0 < m = ⊎_elim (λ q. q) (λ q. absurd (z (omega (arith, q)))) (cases_lt 0 m) in
    let b : (0 + (n - m)) % n ≡ n - m = ap (λ k. k % n) a ∙ mod-eq_of_lt (omega (arith, l, p)) in
    let c : n - (n - m) ≡ m = omega (arith, l) in
    ap (λ k. (n - k) % n) b ∙ ap (λ k. k % n) c ∙ mod-eq_of_lt l)
    (cases_eq m 0)

unit_checked : (n m i : ℕ) → m < n → i < n → i ≡ m → slice_index (check_word n m (unit_word n 0)) i ≡ 1
unit_checked n m i l h e = index_check n m i (unit_word n 0) h ∙ unit_here n (source n m i) (mod-lt (n - (i + (n - m)) % n) (omega (arith, l))) (ap (source n m) e ∙ source_here n m l)

unit_left : (n m i : ℕ) → m < n → i < n → i ≢ m → slice_index (check_word n m (unit_word n 0)) i ≡ 0
unit_left n m i l h z = index_check n m i (unit_word n 0) h ∙ unit_elsewhere n (source n m i) (mod-lt (n - (i + (n - m)) % n) (omega (arith, l))) (source_elsewhere n m i l h z)

pub dot_unit_check : (f : FieldName) (n m : ℕ) (w : List ℕ) → m < n → IsWord f n w → word_dot f w (check_word n m (unit_word n 0)) ≡ slice_index w m
dot_unit_check f n m w l a =
    let long = length_check n m (unit_word n 0) in
    dot_unit f w (check_word n m (unit_word n 0)) m a.fits (long ∙ sym a.long) (omega (arith, l, long)) (unit_checked n m m l l refl) (λ i k z. unit_left n m i l (omega (arith, k, long)) z)

dot_unit_first : (f : FieldName) (n : ℕ) (w : List ℕ) → 0 < n → IsWord f n w → word_dot f (unit_word n 0) w ≡ slice_index w 0
dot_unit_first f n w l a =
    let long = length_unit n 0 in
    dot_comm f (unit_word n 0) w ∙ dot_unit f w (unit_word n 0) 0 a.fits (long ∙ sym a.long) (omega (arith, l, long)) (unit_here n 0 l refl) (λ i k z. unit_elsewhere n i (omega (arith, k, long)) z)

-- ---- the residue word in two parts

abbrev plain : FieldName → ℕ → List ℕ
plain f n = residue_word f n 0

plain_zero : (f : FieldName) (n : ℕ) → 0 < n → slice_index (plain f n) 0 ≡ 0
plain_zero f n l = index_residue f n 0 0 l ∙ symbol_zero f n 0 0 refl ∙ neg_zero f

pub unit_parts : (f : FieldName) (n t : ℕ) → residue_word f n t ≡ word_sum f (residue_word f n 0) (scale f (neg f t) (unit_word n 0))
unit_parts f n t =
    let S = plain f n in
    let E = scale f (neg f t) (unit_word n 0) in
    let long : length E ≡ n = length_scale f (neg f t) (unit_word n 0) ∙ length_unit n 0 in
    let even : length S ≡ length E = (residue_word_is f n 0).long ∙ sym long in
    let right : (i : ℕ) → slice_index (word_sum f S E) i ≡ add f (slice_index S i) (mul f (neg f t) (slice_index (unit_word n 0) i)) = λ i. index_word_sum f S E i even ∙ ap (add f (slice_index S i)) (index_scale f (neg f t) (unit_word n 0) i) in
    same_picks n (residue_word f n t) (word_sum f S E) (residue_word_is f n t).long (length_word_sum f S E even ∙ long) (λ i l.
    ⊎_elim
    (λ e.
    let none : slice_index S i ≡ 0 = index_residue f n 0 i l ∙ symbol_zero f n 0 i e ∙ neg_zero f in
    index_residue f n t i l ∙ symbol_zero f n t i e ∙ sym (right i ∙ ap₂ (λ a b. add f a (mul f (neg f t) b)) none (unit_here n i l e) ∙ ap (add f 0) (mul_one f (neg f t) (neg_inside f t)) ∙ zero_add f (neg f t) (neg_inside f t)))
    (λ z.
    let same : slice_index S i ≡ slice_index (residue_word f n t) i = index_residue f n 0 i l ∙ symbol_nonzero f n 0 i z ∙ sym (index_residue f n t i l ∙ symbol_nonzero f n t i z) in
    let inside = word_symbol f n (residue_word f n t) (residue_word_is f n t) i in
    sym (right i ∙ ap₂ (λ a b. add f a (mul f (neg f t) b)) same (unit_elsewhere n i l z) ∙ ap (add f (slice_index (residue_word f n t) i)) (mul_zero f (neg f t)) ∙ add_zero f (slice_index (residue_word f n t) i) inside))
    (cases_eq i 0))

pub unit_is : (f : FieldName) (n : ℕ) → IsWord f n (unit_word n 0)
unit_is f n = unit_is_word f n 0

pub check_parts : (f : FieldName) (n m t : ℕ) → check_word n m (residue_word f n t) ≡ word_sum f (check_word n m (residue_word f n 0)) (scale f (neg f t) (check_word n m (unit_word n 0)))
check_parts f n m t =
    ap (check_word n m) (unit_parts f n t)
    ∙ check_sum f n m (plain f n) (scale f (neg f t) (unit_word n 0)) (residue_word_is f n 0) (IsWord_scale f n (neg f t) (unit_word n 0) (length_unit n 0))
    ∙ ap (word_sum f (check_word n m (plain f n))) (check_scale f n m (neg f t) (unit_word n 0))

-- ---- the dot of the residue word of one period with the check words of the other

zero_part : (f : FieldName) (a u v s d : ℕ) → a < size f → v < size f → s ≡ 0 → d ≡ 1 → add f (add f a (mul f v s)) (mul f u (add f s (mul f v d))) ≡ add f a (mul f u v)
zero_part f a u v s d l m e k =
    ap₂ (λ x y. add f (add f a (mul f v x)) (mul f u (add f x (mul f v y)))) e k
    ∙ ap₂ (λ x y. add f (add f a x) (mul f u (add f 0 y))) (mul_zero f v) (mul_one f v m)
    ∙ ap₂ (λ x y. add f x (mul f u y)) (add_zero f a l) (zero_add f v m)

other_part : (f : FieldName) (a u v s d : ℕ) → s < size f → add f u v ≡ 1 → d ≡ 0 → add f (add f a (mul f v s)) (mul f u (add f s (mul f v d))) ≡ add f a s
other_part f a u v s d l e k =
    ap (λ y. add f (add f a (mul f v s)) (mul f u (add f s (mul f v y)))) k
    ∙ ap (λ y. add f (add f a (mul f v s)) (mul f u y)) (ap (add f s) (mul_zero f v) ∙ add_zero f s l)
    ∙ add_assoc f a (mul f v s) (mul f u s)
    ∙ ap (add f a) (sym (add_mul f v u s) ∙ ap (λ x. mul f x s) (add_comm f v u ∙ e) ∙ one_mul f s l)

dot_parts : (f : FieldName) (n m t o : ℕ) → m < n → word_dot f (residue_word f n t) (check_word n m (residue_word f n o)) ≡ add f (add f (word_dot f (residue_word f n 0) (check_word n m (residue_word f n 0))) (mul f (neg f o) (slice_index (residue_word f n 0) m))) (mul f (neg f t) (add f (slice_index (residue_word f n 0) m) (mul f (neg f o) (slice_index (check_word n m (unit_word n 0)) 0))))
dot_parts f n m t o l =
    let S = residue_word f n 0 in
    let E = unit_word n 0 in
    let u = neg f t in
    let v = neg f o in
    let MS = check_word n m S in
    let ME = check_word n m E in
    let T = word_sum f MS (scale f v ME) in
    let s = residue_word_is f n 0 in
    let ms = check_is f n m S s in
    let me = check_is f n m E (unit_is f n) in
    let sme = IsWord_scale f n v ME me.long in
    let even : length MS ≡ length (scale f v ME) = ms.long ∙ sym sme.long in
    let tw : IsWord f n T = IsWord_sum f n MS (scale f v ME) ms.long sme.long in
    let first : word_dot f S T ≡ add f (word_dot f S MS) (mul f v (slice_index S m)) = dot_sum f S MS (scale f v ME) even ∙ ap (add f (word_dot f S MS)) (dot_scale f v S ME ∙ ap (mul f v) (dot_unit_check f n m S l s)) in
    let at : slice_index T 0 ≡ add f (slice_index S m) (mul f v (slice_index ME 0)) = index_word_sum f MS (scale f v ME) 0 even ∙ ap₂ (add f) (index_check n m 0 S (omega (arith, l)) ∙ ap (slice_index S) (source_first n m l)) (index_scale f v ME 0) in
    let second : word_dot f (scale f u E) T ≡ mul f u (add f (slice_index S m) (mul f v (slice_index ME 0))) = scale_dot f u E T ∙ ap (mul f u) (dot_unit_first f n T (omega (arith, l)) tw ∙ at) in
    ap₂ (word_dot f) (unit_parts f n t) (check_parts f n m o)
    ∙ sum_dot f S (scale f u E) T (s.long ∙ sym (IsWord_scale f n u E (length_unit n 0)).long)
    ∙ ap₂ (add f) first second

plain_dot : (f : FieldName) (n m : ℕ) → n ≤ 255 → is_odd_prime n ≡ true → word_dot f (residue_word f n 0) (check_word n m (residue_word f n 0)) ≡ nat_dot (check_word n m (bits n)) (bits n) % (shape_of f).characteristic
unfolding check_word
plain_dot f n m b h =
    let e = bits_are f n b h in
    ap (λ w. word_dot f w (cyclic_shift n m (turned n w))) (sym e) ∙ dot_comm f (bits n) (cyclic_shift n m (turned n (bits n)))
    ∙ dot_of_bits f (cyclic_shift n m (turned n (bits n))) (bits n) (shift_small n m (turned n (bits n)) (turned_small n (bits n) (bits_small n))) (bits_small n)

zero_norm : (f : FieldName) (n : ℕ) (b : Bool) → n % 4 == 1 ≡ b → add f ((if b then 2 * quarter n else 0) % (shape_of f).characteristic) (period_norm f n) ≡ quarter n % (shape_of f).characteristic
unfolding period_norm quarter
zero_norm f n true e =
    let p = (shape_of f).characteristic in
    let q = (n - 1) / 4 in
    let twice : 2 * q ≡ q + q = omega arith in
    rw e (ap (λ x. add f (x % p) (neg f (q % p))) twice ∙ ap (λ x. add f x (neg f (q % p))) (sym (add_residues f q q)) ∙ add_assoc f (q % p) (q % p) (neg f (q % p)) ∙ ap (add f (q % p)) (add_neg f (q % p)) ∙ add_zero f (q % p) (residue_inside f q))
zero_norm f n false e =
    let p = (shape_of f).characteristic in
    let q = (n + 1) / 4 in
    let none : 0 + q ≡ q = omega arith in
    rw e (add_residues f 0 q ∙ ap (λ x. x % p) none)

unmoved : (n : ℕ) (w : List ℕ) → check_word n 0 w ≡ turned n w
unfolding check_word
unmoved n w = shift_none n (turned n w) (length_turned n w)

moved_sums : (n m : ℕ) → n ≤ 255 → is_odd_prime n ≡ true → m < n → m ≢ 0 → nat_dot (check_word n m (bits n)) (bits n) + slice_index (bits n) m ≡ quarter n
unfolding check_word
moved_sums n m b h l z = sums_elsewhere n m b h l z

below_characteristic : (f : FieldName) (a : ℕ) → a < 2 → a < (shape_of f).characteristic
below_characteristic f a l = omega (arith, l, above_one_characteristic f)

pub product_is : (f : FieldName) (n t m : ℕ) → n ≤ 255 → is_odd_prime n ≡ true → t < size f → is_period f n t ≡ true → m < n → word_dot f (residue_word f n t) (check_word n m (residue_word f n (other_period f t))) ≡ quarter n % (shape_of f).characteristic
product_is f n t m b h k e l =
    let p = (shape_of f).characteristic in
    let o = other_period f t in
    let S = residue_word f n 0 in
    let s = slice_index S m in
    let N = word_dot f S (check_word n m S) in
    let d = slice_index (check_word n m (unit_word n 0)) 0 in
    let positive : 0 < n = omega (arith, l) in
    dot_parts f n m t o l
    ∙ ⊎_elim
    (λ z.
    let none : s ≡ 0 = ap (slice_index S) z ∙ plain_zero f n positive in
    let turn : check_word n m (bits n) ≡ turned n (bits n) = ap (λ j. check_word n j (bits n)) z ∙ unmoved n (bits n) in
    let count : N ≡ (if n % 4 == 1 then 2 * quarter n else 0) % p = plain_dot f n m b h ∙ ap (λ w. nat_dot w (bits n) % p) turn ∙ ap (λ x. x % p) (sums_at_zero n b h) in
    zero_part f N (neg f t) (neg f o) s d (dot_inside f S (check_word n m S)) (neg_inside f o) none (unit_checked n m 0 l positive (sym z))
    ∙ ap₂ (add f) count (period_product f n t k e) ∙ zero_norm f n (n % 4 == 1) refl)
    (λ z.
    let small : s ≡ s % p = sym (mod-eq_of_lt (subst (λ w. slice_index w m < p) (bits_are f n b h) (below_characteristic f (slice_index (bits n) m) (bits_small n m)))) in
    let same : slice_index (bits n) m ≡ s = ap (λ w. slice_index w m) (bits_are f n b h) in
    let count : nat_dot (check_word n m (bits n)) (bits n) + s ≡ quarter n = ap (λ x. nat_dot (check_word n m (bits n)) (bits n) + x) (sym same) ∙ moved_sums n m b h l z in
    other_part f N (neg f t) (neg f o) s d (word_symbol f n S (residue_word_is f n 0) m) (period_sum f t) (unit_left n m 0 l positive (λ q. z (sym q)))
    ∙ ap₂ (add f) (plain_dot f n m b h) small ∙ add_residues f (nat_dot (check_word n m (bits n)) (bits n)) s ∙ ap (λ x. x % p) count)
    (cases_eq m 0)

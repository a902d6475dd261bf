-- The errors of a received word: its difference from a word of the code, in the locator field.
--   errors f K x u       these errors
--   error_sum            their sums are the syndromes of the received word
--   near_zero            if they are few, they are 0 at each point at which a key polynomial isn't
--   near_sums            and their sums are the first syndromes
--   sums_once            if there are no more symbols than sums, at most one word has these sums
use Rattle.std.proofs.Common.{◌≡◌, ℕ, ◌*◌, ◌<◌, ◌≤◌, List, length, map, take, slice_index, sym, ap, ap₂, ◌∙◌, ⊎_elim, arith}
use Rattle.std.proofs.lemmas.Bool.{cases_eq}
use Rattle.std.proofs.lemmas.List.{get_or-map, get_or-take, length-take, length-map}
use Rattle.lc_algebra.specs.declared.FieldName.{FieldName}
use Rattle.lc_algebra.specs.Field.{size, add, neg, mul}
use Rattle.lc_algebra.specs.Polynomial.{value_at}
use Rattle.lc_algebra.specs.Embedding.{IsSubfield, embed}
use Rattle.lc_algebra.specs.Word.{Fits, IsWord, word_sum, scale, difference, weight, word_dot}
use Rattle.lc_algebra.specs.Matrix.{Matrix}
use Rattle.lc_algebra.proofs.FieldLaws.{neg_inside, add_zero, add_neg, mul_zero, neg_one_mul}
use Rattle.lc_algebra.proofs.WordLaws.{length_scale, IsWord_scale, IsWord_difference, same_from_difference, zero_from_weight, weight_at_most_length, sum_dot, scale_dot, dot_inside}
use Rattle.lc_algebra.proofs.DimensionLaws.{AreDistinct, distinct_from_pairs}
use Rattle.lc_constructions.specs.Code.{InCode}
use Rattle.lc_constructions.specs.Alternant.{AlternantForm, IsFormOf, check_row, syndrome_at}
use Rattle.lc_constructions.specs.Nearest.{IsWithin}
use Rattle.lc_constructions.proofs.CheckLaws.{AreNonzero, light_word}
use Rattle.lc_constructions.proofs.AlternantLaws.{embedded_length, embedded_fits, embedded_weight, syndrome_sum, syndrome_multiple, nonzero_each}
use Rattle.lc_alternant.specs.Checks.{AreSyndromes}
use Rattle.lc_alternant.specs.Key.{AreKeyValues}
use Rattle.lc_alternant.specs.Chosen.{HasSums, IsZeroBut}
use Rattle.lc_alternant.proofs.KeyLaws.{recurring_zero}

syndrome_inside : (f : FieldName) (form : AlternantForm) (x : List ℕ) (j : ℕ) → syndrome_at f form x j < size form.locator
unfolding syndrome_at
syndrome_inside f form x j = dot_inside form.locator (map (embed f form.locator) x) (check_row form.locator form.points form.multipliers j)

error_syndrome : (f : FieldName) (form : AlternantForm) (n : ℕ) (x u : List ℕ) (j : ℕ) → IsSubfield f form.locator → IsWord f n x → IsWord f n u → syndrome_at f form u j ≡ 0 → syndrome_at f form (difference f x u) j ≡ syndrome_at f form x j
unfolding difference
error_syndrome f form n x u j s a b z =
    let K = form.locator in
    let m = scale f (neg f 1) u in
    let e : syndrome_at f form (word_sum f x m) j ≡ add K (syndrome_at f form x j) (syndrome_at f form m j) = syndrome_sum f form x m j s (a.long ∙ sym (length_scale f (neg f 1) u ∙ b.long)) a.fits (IsWord_scale f n (neg f 1) u b.long).fits in
    let o : syndrome_at f form m j ≡ 0 = syndrome_multiple f form (neg f 1) u j s (neg_inside f 1) b.fits ∙ ap (mul K (embed f K (neg f 1))) z ∙ mul_zero K (embed f K (neg f 1)) in
    e ∙ ap (add K (syndrome_at f form x j)) o ∙ add_zero K (syndrome_at f form x j) (syndrome_inside f form x j)

abbrev pub errors : FieldName → FieldName → List ℕ → List ℕ → List ℕ
errors f K x u = map (embed f K) (difference f x u)

error_sum : (C : Matrix) (form : AlternantForm) (x u : List ℕ) (j : ℕ) → IsFormOf C form → IsWord C.field C.columns x → InCode C u → j < form.r → word_dot form.locator (errors C.field form.locator x u) (check_row form.locator form.points form.multipliers j) ≡ syndrome_at C.field form x j
unfolding syndrome_at
error_sum C form x u j h a c l =
    let t = (h.words u).0 c in
    error_syndrome C.field form C.columns x u j h.form_is.subfield a t.0 (t.1 j l)

pub near_zero : (C : Matrix) (form : AlternantForm) (x u s vs : List ℕ) (t : ℕ) → IsFormOf C form → IsWord C.field C.columns x → IsWithin C x t u → 2 * t ≤ form.r → AreSyndromes C.field form x (2 * t) s → AreKeyValues form.locator t s form.points vs → IsZeroBut vs (errors C.field form.locator x u)
near_zero C form x u s vs t h a w b y k = λ i l n.
    let f = C.field in
    let K = form.locator in
    let xs = form.points in
    let z = errors f K x u in
    let g = h.form_is in
    let v = (h.words u).0 w.0 in
    let d : IsWord f C.columns (difference f x u) = IsWord_difference f C.columns x u a.long v.0.long in
    let long : length z ≡ length xs = embedded_length f K (difference f x u) ∙ d.long ∙ sym h.length_is in
    let light : weight z ≤ t = omega (arith, embedded_weight f K (difference f x u) g.subfield d.fits, w.1) in
    let (p, key, e) = k.polynomial in
    let m : i < length xs = omega (arith, l, ap length e, length-map xs (value_at K p)) in
    let value : slice_index vs i ≡ value_at K p (slice_index xs i) = ap (λ q. slice_index q i) e ∙ get_or-map (value_at K p) xs i 0 0 m in
    let sums : (j : ℕ) → j < 2 * t → slice_index s j ≡ word_dot K z (check_row K xs form.multipliers j) = λ j q. y.are j q ∙ sym (error_sum C form x u j h a w.0 (omega (arith, q, b))) in
    ⊎_elim
    (λ o. o)
    (λ o. absurd (n (value ∙ recurring_zero K xs form.multipliers z s p t g.points (distinct_from_pairs xs g.distinct) (nonzero_each K form.multipliers g.multipliers g.nonzero) g.count long (embedded_fits f K (difference f x u)) light key.at_most sums key.recurs i m o)))
    (cases_eq (slice_index z i) 0)

pub near_sums : (C : Matrix) (form : AlternantForm) (x u s : List ℕ) (t : ℕ) → IsFormOf C form → IsWord C.field C.columns x → InCode C u → 2 * t ≤ form.r → AreSyndromes C.field form x (2 * t) s → HasSums form.locator form.points form.multipliers (errors C.field form.locator x u) (take t s)
near_sums C form x u s t h a c b y = λ j l.
    let m : j < t = omega (arith, l, length-take t s) in
    error_sum C form x u j h a c (omega (arith, m, b)) ∙ sym (y.are j (omega (arith, m))) ∙ sym (get_or-take t s j 0 m)

pub sums_once : (K : FieldName) (xs ys z w s : List ℕ) → Fits K xs → AreDistinct xs → AreNonzero K ys → length ys ≡ length xs → IsWord K (length xs) z → IsWord K (length xs) w → length xs ≤ length s → HasSums K xs ys z s → HasSums K xs ys w s → z ≡ w
unfolding difference
sums_once K xs ys z w s h d m e a b l p q =
    let n = length xs in
    let c = difference K z w in
    let cw : IsWord K n c = IsWord_difference K n z w a.long b.long in
    let sums : (j : ℕ) → j < length s → word_dot K c (check_row K xs ys j) ≡ 0 = λ j k.
    let row = check_row K xs ys j in
    let dw = word_dot K w row in
    sum_dot K z (scale K (neg K 1) w) row (a.long ∙ sym (length_scale K (neg K 1) w ∙ b.long))
    ∙ ap₂ (add K) (p j k ∙ sym (q j k)) (scale_dot K (neg K 1) w row ∙ neg_one_mul K dw)
    ∙ add_neg K dw in
    let o : weight c ≡ 0 = light_word K xs ys c (length s) h d m e cw.long cw.fits sums (omega (arith, weight_at_most_length c, cw.long, l)) in
    same_from_difference K n z w a b (zero_from_weight n c cw.long o)

-- Numbers of syndromes as the code finds them.
--   sum_none, sum_more       the number of a sum, digit by digit
--   xor_sum                  in characteristic 2 it is an exclusive or
--   entry_inside, entry_of   the entry for a symbol at a coordinate
--   begun i w                the first i symbols of w, then zeros
--   begun_none, ..           its syndrome, symbol by symbol
--   number_none, ..          the number of a syndrome, check by check, the last one first
--   numbered_none, ..        the table of words with one nonzero symbol
use Rattle.std.proofs.Common.{◌≡◌, ◌≢◌, ℕ, zero, suc, ◌+◌, ◌-◌, ◌*◌, ◌/◌, ◌%◌, ◌^◌, ◌<◌, ◌≤◌, List, [], ◌∷◌, ◌++◌, length, set, drop, slice_index, slice_index_or, refl, sym, ap, ap₂, subst, ◌∙◌, arith, mod-lt, pow-suc, bit_xor, length-append, length-drop, ⊎_elim}
use Rattle.std.proofs.Math.Nat.{mod-add-div, pow-zero, pow-le-pow_left, pow-le-pow_right}
use Rattle.std.proofs.lemmas.Nat.{xor_block, div_below, div-mul-add, mod-mul-add}
use Rattle.std.proofs.lemmas.List.{get_or_append_left, get_or_at, drop_more, drop_all}
use Rattle.std.proofs.lemmas.Bool.{cases_lt}
use Rattle.lc_algebra.specs.declared.FieldName.{FieldName}
use Rattle.lc_algebra.specs.Field.{size, shape_of, add}
use Rattle.lc_algebra.specs.Residue.{digits, number}
use Rattle.lc_algebra.specs.Word.{IsWord, zero_word, word_sum, word_dot}
use Rattle.lc_algebra.specs.Matrix.{Matrix}
use Rattle.lc_algebra.proofs.FieldLaws.{zero_inside, one_inside}
use Rattle.lc_algebra.proofs.WordLaws.{word_head, word_tail, word_cons, word_symbol, index_zero_word, IsWord_zero, residues_fit}
use Rattle.lc_constructions.specs.Coset.{syndrome}
use Rattle.lc_field.proofs.SumLaws.{xor_add}
use Rattle.lc_syndrome.specs.Syndrome.{syndrome_number, coset_count, unit, sum_number, unit_at, IsNumberedTo, IsNumbered}
use Rattle.lc_algebra.proofs.ResidueLaws.{number_below}
use Rattle.lc_algebra.proofs.CommonLaws.{below_product}
use Rattle.lc_syndrome.proofs.SyndromeLaws.{syndrome_word, syndrome_below, zero_syndrome, sum_below}
use Rattle.lc_syndrome.proofs.LeadLaws.{syndrome_put}

pub sum_none : (f : FieldName) (m a b : ℕ) → m ≡ 0 → sum_number f m a b ≡ 0
unfolding sum_number digits word_sum number
sum_none f m a b e = rw e refl

sum_digits : (f : FieldName) (m a b : ℕ) → sum_number f (suc m) a b ≡ add f (a % size f) (b % size f) + size f * sum_number f m (a / size f) (b / size f)
unfolding sum_number digits word_sum number
sum_digits f m a b = refl

pub sum_more : (f : FieldName) (m a b rest : ℕ) → m ≢ 0 → rest ≡ sum_number f (m - 1) (a / size f) (b / size f) → add f (a % size f) (b % size f) + size f * rest ≡ sum_number f m a b
sum_more f m a b rest n e =
    let more : suc (m - 1) ≡ m = omega (arith, n) in
    ap (λ r. add f (a % size f) (b % size f) + size f * r) e ∙ sym (sum_digits f (m - 1) a b) ∙ ap (λ k. sum_number f k a b) more

block_of : (f : FieldName) (x y r t : ℕ) → (shape_of f).characteristic ≡ 2 → r < size f → t < size f → bit_xor (x * size f + r) (y * size f + t) ≡ bit_xor x y * size f + bit_xor r t
unfolding size
block_of f x y r t e l k = rw e (xor_block (shape_of f).degree x y r t (rw e at l) (rw e at k))

pub xor_sum : (f : FieldName) (m a b : ℕ) → (shape_of f).characteristic ≡ 2 → a < size f ^ m → b < size f ^ m → bit_xor a b ≡ sum_number f m a b
xor_sum f zero a b e l k =
    let za : a ≡ 0 = omega (arith, l, pow-zero (size f)) in
    let zb : b ≡ 0 = omega (arith, k, pow-zero (size f)) in
    rw (za, zb) (sym (sum_none f 0 0 0 refl))
xor_sum f (suc m) a b e l k =
    let q = size f in
    let p : 0 < q = zero_inside f in
    let ra : a % q < q = mod-lt a p in
    let rb : b % q < q = mod-lt b p in
    let la : a / q < q ^ m = div_below a q (q ^ m) p (omega (arith, l, pow-suc q m)) in
    let lb : b / q < q ^ m = div_below b q (q ^ m) p (omega (arith, k, pow-suc q m)) in
    let wa : (a / q) * q + a % q ≡ a = omega (arith, mod-add-div a q) in
    let wb : (b / q) * q + b % q ≡ b = omega (arith, mod-add-div b q) in
    let block : bit_xor ((a / q) * q + a % q) ((b / q) * q + b % q) ≡ bit_xor (a / q) (b / q) * q + bit_xor (a % q) (b % q) = block_of f (a / q) (b / q) (a % q) (b % q) e ra rb in
    let whole : bit_xor a b ≡ bit_xor (a / q) (b / q) * q + bit_xor (a % q) (b % q) = rw (wa, wb) at block in
    let i : bit_xor (a / q) (b / q) ≡ sum_number f m (a / q) (b / q) = xor_sum f m (a / q) (b / q) e la lb in
    let j : bit_xor (a % q) (b % q) ≡ add f (a % q) (b % q) = xor_add f (a % q) (b % q) e ra rb in
    let t : bit_xor (a / q) (b / q) * q ≡ q * sum_number f m (a / q) (b / q) = omega (arith, ap (λ x. q * x) i) in
    whole ∙ omega (arith, t, j) ∙ sym (sum_digits f m a b)

pub digits_room : (f : FieldName) (m a b q d rest : ℕ) → m ≢ 0 → q ≡ size f → rest ≡ sum_number f (m - 1) (a / q) (b / q) → d ≡ add f (a % q) (b % q) → d + q * rest < size f ^ m
digits_room f m a b q d rest n eq er ed =
    let e : d + q * rest ≡ sum_number f m a b =
    ap₂ (λ x y. x + q * y) ed er ∙ ap (λ q. add f (a % q) (b % q) + q * sum_number f (m - 1) (a / q) (b / q)) eq ∙ sum_more f m a b (sum_number f (m - 1) (a / size f) (b / size f)) n refl in
    subst (λ x. x < size f ^ m) (sym e) (sum_below f m a b)

pub power_less : (f : FieldName) (m n : ℕ) → size f ^ m ≤ n → size f ^ (m - 1) ≤ n
power_less f m n l =
    let k : m - 1 ≤ m = omega arith in
    let b : size f ^ (m - 1) ≤ size f ^ m = pow-le-pow_right (zero_inside f) k in
    omega (arith, b, l)

below_power : (m : ℕ) → m < 2 ^ m
below_power zero = omega (arith, pow-zero 2)
below_power (suc m) = omega (arith, below_power m, pow-suc 2 m)

pub few_checks : (f : FieldName) (m : ℕ) → size f ^ m ≤ 2 ^ 20 → m < 2 ^ 32
few_checks f m l =
    let a : 2 ^ m ≤ size f ^ m = pow-le-pow_left (one_inside f) m in
    omega (arith, a, l, below_power m)

pub xor_inside : (f : FieldName) (m a b : ℕ) → (shape_of f).characteristic ≡ 2 → a < size f ^ m → b < size f ^ m → bit_xor a b < size f ^ m
xor_inside f m a b e l k = subst (λ x. x < size f ^ m) (sym (xor_sum f m a b e l k)) (sum_below f m a b)

-- the table of words with one nonzero symbol

pub entry_inside : (H : Matrix) (numbers : List ℕ) (i c : ℕ) → IsNumbered H numbers → i < H.columns → c < size H.field → i * size H.field + c < length numbers
entry_inside H numbers i c k l m = omega (arith, below_product H.columns (size H.field) i c l m, k.whole.count)

pub entry_of : (H : Matrix) (numbers : List ℕ) (i c : ℕ) → IsNumbered H numbers → i < H.columns → c < size H.field → slice_index numbers (i * size H.field + c) ≡ syndrome_number H (unit H.columns i c)
entry_of H numbers i c k l m =
    let q = size H.field in
    let e : slice_index numbers (i * q + c) ≡ syndrome_number H (unit_at H (i * q + c)) = k.whole.entries (i * q + c) (below_product H.columns q i c l m) in
    let d : (i * q + c) / q ≡ i = div-mul-add i q c m in
    let r : (i * q + c) % q ≡ c = mod-mul-add i q c m in
    e ∙ ap (syndrome_number H) (ap₂ (unit H.columns) d r)

pub numbered_none : (H : Matrix) → IsNumberedTo H 0 []
numbered_none H = record { count = refl; entries = λ k l. absurd (omega (arith, l)) }

pub numbered_more : (H : Matrix) (t a : ℕ) (numbers new word : List ℕ) → IsNumberedTo H t numbers → word ≡ unit_at H t → a ≡ syndrome_number H word → new ≡ numbers ++ a ∷ [] → IsNumberedTo H (t + 1) new
numbered_more H t a numbers new word h w e n =
    record {
      count = omega (arith, ap length n, length-append numbers (a ∷ []), h.count);
      entries = λ k l. ap (λ u. slice_index u k) n ∙ ⊎_elim
          (λ (m : k < t). get_or_append_left numbers (a ∷ []) 0 k (omega (arith, m, h.count)) ∙ h.entries k m)
          (λ (m : t ≤ k).
          let same : k ≡ t = omega (arith, l, m) in
          get_or_at numbers a [] 0 k (h.count ∙ sym same) ∙ e ∙ ap (syndrome_number H) (w ∙ ap (unit_at H) (sym same)))
          (cases_lt k t);
    }

-- the syndrome of a word, symbol by symbol

unfoldable pub begun : ℕ → List ℕ → List ℕ
begun zero w = zero_word (length w)
begun (suc i) [] = []
begun (suc i) (a ∷ w) = a ∷ begun i w

begun_word : (f : FieldName) (n i : ℕ) (w : List ℕ) → IsWord f n w → IsWord f n (begun i w)
unfolding begun
begun_word f n zero w h = subst (λ k. IsWord f k (zero_word (length w))) h.long (IsWord_zero f (length w))
begun_word f n (suc i) [] h = h
begun_word f zero (suc i) (a ∷ w) h = absurd (omega (arith, h.long))
begun_word f (suc n) (suc i) (a ∷ w) h = word_cons f n a (begun i w) (word_head f (suc n) a w h) (begun_word f n i w (word_tail f n a w h))

begun_symbol : (i : ℕ) (w : List ℕ) → slice_index (begun i w) i ≡ 0
unfolding begun
begun_symbol zero w = index_zero_word (length w) 0
begun_symbol (suc i) [] = refl
begun_symbol (suc i) (a ∷ w) = begun_symbol i w

begun_next : (i : ℕ) (w : List ℕ) → i < length w → set (begun i w) i (slice_index w i) ≡ begun (suc i) w
unfolding begun
begun_next i [] l = absurd (omega (arith, l))
begun_next zero (a ∷ w) l = refl
begun_next (suc i) (a ∷ w) l = ap (λ u. a ∷ u) (begun_next i w (omega (arith, l)))

begun_all : (w : List ℕ) → begun (length w) w ≡ w
unfolding begun
begun_all [] = refl
begun_all (a ∷ w) = ap (λ u. a ∷ u) (begun_all w)

pub begun_none : (H : Matrix) (w : List ℕ) → 0 ≡ syndrome_number H (begun 0 w)
unfolding begun
begun_none H w = sym (zero_syndrome H (length w))

pub begun_more : (H : Matrix) (i a b : ℕ) (w : List ℕ) → IsWord H.field H.columns w → i < length w → a ≡ syndrome_number H (begun i w) → b ≡ syndrome_number H (unit H.columns i (slice_index w i)) → sum_number H.field (length H.rows) a b ≡ syndrome_number H (begun (i + 1) w)
begun_more H i a b w h l ea eb =
    let f = H.field in
    let n = H.columns in
    let s : syndrome_number H (set (begun i w) i (slice_index w i)) ≡ sum_number f (length H.rows) (syndrome_number H (begun i w)) (syndrome_number H (unit n i (slice_index w i))) =
    syndrome_put H i (slice_index w i) (begun i w) (begun_word f n i w h) (omega (arith, l, h.long)) (word_symbol f n w h i) (begun_symbol i w) in
    let more : suc i ≡ i + 1 = omega arith in
    ap₂ (sum_number f (length H.rows)) ea eb ∙ sym s ∙ ap (syndrome_number H) (begun_next i w l ∙ ap (λ k. begun k w) more)

pub begun_whole : (H : Matrix) (i a : ℕ) (w : List ℕ) → length w ≤ i → i ≤ length w → a ≡ syndrome_number H (begun i w) → a ≡ syndrome_number H w
begun_whole H i a w l m e =
    let k : i ≡ length w = omega (arith, l, m) in
    e ∙ ap (syndrome_number H) (ap (λ j. begun j w) k ∙ begun_all w)

-- the number of a syndrome, check by check

abbrev pub number_from : Matrix → ℕ → List ℕ → ℕ
number_from H j x = number (size H.field) (syndrome H.field (drop j H.rows) x)

pub number_none : (H : Matrix) (m t : ℕ) (x : List ℕ) → m ≡ length H.rows → t ≡ 0 → 0 ≡ number_from H (m - t) x
unfolding number syndrome
number_none H m t x e z =
    let k : length H.rows ≤ m - t = omega (arith, e, z) in
    rw (drop_all (m - t) H.rows k) refl

number_step : (H : Matrix) (j : ℕ) (x : List ℕ) → j < length H.rows → word_dot H.field (slice_index_or H.rows j []) x + size H.field * number_from H (j + 1) x ≡ number_from H j x
unfolding number syndrome
number_step H j x l = rw (drop_more H.rows j [] l) refl

pub number_more : (H : Matrix) (m t a d : ℕ) (x : List ℕ) → m ≡ length H.rows → t < m → a ≡ number_from H (m - t) x → d ≡ word_dot H.field (slice_index_or H.rows (m - 1 - t) []) x → d + size H.field * a ≡ number_from H (m - (t + 1)) x
number_more H m t a d x e l ea ed =
    let j = m - 1 - t in
    let up : j + 1 ≡ m - t = omega (arith, l) in
    let down : j ≡ m - (t + 1) = omega (arith, l) in
    ap₂ (λ d a. d + size H.field * a) ed (ea ∙ ap (λ k. number_from H k x) (sym up)) ∙ number_step H j x (omega (arith, l, e)) ∙ ap (λ k. number_from H k x) down

pub number_small : (H : Matrix) (j : ℕ) (x : List ℕ) → number_from H j x < coset_count H
number_small H j x =
    let a : number_from H j x < size H.field ^ length (syndrome H.field (drop j H.rows) x) = number_below (size H.field) (syndrome H.field (drop j H.rows) x) (residues_fit H.field (syndrome H.field (drop j H.rows) x) (syndrome_word H.field (drop j H.rows) x).fits) in
    let k : length (syndrome H.field (drop j H.rows) x) ≤ length H.rows = omega (arith, (syndrome_word H.field (drop j H.rows) x).long, length-drop j H.rows) in
    let b : size H.field ^ length (syndrome H.field (drop j H.rows) x) ≤ size H.field ^ length H.rows = pow-le-pow_right (zero_inside H.field) k in
    omega (arith, a, b)

pub number_room : (H : Matrix) (f : FieldName) (m t a d q : ℕ) (x : List ℕ) → m ≡ length H.rows → t < m → a ≡ number_from H (m - t) x → f ≡ H.field → q ≡ size f → d ≡ word_dot f (slice_index_or H.rows (m - 1 - t) []) x → d + q * a < coset_count H
number_room H f m t a d q x e l ea ef eq ed =
    let ex : d ≡ word_dot H.field (slice_index_or H.rows (m - 1 - t) []) x = ed ∙ ap (λ g. word_dot g (slice_index_or H.rows (m - 1 - t) []) x) ef in
    let same : d + q * a ≡ number_from H (m - (t + 1)) x = ap (λ q. d + q * a) (eq ∙ ap size ef) ∙ number_more H m t a d x e l ea ex in
    subst (λ n. n < coset_count H) (sym same) (number_small H (m - (t + 1)) x)

pub number_whole : (H : Matrix) (m t a : ℕ) (x : List ℕ) → m ≤ t → a ≡ number_from H (m - t) x → a ≡ syndrome_number H x
unfolding syndrome_number
number_whole H m t a x l e =
    let k : m - t ≡ 0 = omega (arith, l) in
    e ∙ ap (λ j. number_from H j x) k

pub ruleset of_symbol_laws = (entry_inside, entry_of, syndrome_below)

pub ruleset sum_laws = (xor_sum, xor_inside, sum_below)

pub ruleset of_laws = (begun_none, begun_more, begun_whole, syndrome_below)

pub ruleset digit_sum_laws = (sum_none, sum_more, sum_below)

pub ruleset unit_numbers_laws = (numbered_none, numbered_more)

pub ruleset number_of_laws = (number_none, number_more, number_whole)

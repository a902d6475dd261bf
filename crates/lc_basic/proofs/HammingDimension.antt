-- The dimension of a Hamming code. The check matrix, with its rows from the last to the first, is reduced: its rank is its number
-- of rows, and the code is its kernel.
--   turned_checks q r          row m holds the digits that count q^m, of all columns of at most r digits
--   digits_prefix, digits_at   the digits of the columns before a block, and of its first column
--   power_there, power_elsewhere       the digits of a power
--   turned_row, turned_words, turned_places, turned_same      the rows are words, reduced, and those of the check matrix
--   hamming_dimension          the dimension is the length less the number of checks
use Rattle.std.proofs.Common.{◌≡◌, ◌≢◌, ℕ, zero, suc, ◌+◌, ◌-◌, ◌*◌, ◌/◌, ◌%◌, ◌^◌, ◌<◌, ◌≤◌, List, [], map, length, slice_index, slice_index_or, Contains, sym, ap, subst, ◌∙◌, ⊎_elim, arith, add-zero}
use Rattle.std.proofs.Math.Nat.{one-le-pow, pow-le-pow_right, mod-eq_of_lt, mul-div_cancel_left, mul-mod_right, mul-le-mul_right, div_self}
use Rattle.std.proofs.lemmas.Nat.{div_below, pow-add}
use Rattle.std.proofs.lemmas.List.{length-map, get_or-map, get_or_append_left, get_or-append_right, get_or-replicate}
use Rattle.std.proofs.lemmas.List.Elements.{All-map}
use Rattle.std.proofs.lemmas.Bool.{cases_lt}
use Rattle.lc_algebra.specs.declared.FieldName.{FieldName}
use Rattle.lc_algebra.specs.Field.{size}
use Rattle.lc_algebra.specs.Word.{IsWord}
use Rattle.lc_algebra.specs.Span.{below, SameSpan}
use Rattle.lc_algebra.specs.Matrix.{Matrix, AreRows, HasPivots, IsEchelon, entry}
use Rattle.lc_algebra.proofs.FieldLaws.{one_inside}
use Rattle.lc_algebra.proofs.SpanLaws.{length_below, contains_below, below_contains, map_contains, contains_map, span_same_members, index_below}
use Rattle.lc_constructions.specs.Code.{IsCode, CheckedBy}
use Rattle.lc_constructions.specs.Basic.{hamming_columns, hamming_checks, hamming_length}
use Rattle.lc_matrix.proofs.RankLaws.{rank_of_kernel}
use Rattle.lc_basic.specs.Column.{points, digits_from, digits_of}
use Rattle.lc_basic.proofs.ColumnLaws.{points_more, length_points, power_step, length_digits, digits_zero, digit_columns, digits_word, checks_rows}

turned_checks : ℕ → ℕ → List (List ℕ)
turned_checks q r = map (λ m. digits_of q (q ^ m) r) (below r)

points_step : (q r : ℕ) → 1 < q → points q r < points q (suc r)
unfolding points
points_step q r l = omega (arith, one-le-pow r q (omega (arith, l)))

points_rise : (q i r : ℕ) → 1 < q → i < r → points q i < points q r
points_rise q i r l k = omega (arith, points_step q i l, points_more q (suc i) r (omega (arith, k)))

digits_prefix : (q unit i r c : ℕ) → i ≤ r → c < points q i → slice_index (digits_of q unit r) c ≡ slice_index (digits_of q unit i) c
unfolding digits_of
digits_prefix q unit i zero c l h = let e : zero ≡ i = omega (arith, l) in ap (λ k. slice_index (digits_of q unit k) c) e
digits_prefix q unit i (suc r) c l h =
    ⊎_elim
    (λ m.
    let k : i ≤ r = omega (arith, m) in
    get_or_append_left (digits_of q unit r) (digits_from q unit (q ^ r) (q ^ r)) 0 c (omega (arith, h, points_more q i r k, length_digits q unit r)) ∙ digits_prefix q unit i r c k h)
    (λ m. let e : suc r ≡ i = omega (arith, l, m) in ap (λ k. slice_index (digits_of q unit k) c) e)
    (cases_lt i (suc r))

block_first : (q unit i : ℕ) → 1 < q → slice_index (digits_from q unit (q ^ i) (q ^ i)) 0 ≡ q ^ i / unit % q
unfolding digits_from
block_first q unit i l =
    let k : 0 < q ^ i = one-le-pow i q (omega (arith, l)) in
    get_or-map (λ v. (q ^ i + v) / unit % q) (below (q ^ i)) 0 0 0 (omega (arith, k, length_below (q ^ i))) ∙ ap (λ v. (q ^ i + v) / unit % q) (index_below (q ^ i) 0 0 k) ∙ ap (λ v. v / unit % q) (add-zero (q ^ i))

digits_at : (q unit i r : ℕ) → 1 < q → i < r → slice_index (digits_of q unit r) (points q i) ≡ q ^ i / unit % q
unfolding digits_of
digits_at q unit i r l k =
    let zero_left : points q i - points q i ≡ 0 = omega arith in
    digits_prefix q unit (suc i) r (points q i) k (points_step q i l) ∙ get_or-append_right (digits_of q unit i) (digits_from q unit (q ^ i) (q ^ i)) (points q i) (points q i) 0 (length_digits q unit i) (omega arith) ∙ ap (slice_index (digits_from q unit (q ^ i) (q ^ i))) zero_left ∙ block_first q unit i l

power_there : (q i : ℕ) → 1 < q → q ^ i / q ^ i % q ≡ 1
power_there q i l = ap (λ k. k % q) (div_self (one-le-pow i q (omega (arith, l)))) ∙ mod-eq_of_lt l

power_elsewhere : (q i j : ℕ) → 1 < q → i ≢ j → q ^ i / q ^ j % q ≡ 0
power_elsewhere q i j l o =
    let z : 0 < q = omega (arith, l) in
    ⊎_elim
    (λ k.
    let a : q ^ suc i ≤ q ^ j = pow-le-pow_right z k in
    let p : 1 ≤ q ^ i = one-le-pow i q z in
    let b : q ^ i < q ^ j = omega (arith, a, p, power_step q i, l, mul-le-mul_right (q ^ i) l) in
    let c : q ^ i / q ^ j < 1 = div_below (q ^ i) (q ^ j) 1 (one-le-pow j q z) (omega (arith, b)) in
    let d : q ^ i / q ^ j ≡ 0 = omega (arith, c) in
    ap (λ k. k % q) d ∙ mod-eq_of_lt z)
    (λ k.
    let d = i - suc j in
    let t : i ≡ j + suc d = ⊎_elim (λ m. omega (arith, m)) (λ m. absurd (o (omega (arith, k, m)))) (cases_lt j i) in
    let p : q ^ i ≡ q ^ j * (q * q ^ d) = ap (λ k. q ^ k) t ∙ pow-add q j (suc d) ∙ ap (λ k. q ^ j * k) (power_step q d) in
    ap (λ k. k / q ^ j % q) p ∙ ap (λ k. k % q) (mul-div_cancel_left (q * q ^ d) (one-le-pow j q z)) ∙ mul-mod_right q (q ^ d))
    (cases_lt i j)

length_turned : (q r : ℕ) → length (turned_checks q r) ≡ r
unfolding turned_checks
length_turned q r = length-map (below r) (λ m. digits_of q (q ^ m) r) ∙ length_below r

turned_row : (q r i : ℕ) → i < r → slice_index_or (turned_checks q r) i [] ≡ digits_of q (q ^ i) r
unfolding turned_checks
turned_row q r i l =
    get_or-map (λ m. digits_of q (q ^ m) r) (below r) i 0 [] (omega (arith, l, length_below r)) ∙ ap (λ m. digits_of q (q ^ m) r) (index_below r i 0 l)

length_places : (q r : ℕ) → length (map (points q) (below r)) ≡ r
length_places q r = length-map (below r) (points q) ∙ length_below r

place_of : (q r i : ℕ) → i < r → slice_index (map (points q) (below r)) i ≡ points q i
place_of q r i l = get_or-map (points q) (below r) i 0 0 (omega (arith, l, length_below r)) ∙ ap (points q) (index_below r i 0 l)

turned_entry : (q r i j : ℕ) → 1 < q → i < r → j < r → entry (turned_checks q r) i (slice_index (map (points q) (below r)) j) ≡ q ^ j / q ^ i % q
turned_entry q r i j l m k =
    ap (λ c. entry (turned_checks q r) i c) (place_of q r j k) ∙ ap (λ w. slice_index w (points q j)) (turned_row q r i m) ∙ digits_at q (q ^ i) j r l k

turned_places : (q r : ℕ) → 1 < q → HasPivots (points q r) (map (points q) (below r)) (turned_checks q r)
turned_places q r l =
    let rows : length (turned_checks q r) ≡ r = length_turned q r in
    let places : length (map (points q) (below r)) ≡ r = length_places q r in
    record {
      count = places ∙ sym rows;
      inside = λ i h.
          let k : i < r = omega (arith, h, places) in
          omega (arith, place_of q r i k, points_rise q i r l k);
      rises = λ i j h k.
          let m : j < r = omega (arith, k, places) in
          let n : i < r = omega (arith, h, m) in
          omega (arith, place_of q r i n, place_of q r j m, points_rise q i j l h);
      before = λ i c h k.
          let m : i < r = omega (arith, h, rows) in
          let b : c < points q i = omega (arith, k, place_of q r i m) in
          let n : i ≤ r = omega (arith, m) in
          let e : i ≤ i = omega arith in
          ap (λ w. slice_index w c) (turned_row q r i m) ∙ digits_prefix q (q ^ i) i r c n b ∙ ap (λ w. slice_index w c) (digits_zero q i i l e) ∙ get_or-replicate (points q i) c 0 0 b;
      leads = λ i h. let m : i < r = omega (arith, h, rows) in turned_entry q r i i l m m ∙ power_there q i l;
      clears = λ i j h k o.
          let m : i < r = omega (arith, h, rows) in
          let n : j < r = omega (arith, k, rows) in
          turned_entry q r j i l n m ∙ power_elsewhere q i j l o;
    }

turned_words : (f : FieldName) (r : ℕ) → AreRows f (points (size f) r) (turned_checks (size f) r)
unfolding turned_checks
turned_words f r = All-map (IsWord f (points (size f) r)) (λ m. digits_of (size f) (size f ^ m) r) (below r) (λ k d l. digits_word f (size f ^ slice_index_or (below r) k d) r)

turned_same : (f : FieldName) (r : ℕ) → AreRows f (points (size f) r) (hamming_checks (size f) r) → SameSpan f (points (size f) r) (hamming_checks (size f) r) (turned_checks (size f) r)
unfolding turned_checks hamming_checks
turned_same f r h =
    let q = size f in
    let l : 1 < q = one_inside f in
    let row : ℕ → List ℕ = λ i. map (λ u. slice_index u i) (hamming_columns q r) in
    let digits : ℕ → List ℕ = λ m. digits_of q (q ^ m) r in
    span_same_members f (points q r) (map row (below r)) (map digits (below r)) h (turned_words f r) (λ g. (
      (λ c.
          let t = contains_map row (below r) g c in
          let k : t.0 < r = contains_below r t.0 t.1 in
          let e = r - suc t.0 in
          let s : suc (t.0 + e) ≡ r = omega (arith, k) in
          let m : e < r = omega (arith, s) in
          subst (Contains (map digits (below r))) (sym (t.2 ∙ digit_columns q r t.0 e l s)) (map_contains digits (below r) e (below_contains r e m))),
      (λ c.
          let t = contains_map digits (below r) g c in
          let k : t.0 < r = contains_below r t.0 t.1 in
          let i = r - suc t.0 in
          let s : suc (i + t.0) ≡ r = omega (arith, k) in
          let m : i < r = omega (arith, s) in
          subst (Contains (map row (below r))) (digit_columns q r i t.0 l s ∙ sym t.2) (map_contains row (below r) i (below_contains r i m))),
    ))

turned_echelon : (f : FieldName) (r : ℕ) → AreRows f (points (size f) r) (hamming_checks (size f) r) → IsEchelon f (points (size f) r) (hamming_checks (size f) r) (turned_checks (size f) r)
turned_echelon f r h = record {
  same = turned_same f r h;
  reduced = record { pivots = (map (points (size f)) (below r), turned_places (size f) r (one_inside f)) };
  words = turned_words f r;
}

pub hamming_dimension : (f : FieldName) (r : ℕ) (C : Matrix) → IsCode f (hamming_length (size f) r) (CheckedBy f (hamming_checks (size f) r)) C → length C.rows + r ≡ hamming_length (size f) r
hamming_dimension f r C c =
    let q = size f in
    let n : hamming_length q r ≡ points q r = length_points q r (one_inside f) in
    let h : AreRows f (points q r) (hamming_checks q r) = subst (λ k. AreRows f k (hamming_checks q r)) n (checks_rows f r) in
    let d : IsCode f (points q r) (CheckedBy f (hamming_checks q r)) C = subst (λ k. IsCode f k (CheckedBy f (hamming_checks q r)) C) n c in
    omega (arith, rank_of_kernel f (points q r) (hamming_checks q r) (turned_checks q r) C.rows h (turned_echelon f r h) d.generator, length_turned q r, n)

-- Counting as far as the greatest number of 64 bits.
--   capped_product             a capped product of capped numbers is that of the numbers
--   choose_one, choose_none_more, choose_next      the entries of a row of numbers of sets, from the row before
--   power_none, power_next     the powers of q - 1
--   through_none, through_next the numbers of messages of the levels, level by level
--   sum_whole, sum_step        the sum over the sets, set by set
use Rattle.std.proofs.Common.{◌≡◌, ℕ, zero, suc, ◌+◌, ◌-◌, ◌*◌, ◌^◌, ◌<◌, ◌≤◌, min, List, [], ◌∷◌, ◌++◌, map, sum, length, drop, slice_index_or, refl, sym, ap, ◌∙◌, inl, inr, arith}
use Rattle.std.proofs.Math.Nat.{pow-suc, pow-zero, le-mul_of_pos_right}
use Rattle.std.proofs.Math.Seq.{drop-cons}
use Rattle.std.proofs.lemmas.Bool.{cases_lt}
use Rattle.std.proofs.lemmas.List.{map-append}
use Rattle.std.proofs.lemmas.List.Sums.{sum_by-cons, sum_by_push}
use Rattle.lc_enumeration.specs.Message.{choose, message_count, numbers_from}
use Rattle.lc_place.proofs.Counting.{choose_more, product_over}
use Rattle.lc_formats.specs.Certificate.{messages_through}
use Rattle.lc_checker.specs.Cost.{capped, choose_entry, through_entry}

product_turned : (a b s : ℕ) → s ≤ b → 1 ≤ a → s ≤ a * b
product_turned a b s l m = omega (arith, le-mul_of_pos_right {m = a} b m)

pub capped_product : (a b : ℕ) → min (min a (2 ^ 64 - 1) * min b (2 ^ 64 - 1)) (2 ^ 64 - 1) ≡ min (a * b) (2 ^ 64 - 1)
capped_product a zero =
    let e : min zero (2 ^ 64 - 1) ≡ 0 = omega arith in
    rw e (omega arith)
capped_product zero (suc b) =
    let e : min zero (2 ^ 64 - 1) ≡ 0 = omega arith in
    rw e (omega arith)
capped_product (suc a) (suc b) =
    elim (cases_lt (suc a) (2 ^ 64 - 1)) [
      | inl l ↦ (
          let e : min (suc a) (2 ^ 64 - 1) ≡ suc a = omega (arith, l) in
          elim (cases_lt (suc b) (2 ^ 64 - 1)) [
            | inl m ↦ (let f : min (suc b) (2 ^ 64 - 1) ≡ suc b = omega (arith, m) in rw (e, f) refl)
            | inr m ↦ (let f : min (suc b) (2 ^ 64 - 1) ≡ 2 ^ 64 - 1 = omega (arith, m) in rw (e, f) (omega (arith, product_turned (suc a) (suc b) (2 ^ 64 - 1) m (omega arith), product_turned (suc a) (2 ^ 64 - 1) (2 ^ 64 - 1) (omega arith) (omega arith))))
          ])
      | inr l ↦ (
          let e : min (suc a) (2 ^ 64 - 1) ≡ 2 ^ 64 - 1 = omega (arith, l) in
          rw e (omega (arith, product_over (suc a) (suc b) (2 ^ 64 - 1) l (omega arith), product_over (2 ^ 64 - 1) (min (suc b) (2 ^ 64 - 1)) (2 ^ 64 - 1) (omega arith) (omega arith))))
    ]

-- ---- numbers of sets

pub choose_one : (n : ℕ) → 1 ≡ choose_entry n 0
unfolding choose
choose_one n = omega arith

pub choose_none_more : (j : ℕ) → 0 < j → 0 ≡ choose_entry 0 j
unfolding choose
choose_none_more zero l = absurd (omega (arith, l))
choose_none_more (suc j) l = omega arith

pub choose_next : (n j a b : ℕ) → 0 < j → a ≡ choose_entry n (j - 1) → b ≡ choose_entry n j → min (a + b) (2 ^ 64 - 1) ≡ choose_entry (n + 1) j
choose_next n j a b l e f =
    let one : n + 1 - 1 ≡ n = omega arith in
    let more = choose_more (n + 1) j (omega arith) l in
    omega (arith, e, f, more, ap (λ m. choose m (j - 1)) one, ap (λ m. choose m j) one)

-- ---- powers and levels

pub power_none : (q : ℕ) → 1 ≡ capped ((q - 1) ^ 0)
power_none q = omega (arith, pow-zero (q - 1))

pub power_next : (q e a : ℕ) → q ≤ 256 → a ≡ capped ((q - 1) ^ e) → min (a * (q - 1)) (2 ^ 64 - 1) ≡ capped ((q - 1) ^ (e + 1))
power_next q e a l c =
    let small : min (q - 1) (2 ^ 64 - 1) ≡ q - 1 = omega (arith, l) in
    let both : min (min ((q - 1) ^ e) (2 ^ 64 - 1) * (q - 1)) (2 ^ 64 - 1) ≡ min ((q - 1) ^ e * (q - 1)) (2 ^ 64 - 1) = rw small at (capped_product ((q - 1) ^ e) (q - 1)) in
    let up : e + 1 ≡ suc e = omega arith in
    rw (c, up) (both ∙ ap (λ x. min x (2 ^ 64 - 1)) (sym (pow-suc (q - 1) e)))

pub numbers_last : (i n : ℕ) → numbers_from i (suc n) ≡ numbers_from i n ++ (i + n) ∷ []
unfolding numbers_from
numbers_last i zero = let e : i ≡ i + 0 = omega arith in ap (λ m. m ∷ []) e
numbers_last i (suc n) = let e : suc i + n ≡ i + suc n = omega arith in ap (λ ms. i ∷ ms) (numbers_last (suc i) n ∙ ap (λ m. numbers_from (suc i) n ++ m ∷ []) e)

sum_last : (xs : List ℕ) (x : ℕ) → sum (xs ++ x ∷ []) ≡ sum xs + x
sum_last xs x = sum_by_push (λ x. x) xs x

pub through_none : (k q : ℕ) → 0 ≡ through_entry k q 0
unfolding messages_through numbers_from
through_none k q = omega arith

through_more : (k q w : ℕ) → messages_through k q (suc w) ≡ messages_through k q w + choose k (suc w) * (q - 1) ^ w
unfolding messages_through message_count
through_more k q w =
    let count = λ (v : ℕ). choose k v * (q - 1) ^ (v - 1) in
    let same : 1 + w ≡ suc w = omega arith in
    let less : suc w - 1 ≡ w = omega arith in
    ap (λ ns. sum (map count ns)) (numbers_last 1 w)
    ∙ ap sum (map-append count (numbers_from 1 w) ((1 + w) ∷ []))
    ∙ sum_last (map count (numbers_from 1 w)) (count (1 + w))
    ∙ ap (λ x. sum (map count (numbers_from 1 w)) + x) (ap count same ∙ ap (λ v. choose k (suc w) * (q - 1) ^ v) less)

pub through_next : (k q w t c p : ℕ) → 0 < w → t ≡ through_entry k q (w - 1) → c ≡ choose_entry k w → p ≡ capped ((q - 1) ^ (w - 1)) → min (t + min (c * p) (2 ^ 64 - 1)) (2 ^ 64 - 1) ≡ through_entry k q w
through_next k q zero t c p l e f g = absurd (omega (arith, l))
through_next k q (suc w) t c p l e f g =
    let less : suc w - 1 ≡ w = omega arith in
    let e' : t ≡ through_entry k q w = e ∙ ap (through_entry k q) less in
    let g' : p ≡ capped ((q - 1) ^ w) = g ∙ ap (λ v. capped ((q - 1) ^ v)) less in
    let product : min (c * p) (2 ^ 64 - 1) ≡ min (choose k (suc w) * (q - 1) ^ w) (2 ^ 64 - 1) = rw (f, g') (capped_product (choose k (suc w)) ((q - 1) ^ w)) in
    omega (arith, e', product, through_more k q w)

-- ---- the sum over the sets

pub sum_step : {X : Type 0} (g : X → ℕ) (xs : List X) (i t v whole : ℕ) (d : X) → i < length xs → v ≡ capped (g (slice_index_or xs i d)) → capped (t + sum (map g (drop i xs))) ≡ whole → capped (min (t + v) (2 ^ 64 - 1) + sum (map g (drop (i + 1) xs))) ≡ whole
sum_step g xs i t v whole d l e h =
    let next : suc i ≡ i + 1 = omega arith in
    let parts : sum (map g (drop i xs)) ≡ g (slice_index_or xs i d) + sum (map g (drop (i + 1) xs)) = ap (λ ys. sum (map g ys)) (drop-cons xs i d l) ∙ sum_by-cons (λ x. x) (g (slice_index_or xs i d)) (map g (drop (suc i) xs)) ∙ ap (λ m. g (slice_index_or xs i d) + sum (map g (drop m xs))) next in
    omega (arith, e, h, parts)

pub sum_whole : {X : Type 0} (g : X → ℕ) (xs : List X) (i t whole : ℕ) → t < 2 ^ 64 → length xs ≤ i → capped (t + sum (map g (drop i xs))) ≡ whole → t ≡ whole
sum_whole g xs i t whole few l h = omega (arith, few, h, ap (λ ys. sum (map g ys)) (past xs i l))
  where
    past : {X : Type 0} (xs : List X) (i : ℕ) → length xs ≤ i → drop i xs ≡ []
    past [] zero l = refl
    past [] (suc i) l = refl
    past (x ∷ xs) zero l = absurd (omega (arith, l))
    past (x ∷ xs) (suc i) l = past xs i (omega (arith, l))

-- Counting as far as a bound, and the blocks of the levels.
--   choose_more                how the number of sets grows by one element
--   capped_sum, capped_product      a capped sum or product of capped numbers is that of the numbers
--   table_more                 a table with one more entry
--   choose_sum, power_next, count_is, start_next      the entries of the tables, from those before
--   led_is                     the number of messages that begin at place 0
--   blocks_in_level            the blocks before a phase, from those before its level
--   blocks_of_level            the blocks before the next level
use Rattle.std.proofs.Common.{◌≡◌, ℕ, zero, suc, ◌+◌, ◌-◌, ◌*◌, ◌/◌, ◌%◌, ◌^◌, ◌<◌, ◌≤◌, ◌≢◌, min, List, [], ◌∷◌, ◌++◌, refl, ap, sym, ◌∙◌, arith, inl, inr}
use Rattle.std.proofs.Math.Nat.{pow-suc, le-mul_of_pos_right}
use Rattle.std.proofs.lemmas.Bool.{cases_lt}
use Rattle.std.proofs.lemmas.List.{get_or_append_left, get_or_at, length_push}
use Rattle.std.proofs.lemmas.Nat.{div-mul-add}
use Rattle.lc_enumeration.specs.Message.{choose, message_count}
use Rattle.lc_enumeration.specs.Plan.{cut, blocks_before, level_blocks, phase_level}
use Rattle.lc_enumeration.proofs.PlanLaws.{cut_is}
use Rattle.lc_enumeration.proofs.ChooseLaws.{choose_next, choose_nothing}
use Rattle.lc_place.specs.Tables.{IsTable, choose_entry, power_entry, count_entry, start_entry}

pub choose_more : (n j : ℕ) → 0 < n → 0 < j → choose n j ≡ choose (n - 1) (j - 1) + choose (n - 1) j
choose_more zero j l m = absurd (omega arith)
choose_more (suc n) zero l m = absurd (omega arith)
choose_more (suc n) (suc j) l m = let e : suc n - 1 ≡ n = omega arith in let f : suc j - 1 ≡ j = omega arith in rw (e, f) (choose_next n j)

pub capped_sum : (a b : ℕ) → min (min a (2 ^ 53) + min b (2 ^ 53)) (2 ^ 53) ≡ min (a + b) (2 ^ 53)
capped_sum a b = omega arith

-- a product of two numbers of which one is at least the bound
pub product_over : (a b s : ℕ) → s ≤ a → 1 ≤ b → s ≤ a * b
product_over a b s l m = omega (arith, le-mul_of_pos_right {m = b} a m)

pub capped_product : (a b : ℕ) → min (min (min a (2 ^ 53) * min b (2 ^ 53)) (2 ^ 64 - 1)) (2 ^ 53) ≡ min (a * b) (2 ^ 53)
capped_product a zero =
    let e : min zero (2 ^ 53) ≡ 0 = omega arith in
    rw e (omega arith)
capped_product zero (suc b) =
    let e : min zero (2 ^ 53) ≡ 0 = omega arith in
    rw e (omega arith)
capped_product (suc a) (suc b) =
    elim (cases_lt (suc a) (2 ^ 53)) [
      | inl l ↦ (
          let e : min (suc a) (2 ^ 53) ≡ suc a = omega arith in
          elim (cases_lt (suc b) (2 ^ 53)) [
            | inl m ↦ (let f : min (suc b) (2 ^ 53) ≡ suc b = omega arith in rw (e, f) (capped_twice (suc a * suc b)))
            | inr m ↦ (let f : min (suc b) (2 ^ 53) ≡ 2 ^ 53 = omega arith in rw (e, f) (omega (arith, product_over' (suc a) (suc b) (2 ^ 53) m (omega arith), product_over' (suc a) (2 ^ 53) (2 ^ 53) (omega arith) (omega arith))))
          ])
      | inr l ↦ (
          let e : min (suc a) (2 ^ 53) ≡ 2 ^ 53 = omega arith in
          rw e (omega (arith, product_over (suc a) (suc b) (2 ^ 53) l (omega arith), product_over (2 ^ 53) (min (suc b) (2 ^ 53)) (2 ^ 53) (omega arith) (omega arith))))
    ]
  where
    capped_twice : (c : ℕ) → min (min c (2 ^ 64 - 1)) (2 ^ 53) ≡ min c (2 ^ 53)
    capped_twice c = omega arith

    product_over' : (a b s : ℕ) → s ≤ b → 1 ≤ a → s ≤ a * b
    product_over' a b s l m = omega (arith, le-mul_of_pos_right {m = a} b m)

pub blocks_in_level : (k q m e j : ℕ) → j ≤ m → blocks_before k q m (e * m + j) ≡ blocks_before k q m (e * m) + j * level_blocks k q (e + 1)
unfolding blocks_before phase_level
blocks_in_level k q m e zero l = let f : e * m + 0 ≡ e * m = omega arith in rw f (omega arith)
blocks_in_level k q m e (suc j) l =
    let f : e * m + suc j ≡ suc (e * m + j) = omega arith in
    let g : (e * m + j) / m ≡ e = div-mul-add e m j (omega arith) in
    rw f (rw g (omega (arith, blocks_in_level k q m e j (omega arith))))

pub blocks_of_level : (k q m e : ℕ) → blocks_before k q m ((e + 1) * m) ≡ blocks_before k q m (e * m) + m * level_blocks k q (e + 1)
blocks_of_level k q m e =
    let f : (e + 1) * m ≡ e * m + m = omega arith in
    rw f (blocks_in_level k q m e m (omega arith))

pub table_more : (f : ℕ → ℕ) (n : ℕ) (t u : List ℕ) (v : ℕ) → IsTable f n t → u ≡ t ++ v ∷ [] → v ≡ f n → IsTable f (n + 1) u
table_more f n t u v h e i = rw e (record {
  many = length_push t v ∙ ap (λ a. a + 1) h.many;
  entry = λ a l. elim (cases_lt a n) [
    | inl m ↦ get_or_append_left t (v ∷ []) 0 a (omega (arith, h.many)) ∙ h.entry a m
    | inr m ↦ (let at : a ≡ n = omega (arith, l, m) in rw at (get_or_at t v [] 0 n h.many ∙ i))
  ];
})

choose_row : (j : ℕ) → 0 < j → choose 0 j ≡ 0
unfolding choose
choose_row zero l = absurd (omega arith)
choose_row (suc j) l = refl

pub choose_left : (i : ℕ) → i % 256 ≡ 0 → 1 ≡ choose_entry i
choose_left i e = sym (ap (λ a. min (choose (i / 256) a) (2 ^ 53)) e ∙ ap (λ a. min a (2 ^ 53)) (choose_nothing (i / 256)))

pub choose_top : (i : ℕ) → i % 256 ≢ 0 → i < 256 → 0 ≡ choose_entry i
choose_top i e l =
    let row : i / 256 ≡ 0 = omega arith in
    sym (ap (λ a. min (choose a (i % 256)) (2 ^ 53)) row ∙ ap (λ a. min a (2 ^ 53)) (choose_row (i % 256) (omega arith)))

pub choose_sum : (i a b : ℕ) → i % 256 ≢ 0 → 256 ≤ i → a ≡ choose_entry (i - 257) → b ≡ choose_entry (i - 256) → min (a + b) 9007199254740992 ≡ choose_entry i
choose_sum i a b e l c d =
    let r : (i - 257) / 256 ≡ i / 256 - 1 = omega arith in
    let s : (i - 257) % 256 ≡ i % 256 - 1 = omega arith in
    let t : (i - 256) / 256 ≡ i / 256 - 1 = omega arith in
    let u : (i - 256) % 256 ≡ i % 256 = omega arith in
    let c' : a ≡ min (choose (i / 256 - 1) (i % 256 - 1)) (2 ^ 53) = rw (r, s) at c in
    let d' : b ≡ min (choose (i / 256 - 1) (i % 256)) (2 ^ 53) = rw (t, u) at d in
    rw (c', d') (capped_sum (choose (i / 256 - 1) (i % 256 - 1)) (choose (i / 256 - 1) (i % 256)) ∙ ap (λ x. min x (2 ^ 53)) (sym (choose_more (i / 256) (i % 256) (omega arith) (omega arith))))

pub power_next : (q e a : ℕ) → q ≤ 16 → a ≡ power_entry q e → min (min (a * (q - 1)) (2 ^ 64 - 1)) 9007199254740992 ≡ power_entry q (e + 1)
power_next q e a l c =
    let small : min (q - 1) (2 ^ 53) ≡ q - 1 = omega arith in
    let both = capped_product ((q - 1) ^ e) (q - 1) in
    let both' : min (min (min ((q - 1) ^ e) (2 ^ 53) * (q - 1)) (2 ^ 64 - 1)) (2 ^ 53) ≡ min ((q - 1) ^ e * (q - 1)) (2 ^ 53) = rw small at both in
    let up : e + 1 ≡ suc e = omega arith in
    rw (c, up) (both' ∙ ap (λ x. min x (2 ^ 53)) (sym (pow-suc (q - 1) e)))

count_up : (k q e : ℕ) → message_count k q (e + 1) ≡ choose k (e + 1) * (q - 1) ^ e
unfolding message_count
count_up k q e = let f : e + 1 - 1 ≡ e = omega arith in ap (λ x. choose k (e + 1) * (q - 1) ^ x) f

pub count_is : (k q e a b : ℕ) → k ≤ 255 → e < k → a ≡ choose_entry (k * 256 + (e + 1)) → b ≡ power_entry q e → min (min (a * b) (2 ^ 64 - 1)) 9007199254740992 ≡ count_entry k q e
count_is k q e a b l m c d =
    let row : (k * 256 + (e + 1)) / 256 ≡ k = omega arith in
    let column : (k * 256 + (e + 1)) % 256 ≡ e + 1 = omega arith in
    let c' : a ≡ min (choose k (e + 1)) (2 ^ 53) = rw (row, column) at c in
    rw (c', d) (capped_product (choose k (e + 1)) ((q - 1) ^ e) ∙ ap (λ x. min x (2 ^ 53)) (sym (count_up k q e)))

pub led_is : (k q e a b : ℕ) → 1 ≤ k → k ≤ 255 → e < k → a ≡ choose_entry ((k - 1) * 256 + e) → b ≡ power_entry q e → min (min (a * b) (2 ^ 64 - 1)) 9007199254740992 ≡ min (choose (k - 1) e * (q - 1) ^ e) (2 ^ 53)
led_is k q e a b some l m c d =
    let row : ((k - 1) * 256 + e) / 256 ≡ k - 1 = omega arith in
    let column : ((k - 1) * 256 + e) % 256 ≡ e = omega arith in
    let c' : a ≡ min (choose (k - 1) e) (2 ^ 53) = rw (row, column) at c in
    rw (c', d) (capped_product (choose (k - 1) e) ((q - 1) ^ e))

pub level_is : (k q e : ℕ) → level_blocks k q (e + 1) ≡ (message_count k q (e + 1) + 4095) / 4096
unfolding level_blocks
level_is k q e = refl

start_sum : (c m s b t n : ℕ) → 1 ≤ m → b ≡ (c + 4095) / 4096 → s ≡ min t (2 ^ 40) → n ≡ t + m * b → min (min (min ((min c (2 ^ 53) + 4095) / 4096 * m) (2 ^ 64 - 1) + s) (2 ^ 64 - 1)) 1099511627776 ≡ min n (2 ^ 40)
start_sum c m s b t n l e f g =
    elim (cases_lt c (2 ^ 53)) [
      | inl i ↦ (
          let same : min c (2 ^ 53) ≡ c = omega (arith, i) in
          let turn : b * m ≡ m * b = omega arith in
          rw (same, ← e, f, g, turn) (sums (m * b) t))
      | inr i ↦ (
          let same : min c (2 ^ 53) ≡ 2 ^ 53 = omega (arith, i) in
          let whole : (2 ^ 53 + 4095) / 4096 ≡ 2 ^ 41 = omega arith in
          let large : 2 ^ 41 ≤ b = omega (arith, i, e) in
          let first : 2 ^ 41 ≤ 2 ^ 41 * m = omega (arith, le-mul_of_pos_right {m = m} (2 ^ 41) l) in
          let second : b ≤ b * m = le-mul_of_pos_right {m = m} b l in
          let turn : b * m ≡ m * b = omega arith in
          rw (same, whole) (over (2 ^ 41 * m) s n first (omega (arith, g, second, large, turn))))
    ]
  where
    sums : (a t : ℕ) → min (min (min a (2 ^ 64 - 1) + min t (2 ^ 40)) (2 ^ 64 - 1)) 1099511627776 ≡ min (t + a) (2 ^ 40)
    sums a t = omega arith

    over : (a s n : ℕ) → 2 ^ 41 ≤ a → 2 ^ 41 ≤ n → min (min (min a (2 ^ 64 - 1) + s) (2 ^ 64 - 1)) 1099511627776 ≡ min n (2 ^ 40)
    over a s n l m = omega arith

pub start_next : (k q m e a s : ℕ) → 1 ≤ m → a ≡ count_entry k q e → s ≡ start_entry k q m e → min (min (min ((a + 4095) / 4096 * m) (2 ^ 64 - 1) + s) (2 ^ 64 - 1)) 1099511627776 ≡ start_entry k q m (e + 1)
start_next k q m e a s l c d =
    let c' : cut ≡ 2 ^ 40 = cut_is in
    rw (c, c') (start_sum (message_count k q (e + 1)) m s (level_blocks k q (e + 1)) (blocks_before k q m (e * m)) (blocks_before k q m ((e + 1) * m)) l (level_is k q e) (rw c' at d) (blocks_of_level k q m e))

pub table_none : (f : ℕ → ℕ) (t : List ℕ) → t ≡ [] → IsTable f 0 t
table_none f t e = rw e (record { many = refl; entry = λ a l. absurd (omega (arith, l)) })

pub start_first : (k q m : ℕ) → 0 ≡ start_entry k q m 0
unfolding blocks_before
start_first k q m = let e : 0 * m ≡ 0 = omega arith in rw e (omega arith)

pub ruleset next_choose_laws = (choose_sum, choose_left, choose_top)

-- Which levels are done at the beginning of each phase.
--   choose_positive, block_some      each level has a block
--   level_inside               the level of a phase is at most k
--   phases_rise                so the blocks before the phases rise
--   last_that_at               the last number that passes a test
--   done_at                    at the beginning of phase p = e m + i the sets below i have e + 1 levels done, and the others e
use Rattle.std.proofs.Common.{◌≡◌, ℕ, zero, suc, ◌+◌, ◌-◌, ◌*◌, ◌/◌, ◌%◌, ◌^◌, ◌<◌, ◌≤◌, Bool, true, false, ◌&&◌, nat_le, nat_lt, cond, length, sym, ap, subst, ◌∙◌, ⊎_elim, arith}
use Rattle.std.proofs.Math.Nat.{mod-add-div', mod-lt, mul-le-mul_right, one-le-pow}
use Rattle.std.proofs.lemmas.Bool.{cases_lt, and_from, le-leb, lt-ltb}
use Rattle.std.proofs.lemmas.Bool.Decides.{nat_tests}
use Rattle.std.proofs.lemmas.Nat.{div_below}
use Rattle.lc_algebra.specs.Field.{size}
use Rattle.lc_algebra.specs.Matrix.{Matrix}
use Rattle.lc_algebra.proofs.FieldLaws.{one_inside}
use Rattle.lc_enumeration.specs.Message.{choose}
use Rattle.lc_enumeration.specs.Plan.{cut}
use Rattle.lc_enumeration.specs.Search.{set_count, last_that}
use Rattle.lc_enumeration.specs.NearWord.{pattern_count, coset_level, coset_level_blocks, coset_blocks_before, coset_phases, is_coset_level_done}
use Rattle.lc_enumeration.proofs.ChooseLaws.{choose_next, choose_nothing}
use Rattle.lc_infoset.proofs.BestLaws.{product_positive}
use Rattle.lc_infoset.proofs.SeenLaws.{block_inside}
use Rattle.lc_coset_laws.proofs.PhaseLaws.{blocks_next, level_blocks_are, blocks_least}
use Rattle.lc_coset_laws.proofs.PlaceLaws.{before_of}
use Rattle.lc_coset_laws.proofs.SeenLaws.{done_of, phases_are}
use Rattle.lc_coset_laws.proofs.NearAnswers.{level_test}

pub choose_positive : (k w : ℕ) → w ≤ k → 0 < choose k w
choose_positive k zero l = omega (arith, choose_nothing k)
choose_positive zero (suc w) l = absurd (omega (arith, l))
choose_positive (suc k) (suc w) l = omega (arith, choose_next k w, choose_positive k w (omega (arith, l)))

count_some : (k q w : ℕ) → 1 < q → w ≤ k → 0 < pattern_count k q w
unfolding pattern_count
count_some k q w two l = product_positive (choose k w) ((q - 1) ^ w) (choose_positive k w l) (one-le-pow w (q - 1) (omega (arith, two)))

pub block_some : (k q w : ℕ) → 1 < q → w ≤ k → 0 < coset_level_blocks k q w
block_some k q w two l =
    let b = block_inside 0 (pattern_count k q w) (count_some k q w two l) in
    omega (arith, level_blocks_are k q w, b)

pub level_inside : (k m p : ℕ) → 0 < m → p < coset_phases k m → coset_level m p ≤ k
unfolding coset_level
level_inside k m p some l =
    let d : p / m < k + 1 = div_below p m (k + 1) some (omega (arith, l, phases_are k m)) in
    omega (arith, d)

pub phases_rise : (k q m p r : ℕ) → 1 < q → 0 < m → p < r → r ≤ coset_phases k m → coset_blocks_before k q m p < coset_blocks_before k q m r
phases_rise k q m p r two some less l =
    let level = level_inside k m p some (omega (arith, less, l)) in
    omega (arith, blocks_next k q m p, block_some k q (coset_level m p) two level, blocks_least k q m (suc p) r less)

pub last_that_at : (test : ℕ → Bool) (n r : ℕ) → r ≤ n → (0 < r → test r ≡ true) → ((w : ℕ) → r < w → w ≤ n → test w ≡ false) → last_that test n ≡ r
unfolding last_that
last_that_at test zero r l at above = omega (arith, l)
last_that_at test (suc n) r l at above =
    ⊎_elim
    (λ less. ap (λ (b : Bool). cond b (suc n) (last_that test n)) (above (suc n) less (omega arith)) ∙ last_that_at test n r (omega (arith, less)) at (λ w a b. above w a (omega (arith, b))))
    (λ most.
    let same : r ≡ suc n = omega (arith, l, most) in
    ap (λ (b : Bool). cond b (suc n) (last_that test n)) (subst (λ a. test a ≡ true) same (at (omega (arith, most)))) ∙ sym same)
    (cases_lt r (suc n))

too_many : (a b : ℕ) (c : Bool) → b < a → (nat_le a b && c) ≡ false
too_many a b c l = let t : nat_le a b ≡ false = grind (arith, nat_tests) in ap (λ d. d && c) t

next_row : (m e d : ℕ) → suc d ≡ e → d * m + m ≡ e * m
next_row m e d h = omega (arith, ap (λ a. a * m) h)

pub done_at : (C : Matrix) (p j : ℕ) → j < set_count C → p ≤ coset_phases (length C.rows) (set_count C) → before_of C p < cut → done_of C (before_of C p) j ≡ (p + (set_count C - 1 - j)) / set_count C
done_at C p j inside within uncut =
    let k = length C.rows in
    let q = size C.field in
    let m = set_count C in
    let some : 0 < m = omega (arith, inside) in
    let y = p + (m - 1 - j) in
    let e = y / m in
    let whole : y % m + e * m ≡ y = mod-add-div' y m in
    let rest : y % m < m = mod-lt y some in
    let most : e < k + 2 = div_below y m (k + 2) some (omega (arith, within, phases_are k m, inside)) in
    last_that_at (is_coset_level_done k q m (before_of C p) j) (k + 1) e (omega (arith, most))
    (λ l.
    let t = (e - 1) * m + suc j in
    let row = next_row m e (e - 1) (omega (arith, l)) in
    let few : before_of C t ≤ before_of C p = blocks_least k q m t p (omega (arith, row, whole, inside)) in
    level_test k q m (before_of C p) j e ∙ and_from _ _ (le-leb (before_of C t) (before_of C p) few) (lt-ltb (before_of C t) cut (omega (arith, few, uncut))))
    (λ w l few.
    let t = (w - 1) * m + suc j in
    let row = next_row m w (w - 1) (omega (arith, l)) in
    let low : e * m ≤ (w - 1) * m = mul-le-mul_right m (omega (arith, l)) in
    let high : w * m ≤ (k + 1) * m = mul-le-mul_right m few in
    let more : before_of C p < before_of C t = phases_rise k q m p t (one_inside C.field) some (omega (arith, low, whole, rest, inside)) (omega (arith, row, high, inside, phases_are k m)) in
    level_test k q m (before_of C p) j w ∙ too_many (before_of C t) (before_of C p) (nat_lt (before_of C t) cut) more)

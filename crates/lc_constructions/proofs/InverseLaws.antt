-- The inverse of an element is one.
--   found_before           a search from `start` stops at a number that passes the test, if some number does
--   inverse_is             the inverse is an element whose product with a is 1
use Rattle.std.proofs.Common.{◌≡◌, ℕ, zero, suc, ◌+◌, ◌<◌, ◌≤◌, Bool, true, false, ◌==◌, refl, sym, ap, ◌∙◌, ⊎_elim, arith, true≢false}
use Rattle.std.proofs.lemmas.Bool.{cases_Bool, cases_eq, eqb-true, eq-eqb}
use Rattle.lc_algebra.specs.declared.FieldName.{FieldName}
use Rattle.lc_algebra.specs.Field.{size, mul, IsInverse}
use Rattle.lc_algebra.specs.Embedding.{first_from, first_that}
use Rattle.lc_algebra.proofs.FieldLaws.{inverse_of}
use Rattle.lc_constructions.specs.Alternant.{inverse}

abbrev Finds : (ℕ → Bool) → ℕ → ℕ → Type 0
Finds test start count = (test (first_from test start count) ≡ true) × (first_from test start count < start + count)

pub stops : (test : ℕ → Bool) (start count : ℕ) → test start ≡ true → first_from test start (suc count) ≡ start
unfolding first_from
stops test start count e = rw e refl

pub goes_on : (test : ℕ → Bool) (start count : ℕ) → test start ≡ false → first_from test start (suc count) ≡ first_from test (suc start) count
unfolding first_from
goes_on test start count e = rw e refl

pub found_before : (test : ℕ → Bool) (start count k : ℕ) → start ≤ k → k < start + count → test k ≡ true → Finds test start count
found_before test start zero k l m h = absurd (omega (arith, l, m))
found_before test start (suc count) k l m h =
    ⊎_elim
    (λ e. let s = stops test start count e in (ap test s ∙ e, omega (arith, s)))
    (λ e.
    let s = goes_on test start count e in
    let d : suc start ≤ k = ⊎_elim (λ q. absurd (true≢false (sym h ∙ ap test q ∙ e))) (λ n. omega (arith, l, n)) (cases_eq k start) in
    let t = found_before test (suc start) count k d (omega (arith, m)) h in
    (ap test s ∙ t.0, omega (arith, s, t.1)))
    (cases_Bool (test start))

pub inverse_is : (K : FieldName) (a : ℕ) → a < size K → 0 < a → IsInverse K a (inverse K a)
unfolding inverse first_that
inverse_is K a l p =
    let (b, i) = inverse_of K a l p in
    let t = found_before (λ b. mul K a b == 1) 0 (size K) b (omega arith) (omega (arith, i.inside)) (eq-eqb (mul K a b) 1 i.one) in
    record { inside = omega (arith, t.1); one = eqb-true (mul K a (first_from (λ b. mul K a b == 1) 0 (size K))) 1 t.0 }

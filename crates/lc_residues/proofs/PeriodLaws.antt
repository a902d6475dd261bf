-- Gaussian periods in the symbol fields, by a test of each length.
--   period_there, period_missing      there is a period of each length at which the code is asked for
--   least_period           the least one is a period
--   none_before            no period has a number below that of the least one
--   period_found           the first one that the loop meets is the least
use Rattle.std.proofs.Common.{◌≡◌, ℕ, zero, suc, ◌+◌, ◌<◌, ◌≤◌, Bool, true, false, not, ◌||◌, refl, sym, ap, subst, ◌∙◌, ⊎_elim, arith, true≢false}
use Rattle.std.specs.Prelude.{IsTrue}
use Rattle.std.specs.List.{list_any}
use Rattle.std.proofs.lemmas.Bool.{cases_Bool, cases_lt, cases_eq}
use Rattle.lc_algebra.specs.declared.FieldName.{FieldName}
use Rattle.lc_algebra.specs.declared.FieldName.TheVariants.{Gf2}
use Rattle.lc_algebra.specs.Residue.{digits, number, plus, minus, times, top, up, times_x, product}
use Rattle.lc_algebra.specs.Field.{shape, shape_of, size, is_symbol, coefficients, add, neg, mul}
use Rattle.lc_algebra.specs.Embedding.{first_from, first_that}
use Rattle.lc_algebra.specs.Span.{below}
use Rattle.lc_algebra.proofs.SpanLaws.{contains_below}
use Rattle.lc_algebra.proofs.SpanSearch.{any_contains}
use Rattle.lc_algebra.proofs.FieldTests.{below as each_below, below_each}
use Rattle.lc_constructions.proofs.InverseLaws.{goes_on, stops, found_before}
use Rattle.lc_language.specs.QuadraticResidues.{is_odd_prime, is_residue, is_residue_length, period_norm, is_period, period}

unfoldable there_test : FieldName → ℕ → Bool
there_test f n = not (is_symbol f) || (not (is_residue_length (size f) n) || list_any (is_period f n) (below (size f)))

there_tests : (f : FieldName) → each_below (there_test f) 256 ≡ true
unfolding each_below there_test below digits number plus minus times top up times_x product shape shape_of size is_symbol coefficients add neg mul is_odd_prime is_residue is_residue_length period_norm is_period
there_tests Gf2 = refl
there_tests _ = refl

pub period_there : (f : FieldName) (n : ℕ) → IsTrue (is_symbol f) → n ≤ 255 → IsTrue (is_residue_length (size f) n) → (t : ℕ) × (t < size f) × (is_period f n t ≡ true)
unfolding there_test
period_there f n a l b =
    let h : there_test f n ≡ true = below_each (there_test f) 256 (there_tests f) n (omega (arith, l)) in
    let k : list_any (is_period f n) (below (size f)) ≡ true = rw (a, b) at h in
    let (t, c, e) = any_contains (is_period f n) (below (size f)) k in
    (t, contains_below (size f) t c, e)

pub period_missing : (f : FieldName) (n q t : ℕ) → IsTrue (is_symbol f) → n ≤ 255 → IsTrue (is_residue_length (size f) n) → q ≡ size f → q ≤ t → ((k : ℕ) → k < t → is_period f n k ≡ false) → ⊥
period_missing f n q t a l b e m h =
    let (k, p, is) = period_there f n a l b in
    true≢false (sym is ∙ h k (omega (arith, p, e, m)))

first_told : (test : ℕ → Bool) (start count i : ℕ) → start ≤ i → i < start + count → test i ≡ true → ((k : ℕ) → start ≤ k → k < i → test k ≡ false) → first_from test start count ≡ i
first_told test start zero i l m t h = absurd (omega (arith, l, m))
first_told test start (suc count) i l m t h =
    ⊎_elim
    (λ e. let s : test start ≡ true = subst (λ k. test k ≡ true) e t in stops test start count s ∙ sym e)
    (λ n.
    let d : suc start ≤ i = ⊎_elim (λ q. q) (λ q. absurd (n (omega (arith, l, q)))) (cases_lt start i) in
    goes_on test start count (h start (omega arith) (omega (arith, d))) ∙ first_told test (suc start) count i d (omega (arith, m)) t (λ k a b. h k (omega (arith, a)) b))
    (cases_eq i start)

pub period_found : (f : FieldName) (n t : ℕ) → t < size f → is_period f n t ≡ true → ((k : ℕ) → k < t → is_period f n k ≡ false) → t ≡ period f n
unfolding period first_that
period_found f n t l e h = sym (first_told (is_period f n) 0 (size f) t (omega arith) (omega (arith, l)) e (λ k a b. h k b))

pub least_period : (f : FieldName) (n : ℕ) → IsTrue (is_symbol f) → n ≤ 255 → IsTrue (is_residue_length (size f) n) → (period f n < size f) × IsTrue (is_period f n (period f n))
unfolding period first_that
least_period f n a l b =
    let (t, p, e) = period_there f n a l b in
    let (q, r) = found_before (is_period f n) 0 (size f) t (omega arith) (omega (arith, p)) e in
    (omega (arith, r), q)

first_bound : (test : ℕ → Bool) (start count i : ℕ) → start ≤ i → i < start + count → test i ≡ true → first_from test start count ≤ i
first_bound test start zero i l m h = absurd (omega (arith, l, m))
first_bound test start (suc count) i l m h =
    ⊎_elim
    (λ e. let s = stops test start count e in omega (arith, s, l))
    (λ e.
    let s = goes_on test start count e in
    let d : suc start ≤ i = ⊎_elim (λ q. absurd (true≢false (sym h ∙ ap test q ∙ e))) (λ n. omega (arith, l, n)) (cases_eq i start) in
    let t = first_bound test (suc start) count i d (omega (arith, m)) h in
    omega (arith, s, t))
    (cases_Bool (test start))

pub none_before : (f : FieldName) (n t : ℕ) → t < size f → IsTrue (is_period f n t) → period f n ≤ t
unfolding period first_that
none_before f n t l e = first_bound (is_period f n) 0 (size f) t (omega arith) (omega (arith, l)) e

-- Arithmetic by the tables of powers and logarithms.
--   product_by_logs, inverse_by_logs, power_by_logs     what the tables give at the sum, the difference, the multiple of
--                                                       logarithms
--   logs_more                 the table of logarithms, filled power by power
--   logs_whole                and whole, since each nonzero element is a power
use Rattle.std.proofs.Common.{◌≡◌, ℕ, ◌+◌, ◌-◌, ◌*◌, ◌%◌, ◌<◌, ⊎_elim, List, length, slice_index, get_or, set, ◌≢◌, [], ◌∷◌, ◌++◌, length-append, add-one, mul_comm, arith, sym, ◌∙◌, ap, mod-lt}
use Rattle.std.proofs.lemmas.List.{get_or-set_same, get_or-set_other, get_or_push, get_or_append_left, length-set}
use Rattle.std.proofs.lemmas.Grind.{get_or_default_zero}
use Rattle.std.proofs.lemmas.Bool.{cases_eq}
use Rattle.lc_algebra.specs.declared.FieldName.{FieldName}
use Rattle.lc_algebra.specs.Field.{shape_of, size, mul, pow, IsInverse}
use Rattle.lc_algebra.proofs.FieldLaws.{zero_mul, mul_zero}
use Rattle.lc_algebra.proofs.PowerLaws.{pow_inside, pow_zero, pow_suc, pow_add, pow_mul, power_order, power_rest, logarithm}
use Rattle.lc_field.specs.Tables.{IsPowers, IsLogarithms}

abbrev pub γ : FieldName → ℕ → ℕ
γ f n = pow f (shape_of f).primitive n

pub product_by_logs : (f : FieldName) (powers logs : List ℕ) (a b : ℕ) → IsPowers f powers → IsLogarithms f logs → 0 < a → 0 < b → a < size f → b < size f → slice_index powers (slice_index logs a + slice_index logs b) ≡ mul f a b
product_by_logs f powers logs a b p t oa ob la lb =
    let i = slice_index logs a in
    let j = slice_index logs b in
    let bi : i < size f - 1 = t.below a (omega (arith, t.count)) in
    let bj : j < size f - 1 = t.below b (omega (arith, t.count)) in
    cc (p.entries (i + j) (omega (arith, p.count, bi, bj)), pow_add f (shape_of f).primitive i j, t.entries a oa (omega (arith, t.count)), t.entries b ob (omega (arith, t.count)))

pub inverse_by_logs : (f : FieldName) (powers logs : List ℕ) (a : ℕ) → IsPowers f powers → IsLogarithms f logs → 0 < a → a < size f → IsInverse f a (slice_index powers (size f - 1 - slice_index logs a))
inverse_by_logs f powers logs a p t oa la =
    let i = slice_index logs a in
    let bi : i < size f - 1 = t.below a (omega (arith, t.count)) in
    let j = size f - 1 - i in
    let s : i + j ≡ size f - 1 = omega (arith, bi) in
    let e : slice_index powers j ≡ γ f j = p.entries j (omega (arith, p.count, bi)) in
    record { inside = rw e (pow_inside f (shape_of f).primitive j); one = cc (pow_add f (shape_of f).primitive i j, t.entries a oa (omega (arith, t.count)), power_order f) }

pub power_by_logs : (f : FieldName) (powers logs : List ℕ) (a e : ℕ) → IsPowers f powers → IsLogarithms f logs → 0 < a → a < size f → slice_index powers ((slice_index logs a * (e % (size f - 1))) % (size f - 1)) ≡ pow f a e
power_by_logs f powers logs a e p t oa la =
    let g = (shape_of f).primitive in
    let m = size f - 1 in
    let i = slice_index logs a in
    let r = e % m in
    let bi : i < m = t.below a (omega (arith, t.count)) in
    let bound : (i * r) % m < m = mod-lt (i * r) (omega (arith, bi)) in
    cc (p.entries ((i * r) % m) (omega (arith, p.count, bound)), power_rest f (i * r), mul_comm i r, pow_mul f g r i, power_rest f e, pow_mul f g e i, mul_comm e i, pow_mul f g i e, t.entries a oa (omega (arith, t.count)))

-- the same, as the code reads the tables

pub read_is : (xs : List ℕ) (i x : ℕ) → x ≡ get_or xs i x → i < length xs → x ≡ slice_index xs i
read_is xs i x e l = e ∙ get_or_default_zero xs i x l

pub product_read : (f g : FieldName) (powers logs : List ℕ) (a b i j x : ℕ) → g ≡ f → IsPowers g powers → IsLogarithms g logs → i ≡ get_or logs a i → j ≡ get_or logs b j → x ≡ get_or powers (i + j) x → 0 < a → 0 < b → a < size f → b < size f → x ≡ mul f a b
product_read f g powers logs a b i j x e p t ei ej ex oa ob la lb =
    let q = rw e at p in
    let u = rw e at t in
    let ri : i ≡ slice_index logs a = read_is logs a i ei (omega (arith, u.count)) in
    let rj : j ≡ slice_index logs b = read_is logs b j ej (omega (arith, u.count)) in
    let bi : slice_index logs a < size f - 1 = u.below a (omega (arith, u.count)) in
    let bj : slice_index logs b < size f - 1 = u.below b (omega (arith, u.count)) in
    cc (read_is powers (i + j) x ex (omega (arith, q.count, ri, rj, bi, bj)), ri, rj, product_by_logs f powers logs a b q u oa ob la lb)

pub inverse_read : (f g : FieldName) (powers logs : List ℕ) (n a i x : ℕ) → g ≡ f → n ≡ size g → IsPowers g powers → IsLogarithms g logs → i ≡ get_or logs a i → x ≡ get_or powers (n - 1 - i) x → 0 < a → a < size f → IsInverse f a x
inverse_read f g powers logs n a i x e z p t ei ex oa la =
    let q = rw e at p in
    let u = rw e at t in
    let w = rw e at z in
    let ri : i ≡ slice_index logs a = read_is logs a i ei (omega (arith, u.count)) in
    let bi : slice_index logs a < size f - 1 = u.below a (omega (arith, u.count)) in
    let r : x ≡ slice_index powers (size f - 1 - slice_index logs a) = cc (read_is powers (n - 1 - i) x ex (omega (arith, q.count, ri, bi, w)), ri, w) in
    rw r (inverse_by_logs f powers logs a q u oa la)

pub power_read : (f g : FieldName) (powers logs : List ℕ) (n a e i x : ℕ) → g ≡ f → n ≡ size g → IsPowers g powers → IsLogarithms g logs → i ≡ get_or logs a i → x ≡ get_or powers ((i * (e % (n - 1))) % (n - 1)) x → 0 < a → a < size f → x ≡ pow f a e
power_read f g powers logs n a e i x s z p t ei ex oa la =
    let q = rw s at p in
    let u = rw s at t in
    let w = rw s at z in
    let ri : i ≡ slice_index logs a = read_is logs a i ei (omega (arith, u.count)) in
    let bi : slice_index logs a < size f - 1 = u.below a (omega (arith, u.count)) in
    let bound : (i * (e % (n - 1))) % (n - 1) < n - 1 = mod-lt (i * (e % (n - 1))) (omega (arith, w, bi)) in
    cc (read_is powers ((i * (e % (n - 1))) % (n - 1)) x ex (omega (arith, q.count, bound, w)), ri, w, power_by_logs f powers logs a e q u oa la)

-- the table of logarithms, as it is filled

pub logs_more : (f : FieldName) (logs : List ℕ) (n : ℕ) → length logs ≡ size f → ((k : ℕ) → k < n → γ f (slice_index logs (γ f k)) ≡ γ f k) → (k : ℕ) → k < n + 1 → γ f (slice_index (set logs (γ f n) n) (γ f k)) ≡ γ f k
logs_more f logs n c h k l =
    let inside : γ f n < length logs = rw c (pow_inside f (shape_of f).primitive n) in
    ⊎_elim
    (λ e. let s : slice_index (set logs (γ f n) n) (γ f n) ≡ n = get_or-set_same logs (γ f n) n 0 inside in cc)
    (λ e. let s : slice_index (set logs (γ f n) n) (γ f k) ≡ slice_index logs (γ f k) = get_or-set_other logs (γ f n) (γ f k) n 0 e in
    let d : k ≢ n = λ kn. e (ap (γ f) kn) in
    ap (γ f) s ∙ h k (omega (arith, l, d)))
    (cases_eq (γ f k) (γ f n))

pub logs_whole : (f : FieldName) (logs : List ℕ) (n : ℕ) → n ≡ size f - 1 → length logs ≡ size f → ((a : ℕ) → a < length logs → slice_index logs a < size f - 1) → ((k : ℕ) → k < n → γ f (slice_index logs (γ f k)) ≡ γ f k) → IsLogarithms f logs
logs_whole f logs n e c b h = record {
  count = c;
  below = b;
  entries = λ a o l. let (k, m, r) = logarithm f a o (omega (arith, c, l)) in cc (h k (omega (arith, e, m)), r);
}

pub logs_step : (f : FieldName) (logs : List ℕ) (n place : ℕ) → place ≡ γ f n → n < size f - 1 → length logs ≡ size f → ((a : ℕ) → a < length logs → slice_index logs a < size f - 1) → ((k : ℕ) → k < n → γ f (slice_index logs (γ f k)) ≡ γ f k) → (length (set logs place n) ≡ size f) × ((a : ℕ) → a < length (set logs place n) → slice_index (set logs place n) a < size f - 1) × ((k : ℕ) → k < n + 1 → γ f (slice_index (set logs place n) (γ f k)) ≡ γ f k)
logs_step f logs n place e l c b h =
    let z = length-set logs place n in
    (z ∙ c, λ a m. ⊎_elim (λ s. let r : slice_index (set logs place n) a ≡ n = rw s (get_or-set_same logs place n 0 (omega (arith, z, m, s))) in omega (arith, r, l)) (λ s. let r : slice_index (set logs place n) a ≡ slice_index logs a = get_or-set_other logs place a n 0 s in omega (arith, r, b a (omega (arith, z, m)))) (cases_eq a place), rw e (logs_more f logs n c h))

pub powers_step : (f : FieldName) (old new : List ℕ) (n power next : ℕ) → length old ≡ n → power ≡ γ f n → ((k : ℕ) → k < n → slice_index old k ≡ γ f k) → new ≡ old ++ power ∷ [] → next ≡ mul f (shape_of f).primitive power → (length new ≡ n + 1) × (next ≡ γ f (n + 1)) × ((k : ℕ) → k < n + 1 → slice_index new k ≡ γ f k)
powers_step f old new n power next c e h g s =
    (rw (g, length-append old (power ∷ [])) (omega (arith, c)), cc (pow_suc f (shape_of f).primitive n, add-one n), λ k l. rw g (⊎_elim (λ d. let r : slice_index (old ++ power ∷ []) k ≡ power = get_or_push old power 0 k (c ∙ sym d) in cc) (λ d. get_or_append_left old (power ∷ []) 0 k (omega (arith, l, c, d)) ∙ h k (omega (arith, l, d))) (cases_eq k n)))

pub ruleset logs_of_laws = (logs_more, logs_whole, pow_inside)

pub ruleset mul_laws = (zero_mul, mul_zero)

pub ruleset powers_of_laws = (pow_inside, pow_zero, pow_suc)

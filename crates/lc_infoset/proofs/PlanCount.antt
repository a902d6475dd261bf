-- How many blocks a whole plan has, and that a budget of as many gives an exact answer.
--   partial, pascal            the sum of the first terms of the binomial theorem, and how it grows with k
--   partial_stays terms past the last are 0
--   binomial                   the binomial theorem for r + 1
--   counts, counts_are, all_counts      the numbers of messages of the levels 1 to e; for e = k they are (q^k - 1)/(q - 1)
--   blocks_few, blocks_fewer   a level has at most as many blocks as messages, and fewer from two messages on
--   plan_few, plan_fewer      so the plan has at most m times as many blocks, and fewer for k of at least 2
--   set_count_few              there are at most n + 1 information sets
--   plan_within                the plan ends below the cut and within such a budget
--   whole_budget               a budget of as many blocks gives an exact answer
use Rattle.std.proofs.Common.{◌≡◌, ℕ, zero, suc, ◌+◌, ◌-◌, ◌*◌, ◌/◌, ◌^◌, ◌<◌, ◌≤◌, Bool, cond, nat_le, List, [], ◌∷◌, ◌++◌, length, refl, sym, ap, subst, ◌∙◌, ⊎_elim, arith, pow-suc}
use Rattle.std.proofs.Math.Nat.{pow-zero, mul-div_cancel_left, div-le_of_le-mul, mul-le-mul_left}
use Rattle.std.proofs.lemmas.Nat.{div_below}
use Rattle.std.proofs.lemmas.Bool.{cases_lt, cases_Bool}
use Rattle.lc_algebra.specs.declared.FieldName.{FieldName}
use Rattle.lc_algebra.specs.Field.{size}
use Rattle.lc_algebra.specs.Matrix.{Matrix}
use Rattle.lc_algebra.proofs.FieldLaws.{one_inside}
use Rattle.lc_enumeration.specs.Message.{choose, message_count}
use Rattle.lc_enumeration.specs.Plan.{cut, blocks_before, level_blocks}
use Rattle.lc_enumeration.specs.InformationSet.{next_set, sets_after, information_sets}
use Rattle.lc_enumeration.specs.Search.{Found, exact, sets_of, set_count, best, answer_at, answer}
use Rattle.lc_enumeration.proofs.PlanLaws.{cut_is}
use Rattle.lc_enumeration.proofs.ChooseLaws.{choose_next, choose_none, choose_nothing, choose_one}
use Rattle.lc_place.proofs.Counting.{blocks_of_level as next_level}
use Rattle.lc_place.proofs.Phases.{blocks_of}
use Rattle.lc_infoset.proofs.BestLaws.{no_blocks}
use Rattle.lc_infoset.proofs.AnswerLaws.{some_set}
use Rattle.lc_infoset.proofs.RoundLaws.{plan_end, end_listed, end_done, first_done, in_list, exact_is}
use Rattle.lc_infoset.proofs.SessionLaws.{answer_is}

pub partial : ℕ → ℕ → ℕ → ℕ
partial r k zero = 0
partial r k (suc n) = partial r k n + choose k n * r ^ n

pub pascal : (r k n : ℕ) → partial r (suc k) (suc n) ≡ r * partial r k n + partial r k (suc n)
unfolding partial
pascal r k zero = let a = choose_nothing (suc k) in let b = choose_nothing k in rw (a, b) (omega arith)
pascal r k (suc n) =
    let before = pascal r k n in
    rw (choose_next k n, pow-suc r n) (spread (partial r (suc k) (suc n)) (partial r k n) (partial r k (suc n)) (choose k n) (choose k (suc n)) (r ^ n) r before)
  where
    spread : (a b c u v p r : ℕ) → a ≡ r * b + c → a + (u + v) * (p * r) ≡ r * (b + u * p) + (c + v * (p * r))
    spread a b c u v p r e = omega (arith, e)

partial_next : (r k n : ℕ) → partial r k (suc n) ≡ partial r k n + choose k n * r ^ n
unfolding partial
partial_next r k n = refl

pub partial_stays : (r k : ℕ) → partial r k (suc (suc k)) ≡ partial r k (suc k)
partial_stays r k = partial_next r k (suc k) ∙ ap (λ c. partial r k (suc k) + c * r ^ suc k) (choose_none k (suc k) (omega arith)) ∙ omega arith

first_partial : (r k : ℕ) → partial r k 1 ≡ 1
unfolding partial
first_partial r k = ap (λ c. 0 + c * r ^ 0) (choose_nothing k) ∙ ap (λ p. 0 + 1 * p) (pow-zero r)

pub binomial : (r k : ℕ) → partial r k (suc k) ≡ (r + 1) ^ k
binomial r zero = first_partial r 0 ∙ sym (pow-zero (r + 1))
binomial r (suc k) = pascal r k (suc k) ∙ both (partial r k (suc k)) (partial r k (suc (suc k))) ((r + 1) ^ k) r (binomial r k) (partial_stays r k) ∙ sym (pow-suc (r + 1) k)
  where
    both : (a b p r : ℕ) → a ≡ p → b ≡ a → r * a + b ≡ p * (r + 1)
    both a b p r e f = omega (arith, f, ap (λ x. r * x) e, e)

pub counts : ℕ → ℕ → ℕ → ℕ
counts k q zero = 0
counts k q (suc e) = counts k q e + message_count k q (suc e)

count_is : (k q e : ℕ) → message_count k q (suc e) ≡ choose k (suc e) * (q - 1) ^ e
unfolding message_count
count_is k q e = let f : suc e - 1 ≡ e = omega arith in rw f refl

counts_next : (k q e : ℕ) → counts k q (suc e) ≡ counts k q e + choose k (suc e) * (q - 1) ^ e
unfolding counts
counts_next k q e = ap (λ c. counts k q e + c) (count_is k q e)

no_counts : (k q : ℕ) → counts k q 0 ≡ 0
unfolding counts
no_counts k q = refl

pub counts_are : (k q e : ℕ) → (q - 1) * counts k q e + 1 ≡ partial (q - 1) k (suc e)
counts_are k q zero = ap (λ c. (q - 1) * c + 1) (no_counts k q) ∙ omega arith ∙ sym (first_partial (q - 1) k)
counts_are k q (suc e) =
    ap (λ c. (q - 1) * c + 1) (counts_next k q e)
    ∙ more (q - 1) (counts k q e) (choose k (suc e)) ((q - 1) ^ e) (partial (q - 1) k (suc e)) (counts_are k q e)
    ∙ ap (λ p. partial (q - 1) k (suc e) + choose k (suc e) * p) (sym (pow-suc (q - 1) e))
    ∙ sym (partial_next (q - 1) k (suc e))
  where
    more : (r c u p a : ℕ) → r * c + 1 ≡ a → r * (c + u * p) + 1 ≡ a + u * (p * r)
    more r c u p a e = omega (arith, e)

pub all_counts : (k q : ℕ) → 1 < q → counts k q k ≡ (q ^ k - 1) / (q - 1)
all_counts k q l =
    let same : (q - 1) + 1 ≡ q = omega (arith, l) in
    let whole : (q - 1) * counts k q k + 1 ≡ q ^ k = counts_are k q k ∙ binomial (q - 1) k ∙ ap (λ n. n ^ k) same in
    let less : (q - 1) * counts k q k ≡ q ^ k - 1 = omega (arith, whole) in
    sym (mul-div_cancel_left (counts k q k) (omega (arith, l))) ∙ ap (λ n. n / (q - 1)) less

pub blocks_few : (c : ℕ) → (c + 4095) / 4096 ≤ c
blocks_few zero = omega arith
blocks_few (suc c) = div-le_of_le-mul 4096 (omega arith)

pub blocks_fewer : (c : ℕ) → 2 ≤ c → (c + 4095) / 4096 < c
blocks_fewer c l = div_below (c + 4095) 4096 c (omega arith) (omega (arith, l))

counts_more : (k q e : ℕ) → counts k q (suc e) ≡ counts k q e + message_count k q (e + 1)
unfolding counts
counts_more k q e = let f : suc e ≡ e + 1 = omega arith in ap (λ w. counts k q e + message_count k q w) f

counts_of : (k q m e : ℕ) → m * counts k q (suc e) ≡ m * counts k q e + m * message_count k q (e + 1)
counts_of k q m e = spread m (counts k q (suc e)) (counts k q e) (message_count k q (e + 1)) (counts_more k q e)
  where
    spread : (m a b c : ℕ) → a ≡ b + c → m * a ≡ m * b + m * c
    spread m a b c e = omega (arith, ap (λ x. m * x) e)

pub plan_few : (k q m e : ℕ) → blocks_before k q m (e * m) ≤ m * counts k q e
plan_few k q m zero =
    let z : 0 * m ≡ 0 = omega arith in
    omega (arith, ap (blocks_before k q m) z, no_blocks k q m)
plan_few k q m (suc e) =
    let next : suc e * m ≡ (e + 1) * m = omega arith in
    let level : level_blocks k q (e + 1) ≤ message_count k q (e + 1) = omega (arith, blocks_of k q (e + 1), blocks_few (message_count k q (e + 1))) in
    let more = mul-le-mul_left m level in
    omega (arith, ap (blocks_before k q m) next, next_level k q m e, plan_few k q m e, more, counts_of k q m e)

level_one : (k q : ℕ) → message_count k q 1 ≡ k
level_one k q = count_is k q 0 ∙ ap (λ p. choose k 1 * p) (pow-zero (q - 1)) ∙ omega (arith, choose_one k)

pub plan_fewer : (k q m e : ℕ) → 0 < m → 2 ≤ k → blocks_before k q m (suc e * m) < m * counts k q (suc e)
plan_fewer k q m zero some many =
    let next : suc 0 * m ≡ (0 + 1) * m = omega arith in
    let z : 0 * m ≡ 0 = omega arith in
    let fewer = blocks_fewer (message_count k q (0 + 1)) (omega (arith, level_one k q, many)) in
    let level : level_blocks k q (0 + 1) + 1 ≤ message_count k q (0 + 1) = omega (arith, blocks_of k q (0 + 1), fewer) in
    let more : m * (level_blocks k q (0 + 1) + 1) ≤ m * message_count k q (0 + 1) = mul-le-mul_left m level in
    omega (arith, ap (blocks_before k q m) next, next_level k q m 0, ap (blocks_before k q m) z, no_blocks k q m, more, counts_of k q m 0, no_counts k q, some)
plan_fewer k q m (suc e) some many =
    let next : suc (suc e) * m ≡ (suc e + 1) * m = omega arith in
    let level : level_blocks k q (suc e + 1) ≤ message_count k q (suc e + 1) = omega (arith, blocks_of k q (suc e + 1), blocks_few (message_count k q (suc e + 1))) in
    let more = mul-le-mul_left m level in
    omega (arith, ap (blocks_before k q m) next, next_level k q m (suc e), plan_fewer k q m e some many, more, counts_of k q m (suc e))

sets_few : (f : FieldName) (n : ℕ) (rows : List (List ℕ)) (used : List ℕ) (most : ℕ) → length (sets_after f n rows used most) ≤ most
unfolding sets_after
sets_few f n rows used zero = omega arith
sets_few f n rows used (suc most) =
    let s = next_set f n rows used in
    let goal = λ (b : Bool). length (cond b (s ∷ sets_after f n rows (used ++ s.fresh) most) []) ≤ suc most in
    ⊎_elim
    (λ t. subst goal (sym t) (omega (arith, sets_few f n rows (used ++ s.fresh) most)))
    (λ t. subst goal (sym t) (omega arith))
    (cases_Bool (nat_le (length rows) (2 * length s.fresh)))

pub set_count_few : (C : Matrix) → set_count C ≤ suc C.columns
unfolding set_count sets_of information_sets
set_count_few C = omega (arith, sets_few C.field C.columns C.rows (next_set C.field C.columns C.rows []).fresh C.columns)

-- the plan ends below the cut, within a budget of as many blocks as there are messages
pub plan_within : (C : Matrix) (budget : ℕ) → 0 < length C.rows → C.columns ≤ 255 → budget ≤ 2 ^ 40 → set_count C * ((size C.field ^ length C.rows - 1) / (size C.field - 1)) ≤ budget → (plan_end C < cut) × (plan_end C ≤ budget)
plan_within C budget rows short small enough =
    let k = length C.rows in
    let q = size C.field in
    let m = set_count C in
    let all : m * counts k q k ≤ budget = subst (λ n. m * n ≤ budget) (sym (all_counts k q (one_inside C.field))) enough in
    let few = plan_few k q m k in
    let same : suc (k - 1) ≡ k = omega (arith, rows) in
    ⊎_elim
    (λ many.
    let less : blocks_before k q m (k * m) < m * counts k q k = subst (λ n. blocks_before k q m (n * m) < m * counts k q n) same (plan_fewer k q m (k - 1) (some_set C) many) in
    (omega (arith, less, all, small, cut_is), omega (arith, few, all)))
    (λ one.
    let single : k ≡ 1 = omega (arith, one, rows) in
    let count : counts k q k ≡ 1 = ap (counts k q) single ∙ omega (arith, counts_more k q 0, no_counts k q, level_one k q, single) in
    let sets : m * counts k q k ≡ m = ap (λ c. m * c) count ∙ omega arith in
    (omega (arith, few, sets, set_count_few C, short, cut_is), omega (arith, few, all)))
    (cases_lt 1 k)

pub whole_budget : (d : ℕ) (C : Matrix) (budget : ℕ) → 0 < length C.rows → C.columns ≤ 255 → budget ≤ 2 ^ 40 → set_count C * ((size C.field ^ length C.rows - 1) / (size C.field - 1)) ≤ budget → (x : Found) × (l : ℕ) × (answer d C budget ≡ exact x l)
whole_budget d C budget rows short small enough =
    let p = plan_within C budget rows short small enough in
    let t = first_done d C budget (plan_end C) (in_list C budget (plan_end C) (end_listed C rows (some_set C) p.0) p.1) (end_done d C rows (some_set C) p.0) in
    (best C (set_count C) t.0, t.0, answer_is d C budget rows ∙ ap (answer_at d C budget) t.1 ∙ exact_is d C budget t.0)

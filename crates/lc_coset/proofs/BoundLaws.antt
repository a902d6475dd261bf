-- The bound at the beginning of a phase, and when a search is done there.
--   done_number C p j          how many levels of a set are done at the beginning of a phase
--   sum_none, sum_more, sum_all      the bound, set by set
--   few_phases                 there are few phases
--   done_by_bound              a search is done if the bound has reached the best distance
--   done_whole                 it is done if all levels of the first set are
--   not_done                   it isn't if neither is so
--   same_levels                at a budget within a phase the same levels are done as at its beginning
use Rattle.std.proofs.Common.{◌≡◌, ℕ, suc, ◌+◌, ◌-◌, ◌*◌, ◌/◌, ◌^◌, ◌<◌, ◌≤◌, Bool, true, false, nat_le, nat_lt, ◌&&◌, List, [], ◌∷◌, ◌++◌, length, map, Contains, refl, sym, ap, ap₂, subst, ◌∙◌, ⊎_elim, arith}
use Rattle.std.proofs.Math.Nat.{mul-le-mul_right}
use Rattle.std.proofs.lemmas.Nat.{div_below, div-mul-add}
use Rattle.std.proofs.lemmas.Bool.{cases_Bool, cases_lt, le-leb}
use Rattle.std.proofs.lemmas.Bool.Decides.{nat_tests}
use Rattle.std.proofs.lemmas.List.{length-map, map-append}
use Rattle.lc_algebra.specs.Field.{size}
use Rattle.lc_algebra.specs.Span.{below}
use Rattle.lc_algebra.specs.Matrix.{Matrix}
use Rattle.lc_algebra.proofs.SpanLaws.{contains_below, below_contains, contains_map, map_contains}
use Rattle.lc_enumeration.specs.InformationSet.{is_member}
use Rattle.lc_enumeration.specs.Plan.{cut}
use Rattle.lc_enumeration.specs.Search.{set_count, ranks_of}
use Rattle.lc_enumeration.specs.NearWord.{coset_phases, is_coset_level_done, levels_done, near_sum, near_bound, near_best, is_near_done}
use Rattle.lc_enumeration.proofs.PlanLaws.{cut_is}
use Rattle.lc_enumeration.proofs.MemberLaws.{true_member, member_true}
use Rattle.lc_enumeration.proofs.DependentLaws.{map_same}
use Rattle.lc_infoset.specs.Bound.{set_at}
use Rattle.lc_infoset.proofs.AnswerLaws.{some_set, last_that_same}
use Rattle.lc_coset_laws.proofs.PhaseLaws.{blocks_least}
use Rattle.lc_coset_laws.proofs.PlaceLaws.{before_of}
use Rattle.lc_coset_laws.proofs.SeenLaws.{done_of, phases_are}
use Rattle.lc_coset_laws.proofs.NearLaws.{set_rank, levels_done_are, fresh_ranks}
use Rattle.lc_coset_laws.proofs.NearAnswers.{is_near_is, level_test, near_bound_whole, near_bound_open}
use Rattle.lc_coset_laws.proofs.LoopLaws.{done_at}

abbrev pub done_number : Matrix → ℕ → ℕ → ℕ
done_number C p j = (p + (set_count C - 1 - j)) / set_count C

-- the sum over the first sets
abbrev pub sum_to : Matrix → ℕ → ℕ → ℕ
sum_to C p j = near_sum (length C.rows) (map (set_rank C) (below j)) (map (done_number C p) (below j))

near_sum_push : (k r d : ℕ) (rs ds : List ℕ) → length rs ≡ length ds → near_sum k (rs ++ r ∷ []) (ds ++ d ∷ []) ≡ near_sum k rs ds + (d - (k - r))
unfolding near_sum
near_sum_push k r d [] [] e = omega arith
near_sum_push k r d [] (b ∷ ds) e = absurd (omega (arith, e))
near_sum_push k r d (a ∷ rs) [] e = absurd (omega (arith, e))
near_sum_push k r d (a ∷ rs) (b ∷ ds) e = omega (arith, near_sum_push k r d rs ds (omega (arith, e)))

below_push : (h : ℕ → ℕ) (j : ℕ) → map h (below (suc j)) ≡ map h (below j) ++ h j ∷ []
unfolding below
below_push h j = map-append h (below j) (j ∷ [])

pub sum_none : (C : Matrix) (p : ℕ) → 0 ≡ sum_to C p 0
unfolding near_sum below
sum_none C p = refl

pub sum_more : (C : Matrix) (p j sum part : ℕ) → sum ≡ sum_to C p j → part ≡ done_number C p j - (length C.rows - length (set_at C j).fresh) → sum + part ≡ sum_to C p (j + 1)
sum_more C p j sum part e f =
    let next : j + 1 ≡ suc j = omega arith in
    let push = near_sum_push (length C.rows) (set_rank C j) (done_number C p j) (map (set_rank C) (below j)) (map (done_number C p) (below j)) (length-map (below j) (set_rank C) ∙ sym (length-map (below j) (done_number C p))) in
    let all : sum_to C p (suc j) ≡ sum_to C p j + part = ap₂ (near_sum (length C.rows)) (below_push (set_rank C) j) (below_push (done_number C p) j) ∙ push ∙ ap (λ n. sum_to C p j + n) (sym f) in
    ap (λ n. n + part) e ∙ sym all ∙ ap (sum_to C p) (sym next)

numbers_done : (C : Matrix) (p : ℕ) → p ≤ coset_phases (length C.rows) (set_count C) → before_of C p < cut → levels_done C (before_of C p) ≡ map (done_number C p) (below (set_count C))
numbers_done C p within uncut = levels_done_are C (before_of C p) ∙ map_same (done_of C (before_of C p)) (done_number C p) (below (set_count C)) (λ j l. done_at C p j (contains_below (set_count C) j l) within uncut)

pub sum_all : (C : Matrix) (p j sum : ℕ) → p ≤ coset_phases (length C.rows) (set_count C) → before_of C p < 2 ^ 40 → j ≡ set_count C → sum ≡ sum_to C p j → sum ≡ near_sum (length C.rows) (ranks_of C) (levels_done C (before_of C p))
sum_all C p j sum within uncut e s =
    s ∙ ap (sum_to C p) e
    ∙ ap₂ (near_sum (length C.rows)) (fresh_ranks C) (sym (numbers_done C p within (omega (arith, uncut, cut_is))))

pub few_phases : (k m p : ℕ) → k ≤ 255 → m ≤ 255 → p ≤ coset_phases k m → p < 2 ^ 17
few_phases k m p few many l =
    let most : (k + 1) * m ≤ 256 * m = mul-le-mul_right m (omega (arith, few)) in
    omega (arith, most, many, l, phases_are k m)

pub done_by_bound : (C : Matrix) (x : List ℕ) (l : ℕ) → (near_best C x l).weight ≤ near_sum (length C.rows) (ranks_of C) (levels_done C l) → is_near_done C x l ≡ true
done_by_bound C x l few =
    is_near_is C x l ∙ le-leb (near_best C x l).weight (near_bound C x l)
    (⊎_elim
    (λ t. let e = near_bound_whole C x l t in omega (arith, e))
    (λ t. let e = near_bound_open C x l t in omega (arith, e, few))
    (cases_Bool (is_member (levels_done C l) (length C.rows + 1))))

-- all levels of the first set are done at the beginning of phase k m + 1
first_whole : (k m p : ℕ) → 0 < m → p ≡ k * m + 1 → (p + (m - 1 - 0)) / m ≡ k + 1
first_whole k m p some e =
    let next : p + (m - 1 - 0) ≡ (k + 1) * m + 0 = omega (arith, e, some) in
    ap (λ n. n / m) next ∙ div-mul-add (k + 1) m 0 some

pub done_whole : (C : Matrix) (x : List ℕ) (p : ℕ) → p ≡ length C.rows * set_count C + 1 → before_of C p < 2 ^ 40 → is_near_done C x (before_of C p) ≡ true
done_whole C x p e uncut =
    let k = length C.rows in
    let m = set_count C in
    let some = some_set C in
    let within : p ≤ coset_phases k m = omega (arith, e, phases_are k m, some) in
    let at : done_number C p 0 ≡ k + 1 = first_whole k m p some e in
    let there : Contains (levels_done C (before_of C p)) (k + 1) = subst (λ ls. Contains ls (k + 1)) (sym (numbers_done C p within (omega (arith, uncut, cut_is)))) (subst (Contains (map (done_number C p) (below m))) at (map_contains (done_number C p) (below m) 0 (below_contains m 0 some))) in
    let w = near_bound_whole C x (before_of C p) (member_true (levels_done C (before_of C p)) (k + 1) there) in
    is_near_is C x (before_of C p) ∙ le-leb (near_best C x (before_of C p)).weight (near_bound C x (before_of C p)) (omega (arith, w))

few_done : (k m p j : ℕ) → 0 < m → p ≤ k * m → (p + (m - 1 - j)) / m < k + 1
few_done k m p j some l = div_below (p + (m - 1 - j)) m (k + 1) some (omega (arith, l, some))

pub open_there : (C : Matrix) (p : ℕ) → p ≤ length C.rows * set_count C → before_of C p < 2 ^ 40 → is_member (levels_done C (before_of C p)) (length C.rows + 1) ≡ false
open_there C p l uncut =
    let k = length C.rows in
    let m = set_count C in
    let some = some_set C in
    let within : p ≤ coset_phases k m = omega (arith, l, phases_are k m) in
    ⊎_elim
    (λ t.
    let a = contains_map (done_number C p) (below m) (k + 1) (subst (λ ls. Contains ls (k + 1)) (numbers_done C p within (omega (arith, uncut, cut_is))) (true_member (levels_done C (before_of C p)) (k + 1) t)) in
    absurd (omega (arith, few_done k m p a.0 some l, a.2)))
    (λ t. t)
    (cases_Bool (is_member (levels_done C (before_of C p)) (k + 1)))

not_at_most : (a b : ℕ) → b < a → nat_le a b ≡ false
not_at_most a b l = grind (arith, nat_tests)

pub not_done : (C : Matrix) (x : List ℕ) (p : ℕ) → p ≤ length C.rows * set_count C → before_of C p < 2 ^ 40 → near_sum (length C.rows) (ranks_of C) (levels_done C (before_of C p)) < (near_best C x (before_of C p)).weight → is_near_done C x (before_of C p) ≡ false
not_done C x p l uncut low =
    let w = near_bound_open C x (before_of C p) (open_there C p l uncut) in
    is_near_is C x (before_of C p) ∙ not_at_most (near_best C x (before_of C p)).weight (near_bound C x (before_of C p)) (omega (arith, w, low))

-- a phase end beyond the budget, or at the cut
pub same_levels : (C : Matrix) (p budget : ℕ) → before_of C p ≤ budget → budget ≤ 2 ^ 40 → budget ≤ before_of C (suc p) → (before_of C (suc p) < 2 ^ 40 → budget < before_of C (suc p)) → levels_done C budget ≡ levels_done C (before_of C p)
same_levels C p budget from few to beyond =
    let k = length C.rows in
    let q = size C.field in
    let m = set_count C in
    levels_done_are C budget
    ∙ map_same (done_of C budget) (done_of C (before_of C p)) (below m) (λ j l.
    last_that_same (is_coset_level_done k q m budget j) (is_coset_level_done k q m (before_of C p) j) (k + 1) (λ n some most.
    level_test k q m budget j n ∙ same_test ((n - 1) * m + suc j) ∙ sym (level_test k q m (before_of C p) j n)))
    ∙ sym (levels_done_are C (before_of C p))
  where
    both_true : (a b c : ℕ) (t : Bool) → a ≤ b → a ≤ c → (nat_le a b && t) ≡ (nat_le a c && t)
    both_true a b c t l r = ap (λ u. u && t) (le-leb a b l ∙ sym (le-leb a c r))

    past_cut : (a b c d : ℕ) → d ≤ a → (nat_le a b && nat_lt a d) ≡ (nat_le a c && nat_lt a d)
    past_cut a b c d l = grind (arith, nat_tests, l)

    both_false : (a b c d : ℕ) → b < a → c < a → (nat_le a b && nat_lt a d) ≡ (nat_le a c && nat_lt a d)
    both_false a b c d l r = grind (arith, nat_tests, l, r)

    same_test : (t : ℕ) → (nat_le (before_of C t) budget && nat_lt (before_of C t) cut) ≡ (nat_le (before_of C t) (before_of C p) && nat_lt (before_of C t) cut)
    same_test t =
        ⊎_elim
        (λ less.
        let rise = blocks_least (length C.rows) (size C.field) (set_count C) (suc p) t less in
        ⊎_elim
        (λ uncut. both_false (before_of C t) budget (before_of C p) cut (omega (arith, beyond (omega (arith, uncut, rise)), rise)) (omega (arith, from, beyond (omega (arith, uncut, rise)), rise)))
        (λ past. past_cut (before_of C t) budget (before_of C p) cut (omega (arith, past, cut_is)))
        (cases_lt (before_of C t) (2 ^ 40)))
        (λ most.
        let rise = blocks_least (length C.rows) (size C.field) (set_count C) t p (omega (arith, most)) in
        both_true (before_of C t) budget (before_of C p) (nat_lt (before_of C t) cut) (omega (arith, rise, from)) rise)
        (cases_lt p t)

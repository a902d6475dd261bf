-- The bound of some levels.
--   rank_at           the ranks are the numbers of fresh columns
--   sum_taken                    a further set's part of the sum
--   sum_none, sum_more, sum_whole      the sum over the first sets, and over all
--   bound_made     the bound in the shape of the calls
--   not_whole, bound_is          no level is k, so that the bound is the rounded sum
use Rattle.std.proofs.Common.{◌≡◌, ℕ, zero, suc, ◌+◌, ◌-◌, ◌*◌, ◌/◌, ◌<◌, ◌≤◌, max, false, if◌then◌else◌, List, [], ◌∷◌, length, take, slice_index, All, refl, sym, ap, ◌∙◌, ⊎_elim, arith}
use Rattle.std.proofs.lemmas.Bool.{cases_Bool}
use Rattle.std.proofs.lemmas.List.{length-map, get_or-map, take_all}
use Rattle.std.proofs.lemmas.List.Elements.{All-contains}
use Rattle.lc_algebra.specs.Matrix.{Matrix}
use Rattle.lc_algebra.specs.Divisor.{rounded}
use Rattle.lc_algebra.proofs.DivisorLaws.{rounded_made}
use Rattle.lc_enumeration.specs.InformationSet.{InformationSet, is_member}
use Rattle.lc_enumeration.specs.Search.{sets_of, set_count, ranks_of, bound_sum, bound_of}
use Rattle.lc_enumeration.proofs.MemberLaws.{true_member}
use Rattle.lc_infoset.specs.Bound.{set_at}
use Rattle.lc_infoset.proofs.SetLaws.{count_is, ranks_are}

length_ranks : (C : Matrix) → length (ranks_of C) ≡ set_count C
length_ranks C = ap length (ranks_are C) ∙ length-map (sets_of C) (λ (s : InformationSet). length s.fresh) ∙ sym (count_is C)

rank_at : (C : Matrix) (j : ℕ) → j < set_count C → slice_index (ranks_of C) j ≡ length (set_at C j).fresh
rank_at C j l = ap (λ rs. slice_index rs j) (ranks_are C) ∙ get_or-map (λ (s : InformationSet). length s.fresh) (sets_of C) j (record { basis = []; fresh = [] }) 0 (omega (arith, l, count_is C))

sum_taken : (k j : ℕ) (ranks levels : List ℕ) → j < length ranks → j < length levels → bound_sum k (take (suc j) ranks) (take (suc j) levels) ≡ bound_sum k (take j ranks) (take j levels) + ((slice_index levels j + 1) - (k - slice_index ranks j))
unfolding bound_sum
sum_taken k j [] levels l m = absurd (omega (arith, l))
sum_taken k j (r ∷ ranks) [] l m = absurd (omega (arith, m))
sum_taken k zero (r ∷ ranks) (w ∷ levels) l m = omega arith
sum_taken k (suc j) (r ∷ ranks) (w ∷ levels) l m = omega (arith, sum_taken k j ranks levels (omega (arith, l)) (omega (arith, m)))

pub sum_none : (k : ℕ) → 0 ≡ bound_sum k [] []
unfolding bound_sum
sum_none k = refl

pub sum_more : (C : Matrix) (j part sum : ℕ) (levels : List ℕ) → length levels ≡ set_count C → j < length levels → sum ≡ bound_sum (length C.rows) (take j (ranks_of C)) (take j levels) → part ≡ (slice_index levels j + 1) - (length C.rows - length (set_at C j).fresh) → sum + part ≡ bound_sum (length C.rows) (take (j + 1) (ranks_of C)) (take (j + 1) levels)
sum_more C j part sum levels e l s p =
    let k = length C.rows in
    let inside : j < set_count C = omega (arith, l, e) in
    let next : j + 1 ≡ suc j = omega arith in
    let taken = sum_taken k j (ranks_of C) levels (omega (arith, inside, length_ranks C)) l in
    let rank = rank_at C j inside in
    let here : part ≡ (slice_index levels j + 1) - (k - slice_index (ranks_of C) j) = p ∙ ap (λ r. (slice_index levels j + 1) - (k - r)) (sym rank) in
    omega (arith, s, here, taken, ap (λ i. bound_sum k (take i (ranks_of C)) (take i levels)) next)

pub sum_whole : (C : Matrix) (j : ℕ) (levels : List ℕ) → length levels ≡ set_count C → length levels ≤ j → bound_sum (length C.rows) (take j (ranks_of C)) (take j levels) ≡ bound_sum (length C.rows) (ranks_of C) levels
sum_whole C j levels e l =
    ap (λ rs. bound_sum (length C.rows) rs (take j levels)) (take_all j (ranks_of C) (omega (arith, length_ranks C, e, l)))
    ∙ ap (bound_sum (length C.rows) (ranks_of C)) (take_all j levels l)

not_whole : (k : ℕ) (levels : List ℕ) → All (λ w. w < k) levels → is_member levels k ≡ false
not_whole k levels h = ⊎_elim (λ t. absurd (omega (arith, All-contains (λ w. w < k) levels k h (true_member levels k t)))) (λ t. t) (cases_Bool (is_member levels k))

pub bound_is : (d k : ℕ) (ranks levels : List ℕ) (weight : ℕ) → All (λ w. w < k) levels → bound_of d k ranks levels weight ≡ rounded d (max 1 (bound_sum k ranks levels))
unfolding bound_of
bound_is d k ranks levels weight h = ap (λ b. if b then weight else rounded d (max 1 (bound_sum k ranks levels))) (not_whole k levels h)

pub bound_made : (d k : ℕ) (ranks levels : List ℕ) (s r : ℕ) → All (λ w. w < k) levels → s ≡ bound_sum k ranks levels → r ≡ (max s 1 + (d - 1)) / d * d → (weight : ℕ) → bound_of d k ranks levels weight ≡ r
bound_made d k ranks levels s r h e q weight = bound_is d k ranks levels weight h ∙ sym (rounded_made d s (bound_sum k ranks levels) r e q)

pub ruleset bound_laws = (rounded_made, bound_made)

pub ruleset sum_of_laws = (sum_none, sum_more, sum_whole)

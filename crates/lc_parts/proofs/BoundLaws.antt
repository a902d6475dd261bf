-- The bound by the level and the set of the phase of the next block.
--   sum_none, sum_more, sum_whole      the sum over the first sets, and over all
--   bound_open, bound_whole            the bound if no level is k, and if one is
use Rattle.std.proofs.Common.{◌≡◌, ℕ, suc, ◌+◌, ◌-◌, ◌*◌, ◌/◌, ◌<◌, ◌≤◌, max, true, false, cond, ◌⊎◌, if◌then◌else◌, List, [], ◌∷◌, ◌++◌, length, map, take, slice_index, Contains, refl, ap, ap₂, subst, ◌∙◌, ⊎_elim, arith}
use Rattle.std.proofs.Math.Seq.{take-suc}
use Rattle.std.proofs.lemmas.Bool.{cases_Bool, cases_lt, lt-ltb, le-ltb}
use Rattle.std.proofs.lemmas.List.{map-append, length-map, length-take-le, take_all}
use Rattle.lc_algebra.specs.Span.{below}
use Rattle.lc_algebra.specs.Divisor.{rounded}
use Rattle.lc_algebra.proofs.SpanLaws.{length_below, contains_map, map_contains, below_contains}
use Rattle.lc_enumeration.specs.InformationSet.{is_member}
use Rattle.lc_enumeration.specs.Search.{bound_sum, bound_of}
use Rattle.lc_enumeration.proofs.MemberLaws.{member_true, true_member}
use Rattle.lc_parts.specs.Part.{Facts}
use Rattle.lc_parts.specs.Along.{set_number}
use Rattle.lc_parts.specs.Levels.{level_in, levels_in, bound_in}

sum_app : (k : ℕ) (rs ws : List ℕ) (r w : ℕ) → length rs ≡ length ws → bound_sum k (rs ++ r ∷ []) (ws ++ w ∷ []) ≡ bound_sum k rs ws + ((w + 1) - (k - r))
unfolding bound_sum
sum_app k [] [] r w e = omega arith
sum_app k [] (v ∷ ws) r w e = absurd (omega (arith, e))
sum_app k (s ∷ rs) [] r w e = absurd (omega (arith, e))
sum_app k (s ∷ rs) (v ∷ ws) r w e = omega (arith, sum_app k rs ws r w (omega (arith, e)))

below_more : (n : ℕ) → below (suc n) ≡ below n ++ n ∷ []
unfolding below
below_more n = refl

abbrev pub summed : ℕ → List ℕ → (ℕ → ℕ) → ℕ → ℕ
summed k ranks g j = bound_sum k (take j ranks) (map g (below j))

pub sum_none : (k : ℕ) (ranks : List ℕ) (g : ℕ → ℕ) → 0 ≡ summed k ranks g 0
unfolding bound_sum below
sum_none k ranks g = refl

sum_next : (k : ℕ) (ranks : List ℕ) (g : ℕ → ℕ) (j : ℕ) → j < length ranks → summed k ranks g (suc j) ≡ summed k ranks g j + ((g j + 1) - (k - slice_index ranks j))
sum_next k ranks g j inside =
    let count : length (take j ranks) ≡ length (map g (below j)) = omega (arith, length-take-le j ranks (omega (arith, inside)), length-map (below j) g, length_below j) in
    ap₂ (bound_sum k) (take-suc ranks j 0 inside) (ap (map g) (below_more j) ∙ map-append g (below j) (j ∷ []))
    ∙ sum_app k (take j ranks) (map g (below j)) (slice_index ranks j) (g j) count

pub sum_more : (k : ℕ) (ranks : List ℕ) (level set j part sum : ℕ) → j < length ranks → sum ≡ summed k ranks (level_in level set) j → part ≡ (level_in level set j + 1) - (k - slice_index ranks j) → sum + part ≡ summed k ranks (level_in level set) (j + 1)
sum_more k ranks level set j part sum inside s p =
    let next : suc j ≡ j + 1 = omega arith in
    omega (arith, s, p, sum_next k ranks (level_in level set) j inside, ap (summed k ranks (level_in level set)) next)

pub sum_whole : (k : ℕ) (ranks : List ℕ) (level set n : ℕ) → n ≡ length ranks → summed k ranks (level_in level set) n ≡ bound_sum k ranks (levels_in level set n)
sum_whole k ranks level set n e = ap (λ rs. bound_sum k rs (map (level_in level set) (below n))) (take_all n ranks (omega (arith, e)))

-- no level is k
not_whole : (level set k m : ℕ) → 1 ≤ level → level ≤ k → (level < k ⊎ (set ≡ 0)) → is_member (levels_in level set m) k ≡ false
not_whole level set k m some few open_still =
    ⊎_elim
    (λ (t : is_member (levels_in level set m) k ≡ true).
    let s = contains_map (level_in level set) (below m) k (true_member (levels_in level set m) k t) in
    absurd (⊎_elim
    (λ less. let e = ap (λ b. cond b level (level - 1)) (lt-ltb s.0 set less) in ⊎_elim (λ l. omega (arith, s.2, e, l)) (λ z. omega (arith, less, z)) open_still)
    (λ above. let e = ap (λ b. cond b level (level - 1)) (le-ltb s.0 set above) in omega (arith, s.2, e, some, few))
    (cases_lt s.0 set)))
    (λ t. t)
    (cases_Bool (is_member (levels_in level set m) k))

bound_of_is : (d k : ℕ) (ranks levels : List ℕ) (weight : ℕ) → bound_of d k ranks levels weight ≡ (if is_member levels k then weight else rounded d (max 1 (bound_sum k ranks levels)))
unfolding bound_of
bound_of_is d k ranks levels weight = refl

pub bound_whole : (f : Facts) (level set weight : ℕ) → level ≡ f.k → 0 < set → set < set_number f → bound_in f level set weight ≡ weight
bound_whole f level set weight e some inside =
    let first : level_in level set 0 ≡ f.k = ap (λ b. cond b level (level - 1)) (lt-ltb 0 set some) ∙ e in
    let there = subst (Contains (levels_in level set (set_number f))) first (map_contains (level_in level set) (below (set_number f)) 0 (below_contains (set_number f) 0 (omega (arith, inside)))) in
    bound_of_is f.divisor f.k f.ranks (levels_in level set (set_number f)) weight
    ∙ ap (λ b. if b then weight else rounded f.divisor (max 1 (bound_sum f.k f.ranks (levels_in level set (set_number f))))) (member_true (levels_in level set (set_number f)) f.k there)

made : (d s : ℕ) → rounded d s ≡ (s + (d - 1)) / d * d
unfolding rounded
made d s = refl

pub bound_open : (f : Facts) (level set weight s : ℕ) → 1 ≤ level → level ≤ f.k → (level < f.k ⊎ (set ≡ 0)) → s ≡ bound_sum f.k f.ranks (levels_in level set (set_number f)) → bound_in f level set weight ≡ (max s 1 + (f.divisor - 1)) / f.divisor * f.divisor
bound_open f level set weight s some few open_still e =
    let levels = levels_in level set (set_number f) in
    let turned : max 1 (bound_sum f.k f.ranks levels) ≡ max s 1 = omega (arith, e) in
    bound_of_is f.divisor f.k f.ranks levels weight
    ∙ ap (λ b. if b then weight else rounded f.divisor (max 1 (bound_sum f.k f.ranks levels))) (not_whole level set f.k (set_number f) some few open_still)
    ∙ ap (rounded f.divisor) turned ∙ made f.divisor (max s 1)

pub ruleset sum_laws = (sum_none, sum_more, sum_whole)

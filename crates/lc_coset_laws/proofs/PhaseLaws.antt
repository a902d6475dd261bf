-- The blocks of the phases of a search for a nearest word.
--   no_blocks, blocks_next, level_blocks_are      the blocks before a phase
--   blocks_rise, blocks_least  they are no fewer than those before an earlier one
--   level_of_phase, set_of_phase      the level and the set of a phase
--   set_inside                 the set of a phase is one of the sets
--   coset_phase_is             the phase of a block is found
use Rattle.std.proofs.Common.{◌≡◌, ℕ, zero, suc, ◌+◌, ◌-◌, ◌*◌, ◌/◌, ◌<◌, ◌≤◌, min, ◌&&◌, nat_le, nat_lt, Some, refl, ⊎_elim, arith}
use Rattle.std.proofs.lemmas.Bool.{cases_lt, and_from, and_parts, leb-true, ltb-true, le-leb, lt-ltb}
use Rattle.std.proofs.lemmas.Nat.{div-mul-add, mod-mul-add}
use Rattle.std.proofs.Math.Nat.{mod-lt}
use Rattle.lc_algebra.specs.Span.{below}
use Rattle.lc_algebra.proofs.SpanLaws.{below_contains}
use Rattle.lc_enumeration.specs.Plan.{cut}
use Rattle.lc_enumeration.specs.NearWord.{pattern_count, coset_level, coset_set, coset_level_blocks, coset_blocks_before, coset_phases, coset_phase}
use Rattle.lc_enumeration.proofs.PlanLaws.{find_only}

pub no_blocks : (k q m : ℕ) → coset_blocks_before k q m 0 ≡ 0
unfolding coset_blocks_before
no_blocks k q m = refl

pub blocks_next : (k q m p : ℕ) → coset_blocks_before k q m (suc p) ≡ coset_blocks_before k q m p + coset_level_blocks k q (coset_level m p)
unfolding coset_blocks_before
blocks_next k q m p = refl

pub level_blocks_are : (k q w : ℕ) → coset_level_blocks k q w ≡ (pattern_count k q w + 4095) / 4096
unfolding coset_level_blocks
level_blocks_are k q w = refl

pub blocks_rise : (k q m p j : ℕ) → coset_blocks_before k q m p ≤ coset_blocks_before k q m (p + j)
blocks_rise k q m p zero = let f : p + 0 ≡ p = omega arith in rw f (omega arith)
blocks_rise k q m p (suc j) = let f : p + suc j ≡ suc (p + j) = omega arith in rw f (omega (arith, blocks_rise k q m p j, blocks_next k q m (p + j)))

pub blocks_least : (k q m p r : ℕ) → p ≤ r → coset_blocks_before k q m p ≤ coset_blocks_before k q m r
blocks_least k q m p r l = let e : p + (r - p) ≡ r = omega (arith, l) in rw e at (blocks_rise k q m p (r - p))

pub level_of_phase : (m e j : ℕ) → j < m → coset_level m (e * m + j) ≡ e
unfolding coset_level
level_of_phase m e j l = div-mul-add e m j l

pub set_of_phase : (m e j : ℕ) → j < m → coset_set m (e * m + j) ≡ j
unfolding coset_set
set_of_phase m e j l = mod-mul-add e m j l

pub set_inside : (m p : ℕ) → 0 < m → coset_set m p < m
unfolding coset_set
set_inside m p l = mod-lt p l

not_later : (k q m p r b : ℕ) → b < coset_blocks_before k q m (suc p) → coset_blocks_before k q m r ≤ b → p < r → ⊥
not_later k q m p r b before after l = omega (arith, before, after, blocks_least k q m (suc p) r l)

one_phase : (k q m p r b : ℕ) → coset_blocks_before k q m p ≤ b → b < coset_blocks_before k q m (suc p) → coset_blocks_before k q m r ≤ b → b < coset_blocks_before k q m (suc r) → r ≡ p
one_phase k q m p r b from to after before =
    ⊎_elim
    (λ l. absurd (not_later k q m p r b to after l))
    (λ l. ⊎_elim (λ n. absurd (not_later k q m r p b before from n)) (λ n. omega (arith, l, n)) (cases_lt r p))
    (cases_lt p r)

pub coset_phase_is : (k q m p b : ℕ) → p < coset_phases k m → coset_blocks_before k q m p ≤ b → b < coset_blocks_before k q m (suc p) → b < cut → coset_phase k q m b ≡ Some p
unfolding coset_phase
coset_phase_is k q m p b inside from to uncut =
    find_only (λ r. nat_le (coset_blocks_before k q m r) b && nat_lt b (min (coset_blocks_before k q m (suc r)) cut)) (below (coset_phases k m)) p
    (below_contains (coset_phases k m) p inside)
    (and_from (nat_le (coset_blocks_before k q m p) b) (nat_lt b (min (coset_blocks_before k q m (suc p)) cut)) (le-leb (coset_blocks_before k q m p) b from) (lt-ltb b (min (coset_blocks_before k q m (suc p)) cut) (omega (arith, to, uncut))))
    (λ r l t.
    let a = and_parts (nat_le (coset_blocks_before k q m r) b) (nat_lt b (min (coset_blocks_before k q m (suc r)) cut)) t in
    let end = ltb-true b (min (coset_blocks_before k q m (suc r)) cut) a.1 in
    one_phase k q m p r b from to (leb-true (coset_blocks_before k q m r) b a.0) (omega (arith, end)))

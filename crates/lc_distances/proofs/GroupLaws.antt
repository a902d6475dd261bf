-- How many heads are looked at together.
--   group_small, group_middle, group_large      8 heads, 2 and one
use Rattle.std.proofs.Common.{◌≡◌, ℕ, ◌<◌, ◌≤◌, arith}
use Rattle.std.proofs.lemmas.Bool.Decides.{nat_tests}
use Rattle.lc_distances.specs.Halves.{group_heads}

pub group_small : (t : ℕ) → t ≤ 16 → 8 ≡ group_heads t
group_small t l = grind (arith, nat_tests, l)

pub group_middle : (t : ℕ) → 16 < t → t < 100 → 2 ≡ group_heads t
group_middle t l m = grind (arith, nat_tests, l, m)

pub group_large : (t : ℕ) → 100 ≤ t → 1 ≡ group_heads t
group_large t l = grind (arith, nat_tests, l)

pub ruleset group_laws = (group_small, group_middle, group_large)

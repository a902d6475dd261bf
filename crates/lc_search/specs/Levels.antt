-- The phases that are done after some blocks.
--   IsOpenAt k q m l p      p is the first phase that doesn't lie wholly below l: all before it do, and no other does
use Rattle.std.specs.Prelude.{ℕ, suc, ◌*◌, ◌<◌, ◌≤◌, ◌⊎◌}
use Rattle.lc_enumeration.specs.Plan.{cut, blocks_before}

pub record IsOpenAt (k q m l p : ℕ) : Type 0 where
  pub whole : (r : ℕ) → r < p → (blocks_before k q m (suc r) ≤ l) × (blocks_before k q m (suc r) < cut)
  pub others : (r : ℕ) → p ≤ r → r < k * m → (l < blocks_before k q m (suc r)) ⊎ (cut ≤ blocks_before k q m (suc r))

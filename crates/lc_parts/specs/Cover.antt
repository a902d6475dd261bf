-- Parts that have all blocks below a number, in any order.
--   IsCovered parts b            some part has the block
--   Covers parts l               they have each block below l, and none of them ends after l
use Rattle.std.specs.Prelude.{ℕ, ◌<◌, ◌≤◌, List, All, Contains}
use Rattle.lc_parts.specs.Part.{Part, part_end}

abbrev pub IsCovered : List Part → ℕ → Type 0
IsCovered parts b = (p : Part) × Contains parts p × (p.start ≤ b) × (b < part_end p)

pub record Covers (parts : List Part) (l : ℕ) : Type 0 where
  pub each : (b : ℕ) → b < l → IsCovered parts b
  pub within : All (λ p. part_end p ≤ l) parts

-- When a checkpoint is true, where a session starts that resumes it, and whether its records fit. Needs are the codes of the
-- script's queries that search, in order.
--   divisor_in version C         the divisor with which sessions that wrote this version searched: 1 for version 1
--   whole_start p                the start from all records of the checkpoint
--   turn_allowance version       by how much the turn may exceed the number of blocks: 0 for version 1, 2^57 for version 2
--   IsTrueFor needs digest budget p      a checkpoint as a session of a chain writes it
--   start_of needs p             the start from the records that are used
--   misfit_of needs budget p     the first used record that doesn't fit its need, or that there are more records than needs
use Rattle.std.specs.Prelude.{◌≡◌, ℕ, ◌+◌, ◌^◌, ◌<◌, ◌≤◌, ◌⊎◌, ◌==◌, if◌then◌else◌, List, map, sum, Option, Some}
use Rattle.lc_algebra.specs.Matrix.{Matrix}
use Rattle.lc_algebra.specs.Divisor.{divisor_of}
use Rattle.lc_enumeration.specs.Records.{Start}
use Rattle.lc_enumeration.specs.Fitting.{used_start, Misfit, misfit}
use Rattle.lc_enumeration.specs.Truth.{IsTrueStart}
use Rattle.lc_formats.specs.Checkpoint.{Checkpoint, current_of}

unfoldable pub divisor_in : ℕ → Matrix → ℕ
divisor_in version C = (if version == 1 then 1 else divisor_of C)

unfoldable pub whole_start : Checkpoint → Start
whole_start p = record { settled = p.settled; current = Some (current_of p) }

unfoldable pub turn_allowance : ℕ → ℕ
turn_allowance version = (if version == 1 then 0 else 2 ^ 57)

-- its records are those of true searches, the one of the current need included, of which a block at least is done
pub record IsTrueFor (needs : List Matrix) (digest : List ℕ) (budget : ℕ) (p : Checkpoint) : Type 0 where
  pub known : (p.version ≡ 1) ⊎ (p.version ≡ 2)
  pub script : p.script ≡ digest
  pub budget_is : p.budget ≡ budget
  pub start : IsTrueStart (divisor_in p.version) needs budget (whole_start p)
  pub begun : 1 ≤ p.blocks
  pub turn : p.turn < p.blocks + sum (map (λ s. s.blocks) p.settled) + turn_allowance p.version

unfoldable pub start_of : List Matrix → Checkpoint → Start
start_of needs p = used_start divisor_of needs p.version p.settled (current_of p)

unfoldable pub misfit_of : List Matrix → ℕ → Checkpoint → Option Misfit
misfit_of needs budget p = misfit divisor_of needs budget (start_of needs p)

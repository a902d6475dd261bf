-- A plan and a spot in it, as contracts see them.
--   PlanSize              a plan: the dimension k, the size q of the field, the number m of information sets
--   SpotState             a spot: its set, the support and the coefficients of its message, and its room
--   spot_message s        the message of a spot
--   IsFirstChange s t i   i is the least index at which the supports or the coefficients of two spots differ
--   plan_phase p          a phase of the program, as the phases of the definitions are written
use Rattle.std.specs.Prelude.{◌≡◌, ◌≢◌, ◌⊎◌, ℕ, ◌<◌, List, length, take, slice_index}
use Rattle.lc_enumeration.specs.Message.{Message}
use Rattle.lc_enumeration.specs.Plan.{PlanPhase}
use Rattle.lc_place.specs.declared.phase.Phase.{Phase}

pub record PlanSize : Type 0 where
  pub k : ℕ
  pub q : ℕ
  pub m : ℕ

pub record SpotState : Type 0 where
  pub set : ℕ
  pub support : List ℕ
  pub coefficients : List ℕ
  pub room : ℕ

abbrev pub spot_message : SpotState → Message
spot_message s = record { support = s.support; coefficients = s.coefficients }

abbrev pub plan_phase : Phase → PlanPhase
plan_phase p = record { level = p.level; set = p.set; start = p.start; end = p.end }

pub record IsFirstChange (s t : SpotState) (i : ℕ) : Type 0 where
  pub inside : i < length s.support
  pub same_support : take i t.support ≡ take i s.support
  pub same_coefficients : take i t.coefficients ≡ take i s.coefficients
  pub changed : (slice_index t.support i ≢ slice_index s.support i) ⊎ (slice_index t.coefficients i ≢ slice_index s.coefficients i)

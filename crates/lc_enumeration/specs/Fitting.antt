-- Which records of a checkpoint a resumed session uses, and whether they fit the needs of the script.
--   first_divisible divisor needs      the index of the first need whose code has a divisor above 1; None if there is none
--   used_start divisor needs version settled current      where a session starts that resumes a checkpoint: at the current
--                           need. With a checkpoint of version 1 it starts anew at the first need whose code has a divisor
--                           above 1, if one of the records belongs to it, and uses the records before that alone
--   Misfit                  a need, the weight that its record tells and the weight of the word there; or how many needs
--                           there are, how many records, and 0
--   misfit divisor needs budget start      the first used record that doesn't fit its need; or that the records, the current
--                           one counted, are more than the needs; None if all fit
use Rattle.std.specs.Prelude.{ℕ, zero, suc, ◌+◌, nat_lt, ◌==◌, if◌then◌else◌, List, [], ◌∷◌, length, take, Option, Some, None, option_map}
use Rattle.lc_algebra.specs.Matrix.{Matrix}
use Rattle.lc_enumeration.specs.Search.{fits, fits_settled, weight_at}
use Rattle.lc_enumeration.specs.Records.{Progress, found_of, Start}

unfoldable pub first_divisible : (Matrix → ℕ) → List Matrix → Option ℕ
first_divisible divisor [] = None
first_divisible divisor (C ∷ needs) = (if nat_lt 1 (divisor C) then Some 0 else option_map suc (first_divisible divisor needs))

unfoldable pub start_before : List Progress → Progress → Option ℕ → Start
start_before settled current None = record { settled = settled; current = Some current }
start_before settled current (Some i) = record { settled = take i settled; current = None }

unfoldable pub used_start : (Matrix → ℕ) → List Matrix → ℕ → List Progress → Progress → Start
used_start divisor needs version settled current = start_before settled current (if version == 1 then first_divisible divisor (take (suc (length settled)) needs) else None)

pub record Misfit : Type 0 where
  pub need : ℕ
  pub told : ℕ
  pub found : ℕ

unfoldable pub misfit_at : ℕ → Matrix → Progress → Misfit
misfit_at need C s = record { need = need; told = s.weight; found = weight_at C s.place }

unfoldable pub count_current : Option Progress → ℕ
count_current None = 0
count_current (Some s) = 1

-- so many needs are met, and the records that are left have none
unfoldable pub too_many : ℕ → ℕ → Option Misfit
too_many need zero = None
too_many need (suc more) = Some (record { need = need; told = need + suc more; found = 0 })

-- the needs from the one with this number on
unfoldable pub misfit_from : (Matrix → ℕ) → ℕ → List Matrix → ℕ → List Progress → Option Progress → Option Misfit
misfit_from divisor need [] budget settled current = too_many need (length settled + count_current current)
misfit_from divisor need (C ∷ needs) budget (s ∷ settled) current = (if fits_settled (divisor C) C budget s.blocks (found_of s) then misfit_from divisor (suc need) needs budget settled current else Some (misfit_at need C s))
misfit_from divisor need (C ∷ needs) budget [] (Some s) = (if fits C s.blocks (found_of s) then None else Some (misfit_at need C s))
misfit_from divisor need (C ∷ needs) budget [] None = None

unfoldable pub misfit : (Matrix → ℕ) → List Matrix → ℕ → Start → Option Misfit
misfit divisor needs budget start = misfit_from divisor 0 needs budget start.settled start.current

-- The arguments of the command line of `codes join`: join, and then there may be budget=N.
--   JoinOptions                  the budget that they ask for, or the index of the argument that is refused
--   budget_in arguments          the budget, 2^20 if there is no argument for it
--   join_options arguments       what the arguments ask for; else the index of the first argument that is wrong, or would have to be there
use Rattle.std.specs.Prelude.{ℕ, ◌^◌, not, nat_le, if◌then◌else◌, List, length, codes, Option, Some, None}
use Rattle.lc_formats.specs.Text.{same_bytes}
use Rattle.lc_share.specs.Asked.{word_at, value_in}

pub data JoinOptions : Type 0 where
  asked : ℕ → JoinOptions
  usage : ℕ → JoinOptions

unfoldable pub budget_in : List (List ℕ) → Option ℕ
budget_in arguments = (if nat_le (length arguments) 1 then Some (2 ^ 20) else value_in (codes "budget") 0 (2 ^ 40) (word_at arguments 1))

-- the budget, or the index of the argument that is wrong; there are so many arguments
unfoldable pub asked_by : ℕ → Option ℕ → JoinOptions
asked_by n None = usage 1
asked_by n (Some budget) = (if nat_le n 2 then asked budget else usage 2)

unfoldable pub join_options : List (List ℕ) → JoinOptions
join_options arguments = (if not (same_bytes (codes "join") (word_at arguments 0)) then usage 0 else asked_by (length arguments) (budget_in arguments))

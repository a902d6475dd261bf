-- The arguments of the command line of `codes part`: part from=A count=N, and then there may be workers=W.
--   PartAsked                       what they ask for: the first block, how many blocks, and how many workers
--   PartOptions                     that, or the index of the argument that is refused
--   word_at arguments i             the argument of an index; the empty one if there is none
--   value_in key low high argument  the number in key=number, if the argument is that, and the number is in this range
--   workers_in arguments            the number of workers, 1 if there is no argument for them
--   part_options arguments          what the arguments ask for; else the index of the first argument that is wrong, or would have to be there
use Rattle.std.specs.Prelude.{ℕ, ◌^◌, not, nat_le, ◌==◌, ◌&&◌, if◌then◌else◌, List, [], length, codes, slice_index_or, Option, Some, None}
use Rattle.std.specs.List.{list_any, before_first, after_first}
use Rattle.lc_formats.specs.Text.{same_bytes}
use Rattle.lc_session_rules.specs.Options.{number_within}

pub record PartAsked : Type 0 where
  pub start : ℕ
  pub count : ℕ
  pub workers : ℕ

pub data PartOptions : Type 0 where
  asked : PartAsked → PartOptions
  usage : ℕ → PartOptions

unfoldable pub word_at : List (List ℕ) → ℕ → List ℕ
word_at arguments i = slice_index_or arguments i []

unfoldable pub value_in : List ℕ → ℕ → ℕ → List ℕ → Option ℕ
value_in key low high argument = (if list_any (λ b. b == 61) argument && same_bytes key (before_first (λ b. b == 61) argument) then number_within low high (after_first (λ b. b == 61) argument) else None)

unfoldable pub workers_in : List (List ℕ) → Option ℕ
workers_in arguments = (if nat_le (length arguments) 3 then Some 1 else value_in (codes "workers") 1 256 (word_at arguments 3))

-- what the numbers ask for, or the index of the first that isn't there; there are so many arguments
unfoldable pub asked_by : ℕ → Option ℕ → Option ℕ → Option ℕ → PartOptions
asked_by n None count workers = usage 1
asked_by n (Some start) None workers = usage 2
asked_by n (Some start) (Some count) None = usage 3
asked_by n (Some start) (Some count) (Some workers) = (if nat_le n 4 then asked (record { start = start; count = count; workers = workers }) else usage 4)

unfoldable pub part_options : List (List ℕ) → PartOptions
part_options arguments =
    (if not (same_bytes (codes "part") (word_at arguments 0)) then usage 0 else
    asked_by (length arguments) (value_in (codes "from") 0 (2 ^ 40) (word_at arguments 1)) (value_in (codes "count") 1 (2 ^ 40) (word_at arguments 2)) (workers_in arguments))

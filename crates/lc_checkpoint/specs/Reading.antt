-- What the answers of a reader of checkpoints mean.
--   number_of_refusal e      the number of a refusal; 0 for want of memory, which has none
--   current_from blocks weight place      how far a search is, if the three numbers are there
--   current_in budget ms     how far the search of the current need is, by the members of a body
--   IsRefusedAs e read       the bytes are refused for this reason; nothing is said for want of memory
use Rattle.std.specs.Prelude.{◌≡◌, ℕ, ◌-◌, ◌^◌, ⊤, Option, option_map, option_and_then, codes}
use Rattle.serde_json.specs.Data.{Members}
use Rattle.lc_enumeration.specs.Records.{Progress}
use Rattle.lc_formats.specs.Json.{number_at}
use Rattle.lc_checkpoint.specs.declared.refusal.CheckpointRefusal.{CheckpointRefusal}
use Rattle.lc_checkpoint.specs.declared.refusal.CheckpointRefusal.TheVariants.{Damaged, Version, Shape, NoMemory}
use Rattle.lc_formats.specs.Checkpoint.{checkpoint_refusal_number, damaged, other_version, shape, ReadCheckpoint, refused, number_up_to}

unfoldable pub number_of_refusal : CheckpointRefusal → ℕ
number_of_refusal Damaged = checkpoint_refusal_number damaged
number_of_refusal (Version v) = checkpoint_refusal_number (other_version v)
number_of_refusal Shape = checkpoint_refusal_number shape
number_of_refusal NoMemory = 0

abbrev pub IsRefusedAs : CheckpointRefusal → ReadCheckpoint → Type 0
IsRefusedAs Damaged read = read ≡ refused damaged
IsRefusedAs (Version v) read = read ≡ refused (other_version v)
IsRefusedAs Shape read = read ≡ refused shape
IsRefusedAs NoMemory read = ⊤

-- how far the search is, from its three numbers
unfoldable pub current_from : Option ℕ → Option ℕ → Option ℕ → Option Progress
current_from blocks weight place = option_and_then (λ b. option_and_then (λ w. option_map (λ p. record { blocks = b; weight = w; place = p }) place) weight) blocks

unfoldable pub current_in : ℕ → Members → Option Progress
current_in budget ms =
    current_from (number_up_to 0 budget (number_at (codes "blocks") ms)) (number_up_to 1 255 (number_at (codes "weight") ms)) (number_up_to 0 (2 ^ 52 - 1) (number_at (codes "place") ms))

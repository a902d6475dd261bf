-- A block of a plan for the sets of a code.
--   words_in b          the words of its messages
--   IsSpotIn b n s      the spot is at its message n
--   IsLeastIn b v       v is the value of its least word on the board
use Rattle.std.specs.Prelude.{◌≡◌, ℕ, List, Some, option_map}
use Rattle.lc_enumeration.specs.Search.{block_words, block_least, board_value}
use Rattle.lc_place.specs.Place.{SpotState}
use Rattle.lc_kernel.specs.declared.block.Block.{Block}
use Rattle.lc_kernel.specs.Values.{IsSpotAt}

abbrev pub words_in : Block → List (List ℕ)
words_in b = block_words b.sets.now b.plan.now.m b.number

abbrev pub IsSpotIn : Block → ℕ → SpotState → Type 0
IsSpotIn b n s = IsSpotAt b.sets.now b.plan.now.m b.number n s

abbrev pub IsLeastIn : Block → ℕ → Type 0
IsLeastIn b v = option_map board_value (block_least b.sets.now b.plan.now.m b.number) ≡ Some v

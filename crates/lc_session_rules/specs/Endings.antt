-- How a session ends, its number and the line that the program writes of it.
--   Ending                 the ways in which a session ends, with what each tells
--   ending_number e        the number with which the program ends
--   ending_line e          the line on standard error; none if the whole text was written
use Rattle.std.specs.Prelude.{ℕ, List, [], ◌∷◌, ◌++◌, codes, decimal}
use Rattle.lc_formats.specs.Certificate.{Reason}

pub data Ending : Type 0 where
  done : ℕ → Ending  -- 1 if the last line is a fault line, else 0
  usage : ℕ → Ending  -- the index of the argument that is refused
  paused : ℕ → ℕ → Ending  -- a query and its blocks
  source_fault : Ending
  sink_fault : Ending
  vault_fault : ℕ → Ending  -- how many records were told
  no_memory : ℕ → Ending  -- how many records were told
  no_checkpoint : Ending
  damaged_checkpoint : Ending
  other_script : List ℕ → ℕ → Ending  -- the digest and the budget of the checkpoint
  rejected : Reason → Ending
  too_long : Ending
  unfit : ℕ → ℕ → ℕ → Ending  -- a need, the weight that its record tells, and the weight found

unfoldable pub ending_number : Ending → ℕ
ending_number (done n) = n
ending_number (usage i) = 2
ending_number (paused query blocks) = 3
ending_number source_fault = 4
ending_number sink_fault = 5
ending_number (vault_fault told) = 6
ending_number (no_memory told) = 7
ending_number no_checkpoint = 8
ending_number damaged_checkpoint = 9
ending_number (other_script script budget) = 10
ending_number (rejected reason) = 11
ending_number too_long = 12
ending_number (unfit query told found) = 13

unfoldable pub said : List ℕ → List ℕ
said text = codes "codes: " ++ text ++ 10 ∷ []

unfoldable pub ending_line : Ending → List ℕ
ending_line (done n) = []
ending_line (usage i) = said (codes "word " ++ decimal i ++ codes " refused")
ending_line (paused query blocks) = said (codes "paused at query " ++ decimal query ++ codes " blocks " ++ decimal blocks)
ending_line source_fault = said (codes "source fault")
ending_line sink_fault = said (codes "sink fault")
ending_line (vault_fault told) = said (codes "vault fault")
ending_line (no_memory told) = said (codes "no memory")
ending_line no_checkpoint = said (codes "no checkpoint")
ending_line damaged_checkpoint = said (codes "damaged checkpoint")
ending_line (other_script script budget) = said (codes "checkpoint of another script or budget")
ending_line (rejected reason) = said (codes "rejected")
ending_line too_long = said (codes "input too long")
ending_line (unfit query told found) = said (codes "checkpoint does not fit query " ++ decimal query)

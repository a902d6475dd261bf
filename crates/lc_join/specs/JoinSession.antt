-- What a session of `codes join` does, for every outside and every way in which it ends.
--   JoinEnding                   how a session ends; ending_number e is the number with which the program ends
--   ending_line e                the line of an ending, for standard error; nothing if the checkpoint was written
--   IsJoinSession arguments old new ending      the whole contract
use Rattle.std.specs.Prelude.{◌≡◌, ℕ, ◌+◌, List, [], ◌++◌, codes, decimal}
use Rattle.std.specs.Io.KnownBytes.{Appends}
use Rattle.lc_session_rules.specs.Endings.{said}
use Rattle.lc_io.specs.Outside.{HasRisen, GaveLess, GaveSome, AppendsPart}
use Rattle.lc_session_rules.specs.Session.{most_bytes, GaveTooMuch}
use Rattle.lc_share.specs.PartSession.{Ends, HasRead, IsSilent}
use Rattle.lc_join.specs.Asked.{JoinOptions, asked, usage, join_options}
use Rattle.lc_join.specs.Lines as lines
use Rattle.lc_join.specs.Lines.{lines_in}
use Rattle.lc_join.specs.Joining.{HasText, Lacks}

pub data JoinEnding : Type 0 where
  printed : JoinEnding
  refused : ℕ → JoinEnding  -- the index of the argument that is refused
  source_fault : JoinEnding
  sink_fault : JoinEnding
  no_memory : JoinEnding
  too_long : JoinEnding
  missing : ℕ → ℕ → JoinEnding  -- the first and the last of the blocks that are missing
  no_part : JoinEnding
  disagree : ℕ → ℕ → JoinEnding  -- the numbers of the lines

unfoldable pub ending_number : JoinEnding → ℕ
ending_number printed = 0
ending_number (refused i) = 2
ending_number source_fault = 4
ending_number sink_fault = 5
ending_number no_memory = 7
ending_number too_long = 12
ending_number (missing a b) = 14
ending_number no_part = 15
ending_number (disagree i j) = 16

unfoldable pub ending_line : JoinEnding → List ℕ
ending_line printed = []
ending_line (refused i) = said (codes "word " ++ decimal i ++ codes " refused")
ending_line source_fault = said (codes "source fault")
ending_line sink_fault = said (codes "sink fault")
ending_line no_memory = said (codes "no memory")
ending_line too_long = said (codes "input too long")
ending_line (missing a b) = said (codes "blocks " ++ decimal a ++ codes " to " ++ decimal b ++ codes " are missing")
ending_line no_part = said (codes "no such part")
ending_line (disagree i j) = said (codes "lines " ++ decimal i ++ codes " and " ++ decimal j ++ codes " disagree")

-- what is done under this budget, by the ending
abbrev pub EndsSo : ℕ → Ends → Ends → JoinEnding → Type 0
EndsSo budget old new printed =
    (bytes : List ℕ) × HasRead old new bytes × ((text : List ℕ) × HasText budget (lines_in bytes) text × Appends old.sink new.sink text × (new.sink_faults ≡ old.sink_faults))
EndsSo budget old new (refused i) = ⊥
EndsSo budget old new source_fault = IsSilent old new × GaveLess old.source new.source (most_bytes + 1) × HasRisen old.source_faults new.source_faults
EndsSo budget old new sink_fault =
    (bytes : List ℕ) × HasRead old new bytes × ((text : List ℕ) × HasText budget (lines_in bytes) text × AppendsPart old.sink new.sink text × HasRisen old.sink_faults new.sink_faults)
EndsSo budget old new no_memory = IsSilent old new × GaveSome old.source new.source (most_bytes + 1) × (new.source_faults ≡ old.source_faults)
EndsSo budget old new too_long = IsSilent old new × GaveTooMuch old.source new.source × (new.source_faults ≡ old.source_faults)
EndsSo budget old new (missing a b) = (bytes : List ℕ) × HasRead old new bytes × IsSilent old new × Lacks budget (lines_in bytes) a b
EndsSo budget old new no_part = (bytes : List ℕ) × HasRead old new bytes × IsSilent old new × (lines_in bytes ≡ [])
EndsSo budget old new (disagree i j) = (bytes : List ℕ) × HasRead old new bytes × IsSilent old new × lines.Disagree (lines_in bytes) i j

-- refused arguments end the session with their index, and then all is as it was
abbrev pub Does : JoinOptions → Ends → Ends → JoinEnding → Type 0
Does (usage i) old new ending = (new ≡ old) × (ending ≡ refused i)
Does (asked budget) old new ending = EndsSo budget old new ending

abbrev pub IsJoinSession : List (List ℕ) → Ends → Ends → JoinEnding → Type 0
IsJoinSession arguments old new ending = Does (join_options arguments) old new ending

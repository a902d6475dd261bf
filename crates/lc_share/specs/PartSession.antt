-- What a session of `codes part` does, for every outside and every way in which it ends.
--   Ends                     the source and the sink before or after a session: the bytes that the source has still to give and how
--                            often it failed, the bytes that the sink has taken and how often it failed
--   PartEnding               how a session ends; ending_number e is the number with which the program ends
--   IsPartText table bytes asked text      the line of a true part of the first need of a script
--   HasNoPart table bytes asked      the script has no need before its first fault, or the plan of its first need doesn't have
--                            all of these blocks
--   IsPartSession table arguments old new ending      the whole contract
use Rattle.std.specs.Prelude.{◌≡◌, ℕ, ◌⊎◌, ◌+◌, ◌<◌, ◌≤◌, List, [], ◌∷◌, length, Option}
use Rattle.std.specs.Io.KnownBytes.{Appends}
use Rattle.sha2.specs.Sha256.{sha256}
use Rattle.lc_algebra.specs.Field.{size}
use Rattle.lc_algebra.specs.Matrix.{Matrix}
use Rattle.lc_enumeration.specs.Plan.{total}
use Rattle.lc_enumeration.specs.Search.{set_count}
use Rattle.lc_formats.specs.Text.{line}
use Rattle.lc_language.specs.declared.Call.{Call}
use Rattle.lc_io.specs.Outside.{HasRisen, GaveLess, GaveSome, AppendsPart}
use Rattle.lc_session_rules.specs.Needs.{IsNeeds, MeetsFirst}
use Rattle.lc_session_rules.specs.Session.{most_bytes, WasRead, GaveTooMuch}
use Rattle.lc_parts.specs.Part.{Part, part_end, IsTruePart, facts_of}
use Rattle.lc_part_lines.specs.Line.{part_line}
use Rattle.lc_part_search.specs.Done.{IsInside}
use Rattle.lc_share.specs.Asked.{PartAsked, PartOptions, asked, usage, part_options}

pub record Ends : Type 0 where
  pub source : Option (List ℕ)
  pub source_faults : ℕ
  pub sink : Option (List ℕ)
  pub sink_faults : ℕ

pub data PartEnding : Type 0 where
  printed : PartEnding
  refused : ℕ → PartEnding  -- the index of the argument that is refused
  source_fault : PartEnding
  sink_fault : PartEnding
  no_memory : PartEnding
  too_long : PartEnding
  no_part : PartEnding

unfoldable pub ending_number : PartEnding → ℕ
ending_number printed = 0
ending_number (refused i) = 2
ending_number source_fault = 4
ending_number sink_fault = 5
ending_number no_memory = 7
ending_number too_long = 12
ending_number no_part = 15

pub record IsPartText (table : List Call) (bytes : List ℕ) (a : PartAsked) (text : List ℕ) : Type 0 where
  pub code : Matrix
  pub met : MeetsFirst table bytes (code ∷ [])
  pub some : 0 < length code.rows
  pub part : Part
  pub start_is : part.start ≡ a.start
  pub count_is : part.count ≡ a.count
  pub inside : part_end part ≤ total (length code.rows) (size code.field) (set_count code)
  pub is_true : IsTruePart code part
  pub printed : text ≡ line (part_line (record { script = sha256 bytes; facts = facts_of code; part = part }))

abbrev pub HasNoPart : List Call → List ℕ → PartAsked → Type 0
HasNoPart table bytes a = IsNeeds table bytes [] ⊎ ((code : Matrix) × MeetsFirst table bytes (code ∷ []) × ¬ IsInside code a.start a.count)

-- the source was read to its end, and didn't fail
pub record HasRead (old new : Ends) (bytes : List ℕ) : Type 0 where
  pub read : WasRead old.source new.source bytes
  pub faults : new.source_faults ≡ old.source_faults

pub record IsSilent (old new : Ends) : Type 0 where
  pub sink : new.sink ≡ old.sink
  pub faults : new.sink_faults ≡ old.sink_faults

-- what is done, by the ending
abbrev pub EndsSo : List Call → PartAsked → Ends → Ends → PartEnding → Type 0
EndsSo table a old new printed =
    (bytes : List ℕ) × HasRead old new bytes × ((text : List ℕ) × IsPartText table bytes a text × Appends old.sink new.sink text × (new.sink_faults ≡ old.sink_faults))
EndsSo table a old new (refused i) = ⊥
EndsSo table a old new source_fault = IsSilent old new × GaveLess old.source new.source (most_bytes + 1) × HasRisen old.source_faults new.source_faults
EndsSo table a old new sink_fault =
    (bytes : List ℕ) × HasRead old new bytes × ((text : List ℕ) × IsPartText table bytes a text × AppendsPart old.sink new.sink text × HasRisen old.sink_faults new.sink_faults)
EndsSo table a old new no_memory = IsSilent old new × GaveSome old.source new.source (most_bytes + 1) × (new.source_faults ≡ old.source_faults)
EndsSo table a old new too_long = IsSilent old new × GaveTooMuch old.source new.source × (new.source_faults ≡ old.source_faults)
EndsSo table a old new no_part = (bytes : List ℕ) × HasRead old new bytes × IsSilent old new × HasNoPart table bytes a

-- refused arguments end the session with their index, and then all is as it was
abbrev pub Does : PartOptions → List Call → Ends → Ends → PartEnding → Type 0
Does (usage i) table old new ending = (new ≡ old) × (ending ≡ refused i)
Does (asked a) table old new ending = EndsSo table a old new ending

abbrev pub IsPartSession : List Call → List (List ℕ) → Ends → Ends → PartEnding → Type 0
IsPartSession table arguments old new ending = Does (part_options arguments) table old new ending

-- What the program does, for all arguments and over any source, sink, vault, watchers and standard error.
--   Asked                    what arguments ask for: a text, a part of a search, parts that are joined, or a session
--   asked help version words     what these ask for
--   Notes                    what standard error has taken, and how often it failed
--   ends_in o                the source and the sink of an outside
--   LeavesSlots old new      the vault and the watchers are as before
--   IsAnswer help version words old new ending     what the arguments ask for was done, and ended so
--   IsEnded help version line old new e     the same of a command line, of which a word may not be UTF-8
--   IsNoted e old new        standard error took the line of the ending, or failed after a front of it
--   IsProgram ..             the whole contract; without memory for the words nothing is done
use Rattle.std.specs.Prelude.{◌≡◌, ◌⊎◌, ℕ, if◌then◌else◌, List, [], ◌∷◌, codes, Option, Some, None}
use Rattle.std.specs.Io.KnownBytes.{Appends}
use Rattle.lc_io.specs.Outside.{HasRisen, AppendsPart}
use Rattle.lc_formats.specs.Text.{same_bytes}
use Rattle.lc_calls.specs.Built.{built_calls}
use Rattle.lc_session_rules.specs.Session.{Outside, IsSession}
use Rattle.lc_session.specs.Texts.{text_asked}
use Rattle.lc_session.specs.Closing.{IsClosed}
use Rattle.lc_session.specs.Ending as session_seen
use Rattle.lc_session.specs.declared.status.Status.TheVariants as status
use Rattle.lc_share.specs.PartSession.{Ends, IsPartSession}
use Rattle.lc_share.specs.Seen as part_seen
use Rattle.lc_join.specs.JoinSession.{IsJoinSession}
use Rattle.lc_join.specs.Seen as join_seen
use Rattle.lc_arguments.specs.Asked.{words_of}
use Rattle.codes.specs.declared.arguments.CommandLine.{CommandLine}
use Rattle.codes.specs.declared.arguments.CommandLine.TheVariants.{Words, NotUtf8, NoMemory}
use Rattle.codes.specs.declared.ending.Ending.{Ending}
use Rattle.codes.specs.declared.ending.Ending.TheVariants.{Session, Part, Join}
use Rattle.codes.specs.declared.program.First.{First}
use Rattle.codes.specs.declared.program.First.TheVariants as first
use Rattle.codes.specs.Endings.{number_of, line_of}

pub data Asked : Type 0 where
  text : List ℕ → Asked
  part : Asked
  join : Asked
  session : Asked

unfoldable pub first_asks : List (List ℕ) → Asked
first_asks [] = session
first_asks (word ∷ _) = (if same_bytes (codes "part") word then part else if same_bytes (codes "join") word then join else session)

-- what the program takes a first argument for
abbrev pub asked_by : First → Asked
asked_by first.Part = part
asked_by first.Join = join
asked_by first.Other = session

abbrev pub asked_unless : Option (List ℕ) → List (List ℕ) → Asked
asked_unless (Some t) words = text t
asked_unless None words = first_asks words

abbrev pub asked : List ℕ → List ℕ → List (List ℕ) → Asked
asked help version words = asked_unless (text_asked help version words) words

pub record Notes : Type 0 where
  pub written : Option (List ℕ)
  pub faults : ℕ

abbrev pub ends_in : Outside → Ends
ends_in o = record { source = o.source; source_faults = o.source_faults; sink = o.sink; sink_faults = o.sink_faults }

abbrev pub LeavesSlots : Outside → Outside → Type 0
LeavesSlots old new = (new.vault ≡ old.vault) × (new.vault_faults ≡ old.vault_faults) × (new.watchers ≡ old.watchers)

abbrev pub Does : Asked → List (List ℕ) → Outside → Outside → Ending → Type 0
Does (text t) arguments old new (Session s) =
    LeavesSlots old new × (new.source ≡ old.source) × (new.source_faults ≡ old.source_faults) × IsClosed t 0 old.sink new.sink old.sink_faults new.sink_faults s
Does part arguments old new (Part s) = LeavesSlots old new × IsPartSession built_calls arguments (ends_in old) (ends_in new) (part_seen.ending_of s)
Does join arguments old new (Join s) = LeavesSlots old new × IsJoinSession arguments (ends_in old) (ends_in new) (join_seen.ending_of s)
Does session arguments old new (Session s) = IsSession built_calls arguments old new (session_seen.ending_of s)
Does _ _ _ _ _ = ⊥

abbrev pub IsAnswer : List ℕ → List ℕ → List (List ℕ) → Outside → Outside → Ending → Type 0
IsAnswer help version arguments old new e = Does (asked help version arguments) arguments old new e

-- a word that isn't UTF-8 is refused as if it were the first one
abbrev pub IsEnded : List ℕ → List ℕ → CommandLine → Outside → Outside → Ending → Type 0
IsEnded help version (Words words) old new e = IsAnswer help version (words_of words.items) old new e
IsEnded help version NotUtf8 old new e = (new ≡ old) × (e ≡ Session (status.Usage 0))
IsEnded help version NoMemory old new e = ⊥

abbrev pub IsNoted : Ending → Notes → Notes → Type 0
IsNoted e old new =
    (Appends old.written new.written (line_of e) × (new.faults ≡ old.faults))
    ⊎ (AppendsPart old.written new.written (line_of e) × HasRisen old.faults new.faults)

abbrev pub notes_of : Option (List ℕ) → ℕ → Notes
notes_of written faults = record { written = written; faults = faults }

abbrev pub IsProgram : List ℕ → List ℕ → CommandLine → Outside → Outside → Notes → Notes → ℕ → Type 0
IsProgram help version line old new notes_old notes_new number =
    ((e : Ending) × IsEnded help version line old new e × IsNoted e notes_old notes_new × (number ≡ number_of e))
    ⊎ ((line ≡ NoMemory) × (new ≡ old) × (notes_new ≡ notes_old) × (number ≡ 7))

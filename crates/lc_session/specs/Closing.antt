-- How a session of a script ends once its text is there, or isn't.
--   status_of c halt     the status of a session that ended before its script
--   IsClosed t old new before now status      the text was written, or the sink failed
--   Closes found c old new before now status      the text was written, or there is none
use Rattle.std.specs.Prelude.{◌≡◌, ◌⊎◌, ℕ, List, Option, Result, Ok, Err}
use Rattle.std.specs.Io.KnownBytes.{Appends}
use Rattle.lc_io.specs.Outside.{HasRisen, AppendsPart}
use Rattle.lc_session_rules.specs.Session.{end_number}
use Rattle.lc_rounds.specs.declared.rounds.Stop.TheVariants as stop
use Rattle.lc_rounds.specs.declared.course.Course.{Course}
use Rattle.lc_rounds.specs.declared.need.Halt.{Halt}
use Rattle.lc_rounds.specs.declared.need.Halt.TheVariants as halt
use Rattle.lc_text.specs.declared.statements.Text.{Text}
use Rattle.lc_session.specs.declared.status.Status.{Status}
use Rattle.lc_session.specs.declared.status.Status.TheVariants as status

abbrev pub status_of : Course → Halt → Status
status_of c (halt.Stop stop.Paused) = status.Paused c.pace.last.query c.pace.last.blocks
status_of c (halt.Stop stop.VaultFault) = status.VaultFault c.pace.told
status_of c (halt.Stop stop.NoMemory) = status.NoMemory c.pace.told
status_of c (halt.Unfit told found) = status.Unfit c.met told found

abbrev pub IsClosed : List ℕ → ℕ → Option (List ℕ) → Option (List ℕ) → ℕ → ℕ → Status → Type 0
IsClosed text number old new before now s =
    ((s ≡ status.Done number) × Appends old new text × (now ≡ before))
    ⊎ ((s ≡ status.SinkFault) × AppendsPart old new text × HasRisen before now)

abbrev pub Closes : Result Text Halt → Course → Option (List ℕ) → Option (List ℕ) → ℕ → ℕ → Status → Type 0
Closes (Ok t) c old new before now s = IsClosed t.bytes.items (end_number t.ends) old new before now s
Closes (Err h) c old new before now s = (s ≡ status_of c h) × (new ≡ old) × (now ≡ before)

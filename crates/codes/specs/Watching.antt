-- What the two watchers of the program do with a record.
--   pauses_of w                          how often a watcher has paused
--   WritesLine contents note old new advice    the one that writes lines wrote that of the record, and goes on; or a write failed after a
--                                        front of it, and it leaves
--   LooksForStop files old new advice    the other one pauses exactly if its folder has the file that stops a session and its pauses can still
--                                        be counted, as far as the folder tells what it holds. It never leaves
--   WasTold contents files note old new advice    the watcher did so, of whichever kind it is
use Rattle.std.specs.Prelude.{◌≡◌, ◌≢◌, ◌↔◌, ◌<◌, ℕ, List, Option, IsSome}
use Rattle.std.specs.Io.KnownBytes.{Appends}
use Rattle.lc_io.specs.Folders.{Contents, Known}
use Rattle.lc_io.specs.Outside.{AppendsPart, HasRisen}
use Rattle.lc_io.specs.declared.watcher.Record.{Record}
use Rattle.lc_io.specs.declared.watcher.Advice.{Advice}
use Rattle.lc_io.specs.declared.watcher.Advice.TheVariants.{Go, Pause, Leave}
use Rattle.codes.specs.Files.{stop_file}
use Rattle.codes.specs.Lines.{record_line}
use Rattle.codes.specs.declared.watchers.LineWatcher.{LineWatcher}
use Rattle.codes.specs.declared.watchers.StopWatcher.{StopWatcher}
use Rattle.codes.specs.declared.watchers.ProgramWatcher.{ProgramWatcher}
use Rattle.codes.specs.declared.watchers.ProgramWatcher.TheVariants.{Lines, Stop}

abbrev pub pauses_of : {W R : Type 0} → ProgramWatcher W R → ℕ
pauses_of (Lines w) = 0
pauses_of (Stop w) = w.pauses

abbrev pub WritesLine : {W : Type 0} → (W → Option (List ℕ)) → Record → LineWatcher W → LineWatcher W → Advice → Type 0
WritesLine contents note old new Go = Appends (contents old.sink.inner) (contents new.sink.inner) (record_line note) × (new.sink.faults ≡ old.sink.faults)
WritesLine contents note old new Leave = AppendsPart (contents old.sink.inner) (contents new.sink.inner) (record_line note) × HasRisen old.sink.faults new.sink.faults
WritesLine contents note old new Pause = ⊥

abbrev pub LooksForStop : {R : Type 0} → (R → Option Contents) → StopWatcher R → StopWatcher R → Advice → Type 0
LooksForStop files old new advice =
    (advice ≢ Leave) × (new.folder ≡ old.folder)
    × Known (files old.folder) (λ held. (advice ≡ Pause) ↔ (IsSome (held stop_file) × (old.pauses < 18446744073709551615)))

abbrev pub WasTold : {W R : Type 0} → (W → Option (List ℕ)) → (R → Option Contents) → Record → ProgramWatcher W R → ProgramWatcher W R → Advice → Type 0
WasTold contents files note (Lines old) (Lines new) advice = WritesLine contents note old new advice
WasTold contents files note (Stop old) (Stop new) advice = LooksForStop files old new advice
WasTold contents files note _ _ advice = ⊥

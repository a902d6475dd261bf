-- What the program does with the slots and the watchers that were made for it.
--   ends_of ..        what is known of its source and its sink, together
--   seen_around files hear own    what is around its sessions, over a folder that may tell its files and watchers that are seen so
--   IsRun ..          the whole contract; if there was no memory to make them, nothing is done
use Rattle.std.specs.Prelude.{◌≡◌, ℕ, List, map, Option, Result, Ok, Err}
use Rattle.lc_io.specs.Folders.{Contents, slots_in}
use Rattle.lc_io.specs.Watchers.{Hearing}
use Rattle.lc_io.specs.declared.outside.NoMemory.{NoMemory}
use Rattle.lc_rounds.specs.Way.{Around, around}
use Rattle.lc_text.specs.Worlds.{outside_of}
use Rattle.lc_session_rules.specs.Session.{Outside}
use Rattle.lc_share.specs.PartSession.{Ends}
use Rattle.codes.specs.declared.arguments.CommandLine.{CommandLine}
use Rattle.codes.specs.declared.owned.OwnedSurroundings.{OwnedSurroundings}
use Rattle.codes.specs.Program.{Notes, IsProgram}

abbrev pub ends_of : Option (List ℕ) → ℕ → Option (List ℕ) → ℕ → Ends
ends_of source source_faults sink sink_faults = record { source = source; source_faults = source_faults; sink = sink; sink_faults = sink_faults }

abbrev pub seen_around : {V W : Type 0} → (V → Option Contents) → (W → Hearing) → OwnedSurroundings V W → Around
seen_around files hear own = around (slots_in own.vault.zero own.vault.one (files own.vault.folder)) own.vault.faults (map hear own.watchers.items)

abbrev pub outside_with : Ends → Around → Outside
outside_with e a = outside_of e.source e.source_faults e.sink e.sink_faults a

abbrev pub IsRun : {V W : Type 0} → (V → Option Contents) → (W → Hearing) → List ℕ → List ℕ → CommandLine → Result (OwnedSurroundings V W) NoMemory → Result (OwnedSurroundings V W) NoMemory → Ends → Ends → Notes → Notes → ℕ → Type 0
IsRun files hear help version line (Ok own) (Ok own') old new noted noted' number =
    IsProgram help version line (outside_with old (seen_around files hear own)) (outside_with new (seen_around files hear own')) noted noted' number
IsRun files hear help version line (Err e) own' old new noted noted' number = (own' ≡ Err e) × (new ≡ old) × (noted' ≡ noted) × (number ≡ 7)
IsRun files hear help version line (Ok own) (Err e) old new noted noted' number = ⊥

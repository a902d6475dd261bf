-- What is seen of the surroundings of a session.
--   seen_of V W v ws     what is seen of a vault v and of watchers ws, whose meanings V and W tell
--   seen V W s           what is around a session that is given these
--   seen_after V W s     what it leaves there
use Rattle.std.specs.Prelude.{List, map, Vec}
use Rattle.std.specs.Borrow.{MutBor}
use Rattle.std.specs.declared.alloc.Global.{Global}
use Rattle.lc_io.specs.Watchers.{hearing}
use Rattle.lc_io.specs.declared.vault.Vault as vault
use Rattle.lc_io.specs.declared.watcher.Watcher as watcher
use Rattle.lc_rounds.specs.Way.{Around, around}
use Rattle.lc_rounds.specs.declared.surroundings.Surroundings.{Surroundings}

abbrev pub seen_of : {V W : Type 0} → vault.Ghosts V → watcher.Ghosts W → V → List W → Around
seen_of V W v ws = around (V.contents v) (V.faults v) (map (hearing W.heard W.coming W.pauses) ws)

abbrev pub seen : {V W : Type 0} → vault.Ghosts V → watcher.Ghosts W → Surroundings V W → Around
seen V W s = seen_of V W s.vault.now s.watchers.now.items

-- the vault and the watchers behind the two references, once they are given back
abbrev pub seen_after : {V W : Type 0} → vault.Ghosts V → watcher.Ghosts W → MutBor V × (MutBor (Vec W Global) × Unit {0}) → Around
seen_after V W s = seen_of V W s.0.now s.1.0.now.items

-- What is known of a session from outside.
--   outside_of ..            what is known of the source, the sink, the vault and the watchers, together
--   world asked bytes b turn held old      what stays the same in a session that asks for these settings
use Rattle.std.specs.Prelude.{ℕ, List, Option}
use Rattle.sha2.specs.Sha256.{sha256}
use Rattle.lc_io.specs.Vaults.{Slots}
use Rattle.lc_session_rules.specs.Options.{Settings}
use Rattle.lc_session_rules.specs.Session.{Outside}
use Rattle.lc_rounds.specs.Way.{Around, around}
use Rattle.lc_session_rules.specs.Course.{Beginning}
use Rattle.lc_rounds.specs.Going.{World}

abbrev pub outside_of : Option (List ℕ) → ℕ → Option (List ℕ) → ℕ → Around → Outside
outside_of source source_faults sink sink_faults now = record { source = source; source_faults = source_faults; sink = sink; sink_faults = sink_faults; vault = now.vault; vault_faults = now.faults; watchers = now.watchers }

abbrev pub world : Settings → List ℕ → Beginning → ℕ → Option Slots → Outside → World
world asked bytes b turn held old = record {
  beginning = b;
  budget = asked.budget;
  longest = asked.round;
  slice = asked.slice;
  keep = asked.keep;
  digest = sha256 bytes;
  origin = record { turn = turn; around = around held old.vault_faults old.watchers };
}

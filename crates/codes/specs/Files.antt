-- The files of the current folder that the program names.
--   slot_zero, slot_one   those of the two slots
--   stop_file             the one that pauses a session which keeps its checkpoints
use Rattle.std.specs.Prelude.{ℕ, List, codes}

abbrev pub slot_zero : List ℕ
slot_zero = codes "codes.slot0"

abbrev pub slot_one : List ℕ
slot_one = codes "codes.slot1"

abbrev pub stop_file : List ℕ
stop_file = codes "codes.stop"

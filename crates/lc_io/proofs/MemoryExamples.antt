-- Worked counts and lengths, by evaluation of the definitions.
--   counts              a count rises by one, and stays at the largest number of 64 bits
--   reads, writes       how much a source gives and a sink takes: the rest, the buffer or the room, or a piece
--   calls               the calls after one that was answered and one that failed
use Rattle.std.proofs.Common.{◌≡◌, refl}
use Rattle.std.specs.Prelude.{[], ◌∷◌, map}
use Rattle.lc_io.specs.Outside.{counted}
use Rattle.lc_io.specs.Memory.{Calls, answered, failed, MemoryInput, read_length, MemoryOutput, write_length}

pub counts : map counted (0 ∷ 18446744073709551614 ∷ 18446744073709551615 ∷ []) ≡ 1 ∷ 18446744073709551615 ∷ 18446744073709551615 ∷ []
counts = refl

abbrev pub at_first : Calls
at_first = record { failing = 2 ∷ []; number = 1; faults = 0 }

pub calls : failed (answered at_first) ≡ record { failing = 2 ∷ []; number = 3; faults = 1 }
calls = refl

abbrev pub letters : MemoryInput
letters = record { rest = 97 ∷ 98 ∷ 99 ∷ []; piece = 2; calls = at_first }

pub reads : map (read_length letters) (0 ∷ 1 ∷ 2 ∷ 9 ∷ []) ≡ 0 ∷ 1 ∷ 2 ∷ 2 ∷ []
reads = refl

abbrev pub nearly_full : MemoryOutput
nearly_full = record { written = 97 ∷ 98 ∷ 99 ∷ []; room = 6; piece = 4; calls = at_first }

pub writes : map (write_length nearly_full) (0 ∷ 2 ∷ 3 ∷ 4 ∷ 9 ∷ []) ≡ 0 ∷ 2 ∷ 3 ∷ 3 ∷ 3 ∷ []
writes = refl

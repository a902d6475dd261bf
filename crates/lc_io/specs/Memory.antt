-- Sources, sinks and vaults in memory, as contracts see them.
--   Calls                    the numbers of the calls that fail, that of the next call, and the count of faults
--   IsFailing calls          the next call is one of those that fail
--   answered calls           after a call that gave its answer
--   failed calls             after a call that failed
--   faulted calls            after one more fault of a call whose number is counted already
--   MemoryInput              the bytes still to come, the most that a read gives, and the calls
--   read_length input room   how many bytes a read gives to a buffer of this length
--   MemoryOutput             the bytes taken, how many fit in all, the most that a write takes, and the calls
--   IsFull output            no room is left
--   write_length output n    how many bytes of n a write takes
--   MemorySlots              the two slots, how many bytes fit in one, and the calls
--   torn_front vault bytes   what a store that fails leaves of these bytes: half of them, as much as fits
use Rattle.std.specs.Prelude.{◌-◌, ◌/◌, ◌≤◌, ℕ, List, length, take, min, Contains}
use Rattle.lc_io.specs.Outside.{counted}
use Rattle.lc_io.specs.Vaults.{Slots}

pub record Calls : Type 0 where
  pub failing : List ℕ  -- the numbers of the calls that fail
  pub number : ℕ  -- that of the next call; the first is 1
  pub faults : ℕ  -- how many have failed

-- the next call is one of those that fail
abbrev pub IsFailing : Calls → Type 0
IsFailing calls = Contains calls.failing calls.number

abbrev pub answered : Calls → Calls
answered calls = record calls { number = counted calls.number }

abbrev pub failed : Calls → Calls
failed calls = record calls { number = counted calls.number; faults = counted calls.faults }

abbrev pub faulted : Calls → Calls
faulted calls = record calls { faults = counted calls.faults }

pub record MemoryInput : Type 0 where
  pub rest : List ℕ  -- the bytes still to come
  pub piece : ℕ  -- the most that a read gives
  pub calls : Calls

abbrev pub read_length : MemoryInput → ℕ → ℕ
read_length input room = min (min (length input.rest) room) input.piece

pub record MemoryOutput : Type 0 where
  pub written : List ℕ  -- the bytes taken
  pub room : ℕ  -- how many fit in all
  pub piece : ℕ  -- the most that a write takes
  pub calls : Calls

-- no room is left
abbrev pub IsFull : MemoryOutput → Type 0
IsFull output = output.room ≤ length output.written

abbrev pub write_length : MemoryOutput → ℕ → ℕ
write_length output n = min (min n (output.room - length output.written)) output.piece

pub record MemorySlots : Type 0 where
  pub slots : Slots
  pub room : ℕ  -- how many bytes fit in one slot
  pub calls : Calls

-- what a store that fails leaves of these bytes
abbrev pub torn_front : MemorySlots → List ℕ → List ℕ
torn_front vault bytes = take (min (length bytes / 2) vault.room) bytes

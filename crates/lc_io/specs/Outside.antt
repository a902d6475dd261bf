-- What a source, a sink and a vault tell of themselves, beside the library's words for known bytes.
--   counted n                  the number after n, which stays at the largest number of 64 bits
--   HasRisen before now        a count of faults rose by one, or stays at the largest number of 64 bits
--   GaveFront old new limit    at most limit bytes went from the front of those still to come
--   GaveLess old new limit     the same of fewer than limit bytes
--   GaveSome old new limit     the same of at least one byte
--   AppendsPart old new bytes  a front of bytes, and not all of them, was taken
--   Counted X                  something of the outside, and how often it has failed
use Rattle.std.specs.Prelude.{◌≡◌, ◌⊎◌, ◌+◌, ◌<◌, ◌≤◌, ◌-◌, ◌^◌, ℕ, List, length, take, min, Option}
use Rattle.std.specs.Io.KnownBytes.{Consumes, Appends}

abbrev pub counted : ℕ → ℕ
counted n = min (n + 1) (2 ^ 64 - 1)

-- a count rose by one, or stays at the largest number of 64 bits
abbrev pub HasRisen : ℕ → ℕ → Type 0
HasRisen before now = (now ≡ before + 1) ⊎ ((now ≡ before) × (now ≡ 2 ^ 64 - 1))

-- at most limit bytes were given, which were the front of those still to come
abbrev pub GaveFront : Option (List ℕ) → Option (List ℕ) → ℕ → Type 0
GaveFront old new limit = (bytes : List ℕ) × (length bytes ≤ limit) × Consumes old new bytes

-- fewer than limit bytes were given, which were the front of those still to come
abbrev pub GaveLess : Option (List ℕ) → Option (List ℕ) → ℕ → Type 0
GaveLess old new limit = (bytes : List ℕ) × (length bytes < limit) × Consumes old new bytes

-- at least one byte and at most limit bytes were given, which were the front of those still to come
abbrev pub GaveSome : Option (List ℕ) → Option (List ℕ) → ℕ → Type 0
GaveSome old new limit = (bytes : List ℕ) × (0 < length bytes) × (length bytes ≤ limit) × Consumes old new bytes

-- a front of these bytes was taken, and at least one of them was not
abbrev pub AppendsPart : Option (List ℕ) → Option (List ℕ) → List ℕ → Type 0
AppendsPart old new bytes = (n : ℕ) × (n < length bytes) × Appends old new (take n bytes)

-- something of the outside with how often it has failed
pub record Counted (X : Type 0) : Type 0 where
  pub inner : X
  pub faults : ℕ

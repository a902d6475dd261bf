-- Which row of an elimination belongs to which column of an information set.
--   AreTurned set pivots turn     there is an index in turn for each column of the set; at it, that column is one of the pivots
use Rattle.std.specs.Prelude.{◌≡◌, ℕ, ◌<◌, List, length, slice_index}

pub record AreTurned (set pivots turn : List ℕ) : Type 0 where
  pub count : length turn ≡ length set
  pub inside : (i : ℕ) → i < length turn → slice_index turn i < length pivots
  pub places : (i : ℕ) → i < length turn → slice_index pivots (slice_index turn i) ≡ slice_index set i

-- The memory that a worker goes through a block in.
--   IsWorkRoom k room      a spot with room for k places, and a count for each word of a block
--   IsGridRoom k room      what grids need: planes for k + 1 fronts, a support of k places, and 1,024 heads
--   HasSizesOf old room    its spot and its lists have the room of those of the old one
use Rattle.std.specs.Prelude.{◌≡◌, ℕ, ◌+◌, length}
use Rattle.lc_kernel.specs.declared.room.Room.{Room}

pub record IsWorkRoom (k : ℕ) (room : Room) : Type 0 where
  pub spot : room.spot.room ≡ k
  pub counts : length room.counts.items ≡ 4096

pub record IsGridRoom (k : ℕ) (room : Room) : Type 0 where
  pub fronts : length room.fronts.items ≡ k + 1
  pub places : length room.places.items ≡ k
  pub tops : length room.tops.items ≡ 1024

pub record HasSizesOf (old room : Room) : Type 0 where
  pub spot : room.spot.room ≡ old.spot.room
  pub fronts : length room.fronts.items ≡ length old.fronts.items
  pub places : length room.places.items ≡ length old.places.items
  pub tops : length room.tops.items ≡ length old.tops.items
  pub counts : length room.counts.items ≡ length old.counts.items

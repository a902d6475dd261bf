-- The tables of the sets of a code over more than 2 elements.
--   IsGridPart C j cols n rows bits      the first n planes, at some columns, of the nonzero multiples of the rows and of the negatives of all tails
--   AreGridParts C j n ps      part b of the list is that for part b of the columns outside the basis of set j
--   IsGrid C j g               the table has these parts for all such columns, how many tails there are, and the first pair of each row
--   HasRoom C, LacksRoom C     the squares of the dimension and of the number of nonzero elements have a product of at most 2^18, or a greater one
--   AreGrids C gs              table j is that of set j
--   AreAllGrids C gs           there is a table for each set if there is room, and else none
use Rattle.std.specs.Prelude.{◌≡◌, ◌≢◌, ℕ, ◌-◌, ◌*◌, ◌^◌, ◌<◌, ◌≤◌, List, Some, length, slice_get}
use Rattle.lc_algebra.specs.Field.{size}
use Rattle.lc_algebra.specs.Matrix.{Matrix}
use Rattle.lc_enumeration.specs.Search.{set_count}
use Rattle.lc_kernel.specs.declared.grid.Grid.{Grid}
use Rattle.lc_kernel.specs.declared.grid.GridPart.{GridPart}
use Rattle.lc_kernel.specs.Packed.{others, AreStarts}
use Rattle.lc_planes.specs.Planes.{part_at}
use Rattle.lc_kernel.specs.Grid.{tail_count, tails_in, AreTailPlanes}
use Rattle.lc_kernel.specs.Fronts.{AreRowPlanes}

pub record IsGridPart (C : Matrix) (j : ℕ) (cols : List ℕ) (n : ℕ) (rows : List (List ℕ)) (bits : List ℕ) : Type 0 where
  pub multiples : AreRowPlanes C j cols n (length C.rows * (size C.field - 1)) rows
  pub planes : AreTailPlanes C j cols n bits

abbrev pub AreGridParts : Matrix → ℕ → ℕ → List GridPart → Type 0
AreGridParts C j n ps = (b : ℕ) (p : GridPart) → slice_get ps b ≡ Some p → IsGridPart C j (part_at (others C j) b) n p.rows.items p.bits.items

pub record IsGrid (C : Matrix) (j : ℕ) (g : Grid) : Type 0 where
  pub planes : size C.field ≤ 2 ^ g.planes
  pub least : 2 ≤ g.planes
  pub few : g.planes ≤ 4
  pub count : g.tails ≡ tails_in C
  pub small : g.tails ≤ 2 ^ 18
  pub wide : length (others C j) ≤ 64 * length g.parts.items
  pub parts : AreGridParts C j g.planes g.parts.items
  pub first : AreStarts (length C.rows) 2 g.starts.items

abbrev pub HasRoom : Matrix → Type 0
HasRoom C = length C.rows * length C.rows * tail_count C ≤ 2 ^ 18

abbrev pub LacksRoom : Matrix → Type 0
LacksRoom C = 2 ^ 18 < length C.rows * length C.rows * tail_count C

pub record AreAllGrids (C : Matrix) (gs : List Grid) : Type 0 where
  pub all : size C.field ≢ 2 → HasRoom C → length gs ≡ set_count C
  pub none : LacksRoom C → length gs ≡ 0

pub record AreGrids (C : Matrix) (gs : List Grid) : Type 0 where
  pub each : (j : ℕ) (g : Grid) → slice_get gs j ≡ Some g → IsGrid C j g

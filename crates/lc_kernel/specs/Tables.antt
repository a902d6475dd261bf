-- The tables of the sets of a code over 2 elements.
--   AreParts C j t ps    part b of the list is that of set j for part b of the columns outside its basis, with tails of t places
--   IsTable C j table    the parts of set j for all these columns, and for each row the index of its first pair and of its first tail
--   sum_estimate C       about how many sums of three rows the tables of all sets have
--   AreTables C ts       table j is that of set j
--   AreAllTables C ts    over 2 elements there is a table for each set
use Rattle.std.specs.Prelude.{◌≡◌, ℕ, ◌+◌, ◌-◌, ◌*◌, ◌/◌, ◌<◌, ◌≤◌, List, Some, length, slice_get}
use Rattle.lc_algebra.specs.declared.FieldName.TheVariants.{Gf2}
use Rattle.lc_algebra.specs.Matrix.{Matrix}
use Rattle.lc_enumeration.specs.Search.{set_count}
use Rattle.lc_kernel.specs.declared.parts.Part.{Part}
use Rattle.lc_kernel.specs.declared.table.Table.{Table}
use Rattle.lc_kernel.specs.Packed.{others, AreStarts, IsPart}
use Rattle.lc_planes.specs.Planes.{part_at}

abbrev pub AreParts : Matrix → ℕ → ℕ → List Part → Type 0
AreParts C j t ps = (b : ℕ) (p : Part) → slice_get ps b ≡ Some p → IsPart C j t (part_at (others C j) b) p.rows.items p.sums.items

pub record IsTable (C : Matrix) (j : ℕ) (table : Table) : Type 0 where
  pub field : C.field ≡ Gf2
  pub some : 0 < length table.parts.items
  pub wide : length (others C j) ≤ 64 * length table.parts.items
  pub least : 2 ≤ table.tail
  pub most : table.tail ≤ 3
  pub are : AreParts C j table.tail table.parts.items
  pub pairs : AreStarts (length C.rows) 2 table.pairs.items
  pub starts : AreStarts (length C.rows) table.tail table.starts.items

abbrev pub sum_estimate : Matrix → ℕ
sum_estimate C = length C.rows * length C.rows * length C.rows / 6 * ((C.columns - length C.rows) / 64 + 1) * set_count C

abbrev pub AreAllTables : Matrix → List Table → Type 0
AreAllTables C ts = C.field ≡ Gf2 → length ts ≡ set_count C

pub record AreTables (C : Matrix) (ts : List Table) : Type 0 where
  pub each : (j : ℕ) (t : Table) → slice_get ts j ≡ Some t → IsTable C j t

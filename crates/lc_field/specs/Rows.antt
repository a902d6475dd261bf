-- A row of the table of fields, as the code holds it, and the tables that are kept with it.
--   IsRow r     the row has the columns of its field, and the product of the primitive element with the greatest power of
--               the characteristic below the size; the last eight fields are bounds that follow
--   IsKept r l sums products     the logarithms are those of the row's field, and so are the sums, if they are looked up,
--                                and the products of a symbol field
use Rattle.std.specs.Prelude.{◌≡◌, ◌≢◌, ℕ, ◌/◌, ◌^◌, ◌<◌, ◌≤◌, List}
use Rattle.lc_algebra.specs.declared.FieldName.{FieldName}
use Rattle.lc_algebra.specs.Field.{shape_of, size, add, mul}
use Rattle.lc_field.specs.declared.row.Row.{Row}
use Rattle.lc_field.specs.Tables.{IsTable}

pub record IsRow (r : Row) : Type 0 where
  pub elements : r.size ≡ size r.name
  pub characteristic : r.characteristic ≡ (shape_of r.name).characteristic
  pub degree : r.degree ≡ (shape_of r.name).degree
  pub primitive : r.primitive ≡ (shape_of r.name).primitive
  pub carry : r.carry ≡ mul r.name (shape_of r.name).primitive (size r.name / (shape_of r.name).characteristic)
  pub least_characteristic : 1 < r.characteristic
  pub least_size : 1 < r.size
  pub most_size : r.size ≤ 256
  pub head : 0 < r.size / r.characteristic
  pub whole : r.characteristic ^ r.degree ≡ r.size
  pub most_characteristic : r.characteristic ≤ r.size
  pub least_primitive : 0 < r.primitive
  pub most_primitive : r.primitive < r.size

pub record IsKept (r : Row) (logs : FieldName) (sums products : List ℕ) : Type 0 where
  pub row : IsRow r
  pub logarithms : logs ≡ r.name
  pub sums_are : r.characteristic ≢ 2 → IsTable (add r.name) (size r.name) sums
  pub products_are : r.size ≤ 16 → IsTable (mul r.name) (size r.name) products

-- Definitions that a proof opens together, under one name.
--   table_of_fields      the table of fields: its columns, and the products that it holds
use Rattle.std.specs.Prelude.{⊤}
use Rattle.lc_algebra.specs.Residue.{digits, number, plus, minus, times, top, up, times_x, product}
use Rattle.lc_algebra.specs.Field.{shape, shape_of, size, coefficients, mul}

unfoldable pub table_of_fields : ⊤
unfolding digits number plus minus times top up times_x product shape shape_of size coefficients mul
table_of_fields = tt

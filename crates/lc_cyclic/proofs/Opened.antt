-- Definitions that a proof opens together, under one name.
--   shapes_of_fields      the columns of the table of fields, by the index of a field in the list of all
use Rattle.std.specs.Prelude.{⊤}
use Rattle.lc_algebra.specs.Field.{shape, shape_of, size}
use Rattle.lc_constructions.specs.Cyclic.{all_fields}
use Rattle.lc_cyclic.specs.Fields.{field_number}

unfoldable pub shapes_of_fields : ⊤
unfolding shape shape_of size all_fields field_number
shapes_of_fields = tt

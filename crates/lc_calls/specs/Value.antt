-- The values, bindings and faults of `lc_language` that those of the program stand for.
--   rows_of rows                  the rows of a list of lists
--   value_of v, values_of vs      the value; the values of a list
--   binding_of b                  the binding
--   refused_of r                  the fault
use Rattle.std.specs.Prelude.{ℕ, List, map, string_bytes}
use Rattle.std.specs.Global.{Vec}
use Rattle.lc_language.specs.Value as language
use Rattle.lc_language.specs.Evaluation as evaluation
use Rattle.lc_calls.specs.declared.values.Value.{Value}
use Rattle.lc_calls.specs.declared.values.Value.TheVariants.{Number, Field, Numbers, Lists, Code, Truth}
use Rattle.lc_calls.specs.declared.values.Binding.{Binding}
use Rattle.lc_calls.specs.declared.refusals.Refused.{Refused}

abbrev pub rows_of : List (Vec ℕ) → List (List ℕ)
rows_of rows = map (λ row. row.items) rows

abbrev pub value_of : Value → language.Value
value_of (Number n) = language.number n
value_of (Field f) = language.field f.value
value_of (Numbers u) = language.numbers u.value.items
value_of (Lists rows) = language.lists (rows_of rows.value.items)
value_of (Code c) = language.code c.value.code c.value.form
value_of (Truth b) = language.truth b

abbrev pub values_of : List Value → List language.Value
values_of vs = map value_of vs

abbrev pub binding_of : Binding → language.Binding
binding_of b = record { name = string_bytes b.name; value = value_of b.value }

abbrev pub refused_of : Refused → evaluation.Refused
refused_of r = record { number = r.number; offset = r.offset; values = r.values.items }

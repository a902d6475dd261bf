use Rattle.std.proofs.Common.{◌≡◌, ℕ, ◌-◌, ◌<◌, length, slice_index}
use Rattle.lc_algebra.specs.Field.{size, shape_of, pow}
use Rattle.lc_field.proofs.logarithms.logs_of.Given as goal

abbrev pub invariant-loop-n : goal.invariant-loop-n
invariant-loop-n l =
    (length l.logs.items ≡ size l.row.name) × ((a : ℕ) → a < length l.logs.items → slice_index l.logs.items a < size l.row.name - 1) × ((k : ℕ) → k < l.n → pow l.row.name (shape_of l.row.name).primitive (slice_index l.logs.items (pow l.row.name (shape_of l.row.name).primitive k)) ≡ pow l.row.name (shape_of l.row.name).primitive k)

use Rattle.std.proofs.Common.{◌≡◌, ℕ, ◌<◌, length, slice_index}
use Rattle.lc_algebra.specs.Field.{shape_of, pow}
use Rattle.lc_field.proofs.logarithms.powers_of.Given as goal

abbrev pub invariant-loop-n : goal.invariant-loop-n
invariant-loop-n l =
    (length l.powers.items ≡ l._n) × (l.power ≡ pow l.row.name (shape_of l.row.name).primitive l._n) × ((k : ℕ) → k < l._n → slice_index l.powers.items k ≡ pow l.row.name (shape_of l.row.name).primitive k)

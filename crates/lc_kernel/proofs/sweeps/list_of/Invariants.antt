use Rattle.std.proofs.Common.{◌≡◌, Some, take, slice_get}
use Rattle.lc_algebra.specs.Field.{size}
use Rattle.lc_enumeration.specs.Message.{leading_lists}
use Rattle.lc_kernel.proofs.sweeps.list_of.Given as goal

abbrev pub invariant-loop-i : goal.invariant-loop-i
invariant-loop-i l = slice_get (leading_lists (size l.sets.field) l.i) l.list ≡ Some (take l.i l.spot.coefficients)

use Rattle.std.proofs.Common.{ℕ, ◌<◌, slice_index}
use Rattle.lc_algebra.specs.Field.{size}
use Rattle.lc_vec.proofs.slices.fits.Given as goal

abbrev pub invariant-loop-a : goal.invariant-loop-a
invariant-loop-a l = (k : ℕ) → k < l.a-index → slice_index l.symbols k < size l.field

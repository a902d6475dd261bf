use Rattle.std.proofs.Common.{◌≡◌, ◌+◌, ◌-◌, ◌*◌, ◌<◌, ◌≤◌, ℕ, [], slice_index, slice_index_or}
use Rattle.lc_algebra.specs.Field.{size}
use Rattle.lc_kernel.specs.Sweeps.{IsGrown}
use Rattle.lc_kernel.proofs.sweeps.grow.Given as goal

abbrev pub decreases-loop-e : goal.decreases-loop-e
decreases-loop-e l = l.e

abbrev pub invariant-loop-e : goal.invariant-loop-e
invariant-loop-e l = record {
  inside : l.e ≤ l.many;
  place : l.head * l.elements + l.element ≡ l.e;
  low : l.element < l.elements;
  done : (x : ℕ) → l.e ≤ x → x < l.many → IsGrown l.sweep.block.sets.now.field (size l.sweep.block.sets.now.field - 1) (slice_index l.support l.fn.i) l.table.rows.items l.initial.heads l.heads x;
  left : (x : ℕ) → x < l.e → slice_index_or l.heads x [] ≡ slice_index_or l.initial.heads x [];
}

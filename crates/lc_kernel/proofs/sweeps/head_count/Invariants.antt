use Rattle.std.proofs.Common.{◌≡◌, ◌-◌, ◌^◌, ◌≤◌}
use Rattle.lc_algebra.specs.Field.{size}
use Rattle.lc_kernel.proofs.sweeps.head_count.Given as goal

abbrev pub invariant-loop-place : goal.invariant-loop-place
invariant-loop-place l = record {
  is : l.many ≡ (size l.sets.field - 1) ^ (l._place - 3);
  few : l.many ≤ 1024;
}

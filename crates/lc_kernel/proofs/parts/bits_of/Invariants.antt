use Rattle.std.proofs.Common.{◌≡◌, ◌≤◌, length, drop}
use Rattle.lc_algebra.specs.SpanLaws.{restrict}
use Rattle.lc_vec.specs.Packed.{packed}
use Rattle.lc_kernel.proofs.parts.bits_of.Given as goal

abbrev pub decreases-loop-t : goal.decreases-loop-t
decreases-loop-t l = l.t

abbrev pub invariant-loop-t : goal.invariant-loop-t
invariant-loop-t l = record {
  inside : l.t ≤ length l.columns;
  bits : l.bits ≡ packed (drop l.t (restrict l.columns l.word));
}

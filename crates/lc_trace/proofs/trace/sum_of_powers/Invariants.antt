use Rattle.std.proofs.Common.{◌≡◌, ◌^◌, ◌<◌}
use Rattle.lc_algebra.specs.Field.{size, pow}
use Rattle.lc_language.specs.Trace.{trace_sum}
use Rattle.lc_trace.proofs.trace.sum_of_powers.Given as goal

abbrev pub invariant-loop-i : goal.invariant-loop-i
invariant-loop-i l = record {
  power : l.power ≡ pow l.large l.a (size l.small ^ l._i);
  element : l.power < size l.large;
  sum : l.sum ≡ trace_sum l.large (size l.small) l._i l.a;
  below : l.sum < size l.large;
}

use Rattle.std.proofs.Common.{◌≡◌, ◌<◌, drop}
use Rattle.lc_algebra.specs.Field.{size, add}
use Rattle.lc_algebra.specs.Word.{word_dot}
use Rattle.lc_vec.proofs.slices.dot.Given as goal

abbrev pub invariant-loop-i : goal.invariant-loop-i
invariant-loop-i l = record {
  below : l.sum < size l.field;
  sum : add l.field l.sum (word_dot l.field (drop l.i l.a) (drop l.i l.b)) ≡ word_dot l.field l.a l.b;
}

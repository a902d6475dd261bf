use Rattle.std.proofs.Common.{◌≡◌, ◌++◌, map, take}
use Rattle.lc_algebra.specs.Word.{word_sum}
use Rattle.lc_span.proofs.words.push_each.Given as goal

abbrev pub invariant-loop-i : goal.invariant-loop-i
invariant-loop-i l = l.sums.items ≡ l.initial.sums.items ++ map (word_sum l.field l.word) (take l.i l.list)

use Rattle.std.proofs.Common.{◌≡◌, ◌≤◌}
use Rattle.lc_span.proofs.WordLaws.{words_between}
use Rattle.lc_span.proofs.words.words_of.Given as goal

abbrev pub invariant-loop-i : goal.invariant-loop-i
invariant-loop-i l = record {
  least : l.from ≤ l.i;
  most : l.i ≤ l.to;
  are : l.list.items ≡ words_between l.rows.field l.rows.columns l.rows.rows l.i l.to;
}

abbrev pub decreases-loop-i : goal.decreases-loop-i
decreases-loop-i l = l.i

use Rattle.std.proofs.Common.{◌≡◌, filter}
use Rattle.lc_algebra.specs.Span.{below}
use Rattle.lc_enumeration.specs.InformationSet.{is_member}
use Rattle.lc_infoset.specs.Choice.{AreTurned}
use Rattle.lc_infoset.proofs.choose.rising.Given as goal

abbrev pub invariant-loop-c : goal.invariant-loop-c
invariant-loop-c l = record {
  kept : l.columns.items ≡ filter (is_member l.pivots) (below l.c);
  turned : AreTurned l.columns.items l.pivots l.turn.items;
}

use Rattle.std.proofs.Common.{◌≤◌, length, map, []}
use Rattle.lc_grammar.proofs.Course.{start}
use Rattle.lc_parse.specs.Views.{statement_of}
use Rattle.lc_parse.specs.Reading.{AreWithin, Stays}
use Rattle.lc_parse.proofs.reading.statements.Given as goal

abbrev pub invariant-loop-left : goal.invariant-loop-left
invariant-loop-left l = record {
  within : AreWithin l.source.bytes.now l.left;
  so_far : Stays l.source.bytes.now l.source.ending (start []) l.tokens (start (map statement_of l.found.items)) l.left;
  shorter : length l.left ≤ length l.tokens;
}

abbrev pub decreases-loop-left : goal.decreases-loop-left
decreases-loop-left l = length l.left

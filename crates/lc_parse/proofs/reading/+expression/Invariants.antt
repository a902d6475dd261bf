use Rattle.std.proofs.Common.{◌≡◌, ◌+◌, ◌*◌, ◌≤◌, length}
use Rattle.lc_grammar.proofs.Course.{Bracket, Around, opened, want, inside, closing, depth_of}
use Rattle.lc_parse.specs.Views.{trees_of}
use Rattle.lc_parse.specs.Reading.{AreWithin, Stays}
use Rattle.lc_parse.proofs.reading.+expression.Given as goal

abbrev pub decreases-expression : goal.decreases-expression
decreases-expression l = 3 * length l.tokens.now

abbrev pub decreases-named_expression : goal.decreases-named_expression
decreases-named_expression l = 3 * length l.tokens.now + 2

abbrev pub decreases-expressions : goal.decreases-expressions
decreases-expressions l = 3 * length l.tokens.now + 1

abbrev pub invariant-expressions-loop-found : goal.invariant-expressions-loop-found
invariant-expressions-loop-found l = record {
  within : AreWithin l.source.bytes.now l.left;
  shorter : length l.left ≤ length l.tokens;
  so_far : (b : Bracket) (a : Around) → closing b ≡ l.closer → depth_of a + 1 ≡ l.depth → Stays l.source.bytes.now l.source.ending (opened b a) l.tokens (want (inside b (trees_of l.found.items) a)) l.left;
}

abbrev pub decreases-expressions-loop-found : goal.decreases-expressions-loop-found
decreases-expressions-loop-found l = length l.left

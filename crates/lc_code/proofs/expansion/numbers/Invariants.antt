use Rattle.lc_code.specs.Coordinates.{IsNumberedTo}
use Rattle.lc_code.proofs.expansion.numbers.Given as goal

abbrev pub invariant-loop-t : goal.invariant-loop-t
invariant-loop-t l = IsNumberedTo l.field l.locator l.t l.numbers.items

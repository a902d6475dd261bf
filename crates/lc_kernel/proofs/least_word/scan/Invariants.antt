use Rattle.std.proofs.Common.{◌-◌}
use Rattle.lc_enumeration.specs.Plan.{place_of}
use Rattle.lc_enumeration.specs.Search.{block_words}
use Rattle.lc_kernel.specs.Values.{IsAtOffset, IsLeastValue}
use Rattle.lc_kernel.proofs.least_word.scan.Given as goal

abbrev pub invariant-loop-offset : goal.invariant-loop-offset
invariant-loop-offset l = record {
  at : IsAtOffset l.block.sets.now l.block.plan.now.m l.block.number (l.offset - 1) l.stack;
  least : IsLeastValue (place_of l.block.number 0) (block_words l.block.sets.now l.block.plan.now.m l.block.number) l.offset l.best;
}

use Rattle.std.proofs.Common.{◌≡◌}
use Rattle.lc_algebra.specs.Word.{zero_word}
use Rattle.lc_syndrome.specs.Syndrome.{IsNumberedTo}
use Rattle.lc_syndrome.proofs.syndromes.unit_numbers.Given as goal

abbrev pub invariant-loop-t : goal.invariant-loop-t
invariant-loop-t l = record {
  zero : l.word.items ≡ zero_word l.checks.columns;
  numbers : IsNumberedTo l.checks l.t l.numbers.items;
}

use Rattle.std.proofs.Common.{◌≡◌}
use Rattle.lc_syndrome.specs.Syndrome.{syndrome_number}
use Rattle.lc_syndrome.proofs.NumberLaws.{begun}
use Rattle.lc_syndrome.proofs.syndromes.Syndromes.of.Given as goal

abbrev pub invariant-loop-i : goal.invariant-loop-i
invariant-loop-i l = l.number ≡ syndrome_number l.self (begun l.i l.word)

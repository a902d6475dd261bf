use Rattle.std.proofs.Common.{◌≡◌, ◌-◌}
use Rattle.lc_syndrome.proofs.NumberLaws.{number_from}
use Rattle.lc_syndrome.proofs.syndromes.number_of.Given as goal

abbrev pub invariant-loop-t : goal.invariant-loop-t
invariant-loop-t l = l.number ≡ number_from l.checks (l.m - l.t) l.word

use Rattle.std.proofs.Common.{◌≡◌, ◌^◌}
use Rattle.lc_checker.specs.Cost.{capped}
use Rattle.lc_checker.proofs.cost.words_of.Given as goal

abbrev pub invariant-loop-i : goal.invariant-loop-i
invariant-loop-i l = l.words ≡ capped (l.q ^ l._i)

use Rattle.std.proofs.Common.{◌≡◌, take}
use Rattle.lc_certify.proofs.claims.numbers_of.Given as goal

abbrev pub invariant-loop-i : goal.invariant-loop-i
invariant-loop-i l = l.numbers.items ≡ take l.i l.columns

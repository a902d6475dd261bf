use Rattle.lc_code.specs.Kept.{IsTried}
use Rattle.lc_code.proofs.code.Code.contains.Given as goal

abbrev pub invariant-loop-i : goal.invariant-loop-i
invariant-loop-i l = IsTried l.self-inside.matrix l.i l.word l.buf

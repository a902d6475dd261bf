use Rattle.std.proofs.Common.{◌≡◌, take}
use Rattle.lc_algebra.specs.Matrix.{column}
use Rattle.lc_erasures.proofs.erasures.column.Given as goal

abbrev pub invariant-loop-i : goal.invariant-loop-i
invariant-loop-i l = l.symbols.items ≡ column (take l.i l.code.rows) l.c

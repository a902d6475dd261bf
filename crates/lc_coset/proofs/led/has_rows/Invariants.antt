use Rattle.lc_coset.specs.Led.{HasRowsTo}
use Rattle.lc_coset.proofs.led.has_rows.Given as goal

abbrev pub invariant-loop-i : goal.invariant-loop-i
invariant-loop-i l = HasRowsTo l.led l.sets l.j l.i

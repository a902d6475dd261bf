use Rattle.lc_alternant.specs.Key.{AreKeyRows}
use Rattle.lc_alternant.proofs.key.key_rows.Given as goal

abbrev pub invariant-loop-j : goal.invariant-loop-j
invariant-loop-j l = AreKeyRows l.t l.j l.syndromes l.rows.items

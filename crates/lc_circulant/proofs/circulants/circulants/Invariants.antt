use Rattle.std.proofs.Common.{◌≡◌}
use Rattle.lc_language.specs.Circulant.{circulants}
use Rattle.lc_circulant.proofs.circulants.circulants.Given as goal

abbrev pub invariant-loop-i : goal.invariant-loop-i
invariant-loop-i l = l.rows.items ≡ circulants l.i l.words

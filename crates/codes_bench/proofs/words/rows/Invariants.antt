use Rattle.lc_algebra.specs.Matrix.{AreRows}
use Rattle.codes_bench.proofs.words.rows.Given as goal

abbrev pub invariant-loop : goal.invariant-loop
invariant-loop l = AreRows l.field l.n l.rows.items

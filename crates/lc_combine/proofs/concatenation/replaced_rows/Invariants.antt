use Rattle.std.proofs.Common.{length, take}
use Rattle.lc_linear_laws.specs.Powers.{outer_rows}
use Rattle.lc_combine.specs.Replaced.{AreReplaced}
use Rattle.lc_combine.proofs.concatenation.replaced_rows.Given as goal

abbrev pub invariant-loop-i : goal.invariant-loop-i
invariant-loop-i l = AreReplaced l.outer l.inner (outer_rows l.outer.field (length l.inner.rows) (take l.i l.outer.rows)) l.rows.items

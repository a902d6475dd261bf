use Rattle.std.proofs.Common.{◌≡◌}
use Rattle.lc_cyclic.specs.Generator.{IsGenerator}
use Rattle.lc_cyclic.proofs.generators.generator.Given as goal

abbrev pub invariant-loop-i : goal.invariant-loop-i
invariant-loop-i l = (l.generator.field ≡ l.field) × IsGenerator l.field l.locator l.root l.b l.i l.generator.coefficients

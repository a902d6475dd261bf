use Rattle.std.proofs.Common.{◌≡◌, take}
use Rattle.lc_algebra.specs.Polynomial.{trimmed}
use Rattle.lc_constructions.specs.Alternant.{goppa_multipliers}
use Rattle.lc_goppa.proofs.goppa_codes.multipliers_of.Given as goal

abbrev pub invariant-loop-i : goal.invariant-loop-i
invariant-loop-i l = l.multipliers.items ≡ goppa_multipliers l.locator (trimmed l.list) (take l.i l.points)

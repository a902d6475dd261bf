use Rattle.std.proofs.Common.{◌≡◌, ℕ, ◌<◌, false}
use Rattle.lc_language.specs.QuadraticResidues.{is_period}
use Rattle.lc_residues.proofs.periods.period.Given as goal

abbrev pub invariant-loop-t : goal.invariant-loop-t
invariant-loop-t l = (k : ℕ) → k < l.t → is_period l.field l.n k ≡ false

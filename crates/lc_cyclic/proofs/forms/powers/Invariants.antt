use Rattle.std.proofs.Common.{◌≡◌}
use Rattle.lc_cyclic.specs.Powers.{powers}
use Rattle.lc_cyclic.proofs.forms.powers.Given as goal

abbrev pub invariant-loop-i : goal.invariant-loop-i
invariant-loop-i l = l.powers.items ≡ powers l.field l.x l.s l.i

use Rattle.std.proofs.Common.{◌≡◌, take}
use Rattle.lc_constructions.specs.Alternant.{check_row}
use Rattle.lc_code.proofs.expansion.check_entries.Given as goal

abbrev pub invariant-loop-k : goal.invariant-loop-k
invariant-loop-k l = l.entries.items ≡ check_row l.form.locator (take l.k l.form.points) (take l.k l.form.multipliers) l.j

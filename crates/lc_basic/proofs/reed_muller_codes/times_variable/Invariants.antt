use Rattle.std.proofs.Common.{◌≡◌}
use Rattle.lc_basic.specs.Product.{times_part}
use Rattle.lc_basic.proofs.reed_muller_codes.times_variable.Given as goal

abbrev pub invariant-loop-place : goal.invariant-loop-place
invariant-loop-place l = l.symbols.items ≡ times_part l.values l.unit l.place

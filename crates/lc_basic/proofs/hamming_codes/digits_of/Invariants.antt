use Rattle.std.proofs.Common.{◌≡◌, ◌^◌}
use Rattle.lc_basic.specs.Column.{digits_of}
use Rattle.lc_basic.proofs.hamming_codes.digits_of.Given as goal

abbrev pub invariant-loop-m : goal.invariant-loop-m
invariant-loop-m l = (l.symbols.items ≡ digits_of l.q l.unit l._m) × (l.first ≡ l.q ^ l._m)

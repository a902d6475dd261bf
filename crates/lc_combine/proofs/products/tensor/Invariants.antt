use Rattle.std.proofs.Common.{◌≡◌, take}
use Rattle.lc_constructions.specs.Combined.{tensor}
use Rattle.lc_combine.proofs.products.tensor.Given as goal

abbrev pub invariant-loop-i : goal.invariant-loop-i
invariant-loop-i l = l.symbols.items ≡ tensor l.field (take l.i l.first) l.second

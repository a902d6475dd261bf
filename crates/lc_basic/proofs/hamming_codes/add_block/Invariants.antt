use Rattle.std.proofs.Common.{◌≡◌, ◌++◌}
use Rattle.lc_basic.specs.Column.{digits_from}
use Rattle.lc_basic.proofs.hamming_codes.add_block.Given as goal

abbrev pub invariant-loop-v : goal.invariant-loop-v
invariant-loop-v l = l.symbols.items ≡ l.initial.symbols.items ++ digits_from l.q l.unit l.first l.v

use Rattle.std.proofs.Common.{◌≡◌, take}
use Rattle.lc_relations.specs.Leads.{leading_symbols}
use Rattle.lc_relations.proofs.encoding.leading_symbols.Given as goal

abbrev pub invariant-loop-i : goal.invariant-loop-i
invariant-loop-i l = l.symbols.items ≡ leading_symbols (take l.i l.code.rows) l.word

use Rattle.lc_erasures.specs.System.{IsSystem}
use Rattle.lc_erasures.proofs.erasures.push_known.Given as goal

abbrev pub invariant-loop-c : goal.invariant-loop-c
invariant-loop-c l = IsSystem l.code l.word l.erased l.c l.known.columns.items l.known.symbols.items

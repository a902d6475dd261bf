use Rattle.std.proofs.Common.{◌≡◌, ◌++◌, take}
use Rattle.lc_algebra.specs.Word.{scale}
use Rattle.lc_combine.proofs.products.push_multiple.Given as goal

abbrev pub invariant-loop-i : goal.invariant-loop-i
invariant-loop-i l = l.symbols.items ≡ l.initial.symbols.items ++ scale l.field l.c (take l.i l.word)

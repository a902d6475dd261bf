use Rattle.std.proofs.Common.{take}
use Rattle.lc_constructions.specs.Concatenated.{IsReplacedWord}
use Rattle.lc_combine.proofs.concatenation.replaced_word.Given as goal

abbrev pub invariant-loop-i : goal.invariant-loop-i
invariant-loop-i l = IsReplacedWord l.outer l.inner (take l.i l.word) l.symbols.items

use Rattle.std.proofs.Common.{◌≡◌, take}
use Rattle.lc_circulant.proofs.RowLaws.{row}
use Rattle.lc_circulant.proofs.circulants.circulant_row.Given as goal

abbrev pub invariant-loop-word : goal.invariant-loop-word
invariant-loop-word l = l.symbols.items ≡ row (take l.word-index l.words) l.i

use Rattle.std.proofs.Common.{◌≡◌, map, take}
use Rattle.lc_eval.specs.Rows.{clamped}
use Rattle.lc_eval.proofs.rows.words_of.Given as goal

abbrev pub invariant-loop-row : goal.invariant-loop-row
invariant-loop-row l = l.words.items ≡ map (λ row. clamped row.items) (take l.row-index l.rows)

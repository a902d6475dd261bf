use Rattle.std.proofs.Common.{take, All}
use Rattle.lc_algebra.specs.Word.{Fits}
use Rattle.lc_relations.proofs.refusal.have_elements.Given as goal

abbrev pub invariant-loop-row : goal.invariant-loop-row
invariant-loop-row l = All (Fits l.field) (take l.row-index l.rows)

use Rattle.std.proofs.Common.{◌≡◌, take, length, All}
use Rattle.lc_constructions.specs.Code.{InCode}
use Rattle.lc_relations.proofs.comparison.rows_lie_in.Given as goal

abbrev pub invariant-loop-i : goal.invariant-loop-i
invariant-loop-i l = All (InCode l.b) (take l.i l.a.rows) × (length l.rest ≡ l.b.columns)

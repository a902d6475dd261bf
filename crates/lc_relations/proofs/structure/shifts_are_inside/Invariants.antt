use Rattle.std.proofs.Common.{◌≡◌, take, length, All}
use Rattle.lc_constructions.specs.Code.{InCode}
use Rattle.lc_language.specs.Relations.{shifted}
use Rattle.lc_relations.proofs.structure.shifts_are_inside.Given as goal

abbrev pub invariant-loop-i : goal.invariant-loop-i
invariant-loop-i l = All (λ row. InCode l.code (shifted row)) (take l.i l.code.rows) × (length l.shift ≡ l.code.columns) × (length l.rest ≡ l.code.columns)

use Rattle.std.proofs.Common.{◌≡◌, take, true, length}
use Rattle.std.specs.List.{list_all}
use Rattle.lc_formats.specs.ClaimMeaning.{in_code}
use Rattle.lc_trees.proofs.kinds.are_inside.Given as goal

abbrev pub invariant-loop-row : goal.invariant-loop-row
invariant-loop-row l = (length l.buffer.items ≡ l.code.columns) × (list_all (in_code l.code) (take l.row-index l.rows) ≡ true)

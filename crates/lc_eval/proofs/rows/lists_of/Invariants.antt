use Rattle.std.proofs.Common.{◌≡◌, map, take}
use Rattle.lc_eval.proofs.rows.lists_of.Given as goal

abbrev pub invariant-loop-i : goal.invariant-loop-i
invariant-loop-i l = map (λ list. list.items) l.lists.items ≡ take l.i l.code.rows

use Rattle.lc_eval.proofs.StockLaws.{AgreeBelow}
use Rattle.lc_eval.proofs.stock.is_same.Given as goal

abbrev pub invariant-loop-i : goal.invariant-loop-i
invariant-loop-i l = AgreeBelow l.i l.a.rows l.b.rows

use Rattle.lc_place.proofs.Counting.{table_none, table_more}
use Rattle.std.proofs.Common.{arith}
use Rattle.lc_checker.specs.Cost.{choose_entry}
use Rattle.lc_checker.proofs.CostLaws.{choose_one, choose_none_more}
use Rattle.lc_checker.proofs.cost.first_row.Goals as goal

pub loop-j-init : goal.loop-j-init
loop-j-init c = table_more (choose_entry 0) 0 c.in_ok-row.row.items c.push.new.self.items 1 (table_none (choose_entry 0) c.in_ok-row.row.items c.in_ok-row.ensures.items) c.in_ok-push.ensures.items (choose_one 0)

pub loop-j-preserved : goal.loop-j-preserved
loop-j-preserved c = table_more (choose_entry 0) c.loop-j._j c.loop-j.row.items c.push-in-loop-j.new.self.items 0 c.loop-j.invariant c.in_ok-push-2.ensures.items (choose_none_more c.loop-j._j (omega (arith, c.loop-j.auto._j)))

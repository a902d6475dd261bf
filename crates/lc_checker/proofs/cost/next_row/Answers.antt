use Rattle.lc_place.proofs.Counting.{table_none, table_more}
use Rattle.std.proofs.Common.{◌+◌, ◌-◌, ◌∙◌, arith}
use Rattle.lc_checker.specs.Cost.{choose_entry}
use Rattle.lc_checker.proofs.CostLaws.{choose_one, choose_next}
use Rattle.lc_checker.proofs.cost.next_row.Goals as goal

pub loop-j-init : goal.loop-j-init
loop-j-init c = table_more (choose_entry (c.args._n + 1)) 0 c.in_ok-next.next.items c.push.new.self.items 1 (table_none (choose_entry (c.args._n + 1)) c.in_ok-next.next.items c.in_ok-next.ensures.items) c.in_ok-push.ensures.items (choose_one (c.args._n + 1))

pub loop-j-preserved : goal.loop-j-preserved
loop-j-preserved c =
    let j = c.loop-j.j in
    table_more (choose_entry (c.args._n + 1)) j c.loop-j.next.items c.push-in-loop-j.new.self.items c.saturating_add.result c.loop-j.invariant c.in_ok-push-2.ensures.items
    (c.saturating_add.ensures ∙ choose_next c.args._n j _ _ (omega (arith, c.loop-j.auto.j)) (c.requires.row.entry (j - 1) (omega (arith, c.loop-j-test.true, c.loop-j.auto.j))) (c.requires.row.entry j c.loop-j-test.true))

use Rattle.std.proofs.Common.{arith, rules, append_assoc}
use Rattle.lc_print.proofs.ListTexts.{lists_none, lists_more}
use Rattle.lc_print.proofs.pieces.push_rows.Goals as goal

pub returns-in_default : goal.returns-in_default
returns-in_default c = rw (lists_none (λ row. row.items) c.args.rows.now (omega arith)) (search rules)

pub returns : goal.returns
returns c =
    let more = lists_more (λ row. row.items) c.args.rows.now c.first-item.result (omega arith) in
    search (rules, append_assoc)

use Rattle.std.proofs.Common.{sym, rules, arith}
use Rattle.lc_certificate.proofs.RowLaws.{rows_done}
use Rattle.lc_certificate.proofs.rows.rows_of.Goals as goal

pub returns : goal.returns
returns c =
    record { is = sym (rows_done c.args.field c.len-n.result c.args.items.now c.first-item.result c.in-Some.front.now.items c.loop-item.item-index c.loop-item.rows.items (search rules) (search rules) (search rules) (search rules) (omega (arith, c.loop-item-test.false)) (search rules)) }

use Rattle.std.proofs.Common.{arith, rules, append_assoc}
use Rattle.lc_certificate.proofs.TextLaws.{rows_none, rows_more}
use Rattle.lc_certificate.proofs.writing.push_rows.Goals as goal

pub returns-in_default : goal.returns-in_default
returns-in_default c = rw (rows_none c.args.rows.now (omega arith)) (search rules)

pub returns : goal.returns
returns c =
    let more = rows_more c.args.rows.now c.first-item.result (omega arith) in
    search (rules, append_assoc)

use Rattle.std.proofs.Common.{arith, rules, append_assoc}
use Rattle.lc_formats.proofs.ListTexts.{bracketed_none, bracketed_more}
use Rattle.lc_print.proofs.pieces.push_bracketed.Goals as goal

pub returns-in_default : goal.returns-in_default
returns-in_default g c = rw (bracketed_none g.I.Integer.text c.args.list.now (omega arith)) (search rules)

pub returns : goal.returns
returns g c =
    let more = bracketed_more g.I.Integer.text c.args.list.now c.first-item.result (omega arith) in
    search (rules, append_assoc)

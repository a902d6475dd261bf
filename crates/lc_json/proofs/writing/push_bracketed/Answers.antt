use Rattle.std.proofs.Common.{arith, rules, append_assoc}
use Rattle.lc_formats.proofs.ListTexts.{bracketed_none, bracketed_more}
use Rattle.lc_json.proofs.writing.push_bracketed.Goals as goal

pub returns-in_default-clause-is : goal.returns-in_default-clause-is
returns-in_default-clause-is g c = rw (bracketed_none g.I.Integer.text c.args.list.now (omega arith)) (search rules)

pub returns-clause-is : goal.returns-clause-is
returns-clause-is g c =
    let more = bracketed_more g.I.Integer.text c.args.list.now c.first-item.result (omega arith) in
    search (rules, append_assoc)

use Rattle.std.proofs.Common.{arith, rules, append_assoc, append-nil, sym}
use Rattle.lc_print.proofs.ListTexts.{with_values_none, with_values_more}
use Rattle.lc_print.proofs.pieces.push_values.Goals as goal

pub returns-in_default : goal.returns-in_default
returns-in_default c = rw (with_values_none c.args.values.now (omega arith)) (sym (append-nil c.args.text.now.items))

pub returns : goal.returns
returns c =
    let more = with_values_more c.args.values.now 0 (omega arith) in
    search (rules, append_assoc)

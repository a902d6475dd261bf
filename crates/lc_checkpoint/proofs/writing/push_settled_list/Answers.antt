use Rattle.std.proofs.Common.{arith, rules, append_assoc}
use Rattle.lc_checkpoint.specs.Seen.{settled_of}
use Rattle.lc_checkpoint.proofs.TextLaws.{settled_none, settled_more}
use Rattle.lc_checkpoint.proofs.writing.push_settled_list.Goals as goal

pub returns-in_default : goal.returns-in_default
returns-in_default c = rw (settled_none settled_of c.args.settled.now (omega arith)) (search rules)

pub returns : goal.returns
returns c =
    let more = settled_more settled_of c.args.settled.now (record { blocks = 0; weight = 0; place = 0 }) (omega arith) in
    search (rules, append_assoc)

use Rattle.lc_infoset.proofs.choose.holds.Goals as goal
use Rattle.lc_enumeration.proofs.MemberLaws.{told_member}

pub returns : goal.returns
returns c = record { is = told_member c.contains.result c.args.columns.now c.args.c c.contains.ensures.value }

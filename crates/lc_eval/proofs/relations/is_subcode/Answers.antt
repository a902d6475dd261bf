use Rattle.lc_eval.proofs.RelationLaws.{subcode_applies}
use Rattle.lc_eval.proofs.relations.is_subcode.Goals as goal

pub returns : goal.returns
returns c = subcode_applies c.args.offset c.args.a.now c.args.b.now c.is_subcode.result c.truth.result c.is_subcode.ensures.is c.is_subcode.ensures.refused c.truth.ensures.is

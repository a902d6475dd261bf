use Rattle.lc_eval.proofs.RelationLaws.{same_applies}
use Rattle.lc_eval.proofs.relations.is_same_code.Goals as goal

pub returns : goal.returns
returns c = same_applies c.args.offset c.args.a.now c.args.b.now c.is_same_code.result c.truth.result c.is_same_code.ensures.is c.is_same_code.ensures.refused c.truth.ensures.is

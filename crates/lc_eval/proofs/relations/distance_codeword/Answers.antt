use Rattle.lc_eval.proofs.RelationLaws.{distance_applies}
use Rattle.lc_eval.proofs.relations.distance_codeword.Goals as goal

pub returns : goal.returns
returns c = distance_applies c.args.offset c.args.x.now c.args.y.now c.hamming_distance.result c.number.result c.hamming_distance.ensures.is c.hamming_distance.ensures.refused c.number.ensures.is

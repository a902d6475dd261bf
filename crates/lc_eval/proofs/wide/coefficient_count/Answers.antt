use Rattle.lc_poly.proofs.TrimLaws.{length_trimmed}
use Rattle.lc_eval.proofs.wide.coefficient_count.Goals as goal

pub returns : goal.returns
returns c = length_trimmed c.args.list.now c.significant.result c.significant.ensures.within c.significant.ensures.leads c.significant.ensures.zeros

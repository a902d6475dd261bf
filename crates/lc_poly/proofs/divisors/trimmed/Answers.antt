use Rattle.lc_poly.proofs.DivisorLaws.{taken_is}
use Rattle.lc_poly.proofs.divisors.trimmed.Goals as goal

pub returns : goal.returns
returns c = record {
  is = taken_is c.args.list.now c.significant.result c.lower.result.now c.significant.ensures.within c.significant.ensures.leads c.significant.ensures.zeros c.lower.ensures;
}

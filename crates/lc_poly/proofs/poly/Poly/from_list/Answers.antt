use Rattle.lc_poly.proofs.TrimLaws.{is_trimmed}
use Rattle.lc_poly.proofs.ListLaws.{taken_trimmed}
use Rattle.lc_poly.proofs.poly.Poly.from_list.Goals as goal

pub invariant_of-result : goal.invariant_of-result
invariant_of-result c = rw (c.in_ok-copy.ensures.same, c.in_ok-coefficients.ensures) ((taken_trimmed c.args.field.now c.args.list.now c.significant.result c.requires.list c.significant.ensures.within c.significant.ensures.leads c.significant.ensures.zeros).polynomial)

pub returns-clause-coefficients : goal.returns-clause-coefficients
returns-clause-coefficients c = rw c.in_ok-coefficients.ensures (is_trimmed c.args.field.now c.args.list.now _ c.requires.list (taken_trimmed c.args.field.now c.args.list.now c.significant.result c.requires.list c.significant.ensures.within c.significant.ensures.leads c.significant.ensures.zeros))

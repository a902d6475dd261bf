use Rattle.lc_algebra.specs.Polynomial.{trimmed}
use Rattle.lc_poly.proofs.TrimLaws.{trimmed_polynomial}
use Rattle.lc_cyclic.proofs.CyclicLaws.{cofactor_told}
use Rattle.lc_cyclic.proofs.cyclic_codes.cofactor.Goals as goal

pub returns-clause-cofactor : goal.returns-clause-cofactor
returns-clause-cofactor c =
    let f = c.args.field.now in
    let list = c.args.list.now in
    cofactor_told f c.in_ok-power.power.field c.args.n (trimmed list) c.in_ok-polynomial.polynomial.coefficients c.in_ok-power.power.coefficients c.in_ok-quotient.quotient.coefficients c.in_ok-quotient._remainder.coefficients
    c.in_ok-power.ensures.field
    c.in_ok-polynomial.ensures.coefficients
    (trimmed_polynomial f list c.requires.list)
    c.requires.divides
    c.in_ok-power.ensures.coefficients
    c.in_ok-quotient.ensures.division

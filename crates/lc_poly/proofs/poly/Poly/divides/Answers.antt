use Rattle.lc_poly.proofs.DivisionLaws.{divides_told}
use Rattle.lc_poly.proofs.poly.Poly.divides.Goals as goal

pub returns : goal.returns
returns c = record {
  is = divides_told c.args.self.now.field c.args.other.now.field c.args.other.now.coefficients c.args.self.now.coefficients c.in_ok-_quotient._quotient.coefficients c.in_ok-_quotient.remainder.coefficients c.is_zero.result c.requires.field (rw (← c.self.view_is) c.self.invariant) c.in_ok-_quotient.ensures.division c.is_zero.ensures.is;
}

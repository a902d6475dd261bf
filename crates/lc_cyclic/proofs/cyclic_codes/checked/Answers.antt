use Rattle.std.proofs.Common.{sym, subst}
use Rattle.lc_algebra.specs.Polynomial.{trimmed, x_power_minus_one, Divides}
use Rattle.lc_poly.proofs.TrimLaws.{trimmed_polynomial}
use Rattle.lc_cyclic.proofs.CyclicLaws.{cofactor_divides, checked_code}
use Rattle.lc_cyclic.proofs.cyclic_codes.checked.Goals as goal

pub generated-requires-clause-divides : goal.generated-requires-clause-divides
generated-requires-clause-divides c =
    let f = c.args.field.now in
    let n = c.args.n in
    subst (λ u. Divides f u (x_power_minus_one f n)) (sym c.coefficients.ensures.are) (cofactor_divides f n c.in_ok-cofactor.cofactor.coefficients (trimmed c.args.list.now) (trimmed_polynomial f c.args.list.now c.requires.list) c.in_ok-cofactor.ensures.cofactor)

pub returns : goal.returns
returns c = record {
  code = checked_code c.args.field.now c.in_ok-cofactor.cofactor.field c.args.n c.in_ok-cofactor.cofactor.coefficients c.coefficients.result.now (trimmed c.args.list.now) c.in_ok-generated.field-0
      c.requires.least
      c.in_ok-cofactor.ensures.field
      c.coefficients.ensures.polynomial
      (trimmed_polynomial c.args.field.now c.args.list.now c.requires.list)
      c.coefficients.ensures.are
      c.in_ok-cofactor.ensures.cofactor
      c.in_ok-generated.ensures.code;
}

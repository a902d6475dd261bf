use Rattle.std.proofs.Common.{◌-◌, refl, sym, subst}
use Rattle.lc_algebra.specs.Polynomial.{x_power_minus_one, Divides}
use Rattle.lc_cyclic.proofs.GeneratorLaws.{generator_divides, generator_code}
use Rattle.lc_cyclic.proofs.generators.bch_code.Goals as goal

pub generated-requires-clause-divides : goal.generated-requires-clause-divides
generated-requires-clause-divides c =
    let f = c.args.field.now in
    let n = c.args.n in
    subst (λ u. Divides f u (x_power_minus_one f n)) (sym c.coefficients.ensures.are) (generator_divides f c.args.locator.now n c.args.b (c.args.d - 1) c.root_of_unity-root.result c.in_ok-generator.generator.coefficients c.requires.least c.requires.locator c.root_of_unity-root.ensures.is c.in_ok-generator.ensures.generator)

pub returns : goal.returns
returns c = record {
  code = generator_code c.args.field.now c.args.locator.now c.args.n c.args.b c.args.d (c.args.d - 1) c.root_of_unity-root.result c.in_ok-generator.generator.coefficients c.coefficients.result.now c.in_ok-generated.field-0 c.requires.least c.requires.locator c.root_of_unity-root.ensures.is refl c.coefficients.ensures.are c.in_ok-generator.ensures.generator c.in_ok-generated.ensures.code;
}

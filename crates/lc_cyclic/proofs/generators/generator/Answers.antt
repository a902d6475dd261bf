use Rattle.std.proofs.Common.{◌≡◌, ◌+◌, sym, ap, subst, ◌∙◌, arith}
use Rattle.lc_algebra.proofs.WordLaws.{fits_one}
use Rattle.lc_poly.specs.Poly.{Polynomial}
use Rattle.lc_constructions.specs.Cyclic.{value_in}
use Rattle.lc_cyclic.specs.Generator.{IsGenerator}
use Rattle.lc_cyclic.proofs.GeneratorLaws.{generator_none, generator_kept, generator_more}
use Rattle.lc_cyclic.proofs.generators.generator.Goals as goal
use Rattle.lc_cyclic.proofs.generators.generator.Goals.{then-value_in-ne0+in_ok-generator-2, else-value_in-ne0}

pub from_list-requires : goal.from_list-requires
from_list-requires c = record { list = fits_one c.args.field.now }

pub loop-i-init : goal.loop-i-init
loop-i-init c =
    (c.in_ok-generator.ensures.field, generator_none c.args.field.now c.args.locator.now c.args.root c.args.b c.in_ok-generator.generator.coefficients c.in_ok-generator.ensures.coefficients)

pub loop-i-preserved : goal.loop-i-preserved
loop-i-preserved c =
    let f = c.args.field.now in
    let K = c.args.locator.now in
    let x = c.args.root in
    let b = c.args.b in
    let i = c.loop-i.i in
    let r = c.pow-zero.result in
    let g = c.loop-i.generator.coefficients in
    let told : c.value_in.result ≡ value_in f K g r = c.value_in.ensures.is ∙ ap (λ u. value_in f K u r) c.coefficients.ensures.are in
    elim c.if-value_in-ne0.branch [
      | then-value_in-ne0+in_ok-generator-2 w ↦
          let (u, m, e) = w.in_ok-generator-2.ensures.product in
          subst (λ (p : Polynomial). (p.field ≡ f) × IsGenerator f K x b (i + 1) p.coefficients) (sym w.generator-is)
          (w.in_ok-generator-2.ensures.field, generator_more f K x b i r g w.in_ok-generator-2.generator.coefficients u c.requires.subfield c.loop-i.invariant.1 c.pow-zero.ensures.is (λ z. w.if-value_in-ne0.true (told ∙ z)) m e)
      | else-value_in-ne0 w ↦
          subst (λ (p : Polynomial). (p.field ≡ f) × IsGenerator f K x b (i + 1) p.coefficients) (sym w.generator-is)
          (c.loop-i.invariant.0, generator_kept f K x b i r g c.loop-i.invariant.1 c.pow-zero.ensures.is (sym told ∙ w.if-value_in-ne0.false))
    ]

pub returns-clause-generator : goal.returns-clause-generator
returns-clause-generator c =
    subst (λ m. IsGenerator c.args.field.now c.args.locator.now c.args.root c.args.b m c.loop-i.generator.coefficients) (omega (arith, c.loop-i-test.false, c.loop-i.auto.i-end)) c.loop-i.invariant.1

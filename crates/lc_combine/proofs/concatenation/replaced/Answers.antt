use Rattle.std.proofs.Common.{ap, ◌∙◌, length, arith}
use Rattle.lc_linear_laws.proofs.PowerSpan.{written}
use Rattle.lc_combine.proofs.ReplacedLaws.{replaced_made}
use Rattle.lc_combine.proofs.concatenation.replaced.Goals as goal

pub returns : goal.returns
returns c = record {
  is = replaced_made c.args.outer.now c.args.inner.now c.field.result.now c.field-2.result.now c.dimension.result c.args.a c.expansion-x.result _ c.field.ensures.is c.field-2.ensures.is c.dimension.ensures.is c.expansion-x.ensures.is
      (written c.in_ok-image.image.len c.combine.new.image c.in_ok-image.image.items (omega (arith, c.deref_mut.ensures.len, ap length c.deref_mut.ensures.value)) (omega (arith, c.combine.auto.image, ap length c.deref_mut.ensures.value)) ∙ c.combine.ensures.is);
}

use Rattle.std.proofs.Common.{◌*◌, ap₂, ◌∙◌}
use Rattle.lc_combine.proofs.ProductLaws.{product_words, product_code}
use Rattle.lc_combine.proofs.products.product_words.Goals as goal

pub from_rows-requires-clause-rows : goal.from_rows-requires-clause-rows
from_rows-requires-clause-rows c =
    product_words c.args.a.now c.args.b.now c.field.result.now (c.length.result * c.length-2.result) c.deref.result.now c.requires.field c.matrix-first.ensures.rows c.matrix-second.ensures.rows c.field.ensures.is (ap₂ (λ x y. x * y) c.length.ensures.is c.length-2.ensures.is) (c.deref.ensures.value ∙ c.in_ok-rows.ensures.are)

pub returns : goal.returns
returns c = record {
  code = product_code c.args.a.now c.args.b.now c.in_ok-from_rows.field-0 c.field.result.now (c.length.result * c.length-2.result) c.deref.result.now c.requires.field c.matrix-first.ensures.rows c.matrix-second.ensures.rows c.field.ensures.is
      (ap₂ (λ x y. x * y) c.length.ensures.is c.length-2.ensures.is)
      (c.deref.ensures.value ∙ c.in_ok-rows.ensures.are)
      c.in_ok-from_rows.ensures.code;
}

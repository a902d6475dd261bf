use Rattle.std.proofs.Common.{◌∙◌, arith}
use Rattle.lc_basic.proofs.ProductLaws.{products_both}
use Rattle.lc_basic.proofs.reed_muller_codes.+add_products.Goals as goal

pub returns : goal.returns
returns t c = record {
  added = products_both c.args.values.now c.deref.result.now c.args.v c.args.left c.args.r c.args.rows.now.items c.add_products.new.rows.items c.add_products-2.new.rows.items
      (omega (arith, c.if-left-eq0.false))
      (omega (arith, c.if-r-eq0.false))
      (c.deref.ensures.value ∙ c.in_ok-product.ensures.is)
      c.in_ok-add_products.ensures.added
      c.in_ok-add_products-2.ensures.added;
}

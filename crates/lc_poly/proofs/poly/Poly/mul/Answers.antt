use Rattle.lc_poly.proofs.TrimLaws.{product_trimmed}
use Rattle.lc_poly.proofs.poly.Poly.mul.Goals as goal

pub returns-clause-product : goal.returns-clause-product
returns-clause-product c =
    rw (← c.self.view_is, ← c.other.view_is)
    (product_trimmed c.self.inside.field (λ p. p.coefficients) c.from_list.result c.deref-3.result.now c.in_ok-product.product.items c.self.inside.coefficients.items c.other.inside.coefficients.items c.deref.result.now c.deref-2.result.now
    c.deref-3.ensures.value c.in_ok-product.ensures.fits c.in_ok-product.ensures.product c.deref.ensures.value c.deref-2.ensures.value c.from_list.ensures.coefficients)

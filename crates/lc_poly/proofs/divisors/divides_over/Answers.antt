use Rattle.lc_poly.proofs.DivisorLaws.{division_over}
use Rattle.lc_poly.proofs.divisors.divides_over.Goals as goal

pub returns : goal.returns
returns c = record {
  is = division_over c.args.field.now c.args.n c.args.zeros.now c.write_ends.new.list c.divide_in_place.new.work c.args.by.now c.lower.result.now c.neg.result c.are_zeros.result c.requires.least c.requires.by c.requires.nonzero c.requires.zeros c.neg.ensures.is c.write_ends.ensures c.divide_in_place.ensures.fits c.divide_in_place.ensures.division c.lower.ensures c.are_zeros.ensures.zeros c.are_zeros.ensures.nonzero;
}

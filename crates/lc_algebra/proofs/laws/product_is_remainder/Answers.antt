use Rattle.lc_algebra.proofs.FieldRecords.{reduced_product}
use Rattle.lc_algebra.proofs.laws.product_is_remainder.Goals as goal

pub returns-clause-remainder : goal.returns-clause-remainder
returns-clause-remainder c = reduced_product c.args.field

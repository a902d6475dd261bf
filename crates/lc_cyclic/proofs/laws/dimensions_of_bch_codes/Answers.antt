use Rattle.lc_cyclic.proofs.BchDimension.{bch_dimension, reed_solomon_dimension}
use Rattle.lc_cyclic.proofs.laws.dimensions_of_bch_codes.Goals as goal

pub returns-clause-bch : goal.returns-clause-bch
returns-clause-bch c n b d xs C = bch_dimension c.args.small c.args.large n b d xs C

pub returns-clause-reed_solomon : goal.returns-clause-reed_solomon
returns-clause-reed_solomon c n d C = reed_solomon_dimension c.args.small n d C

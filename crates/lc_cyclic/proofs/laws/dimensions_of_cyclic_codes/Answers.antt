use Rattle.lc_cyclic.proofs.CyclicLaws.{generator_dimension, check_dimension, same_cyclic_code}
use Rattle.lc_cyclic.proofs.laws.dimensions_of_cyclic_codes.Goals as goal

pub returns-clause-generator : goal.returns-clause-generator
returns-clause-generator c n g C = generator_dimension c.args.field n g C

pub returns-clause-check : goal.returns-clause-check
returns-clause-check c n h C = check_dimension c.args.field n h C

pub returns-clause-same : goal.returns-clause-same
returns-clause-same c n g h C = same_cyclic_code c.args.field n g h C

use Rattle.lc_basic.proofs.TrivialLaws.{repetition_dimension}
use Rattle.lc_basic.proofs.dimensions.dimensions_of_trivial_codes.Goals as goal

pub returns-clause-repetition : goal.returns-clause-repetition
returns-clause-repetition c = λ n C a h. repetition_dimension c.args.field n C a h

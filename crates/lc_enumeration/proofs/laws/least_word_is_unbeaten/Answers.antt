use Rattle.lc_enumeration.proofs.SearchLaws.{least_is, least_in_is, least_one, beats_is_less}
use Rattle.lc_enumeration.proofs.laws.least_word_is_unbeaten.Goals as goal

pub returns-clause-least : goal.returns-clause-least
returns-clause-least _ = least_is

pub returns-clause-least_in : goal.returns-clause-least_in
returns-clause-least_in _ = least_in_is

pub returns-clause-one : goal.returns-clause-one
returns-clause-one _ = least_one

pub returns-clause-board : goal.returns-clause-board
returns-clause-board _ = beats_is_less

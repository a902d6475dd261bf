use Rattle.lc_enumeration.proofs.SearchLaws.{found_between, words_in_phase}
use Rattle.lc_enumeration.proofs.PlanLaws.{phase_is}
use Rattle.lc_enumeration.proofs.laws.found_words_are_at_their_places.Goals as goal

pub returns-clause-found : goal.returns-clause-found
returns-clause-found _ = found_between

pub returns-clause-phase : goal.returns-clause-phase
returns-clause-phase _ = phase_is

pub returns-clause-block : goal.returns-clause-block
returns-clause-block _ = words_in_phase

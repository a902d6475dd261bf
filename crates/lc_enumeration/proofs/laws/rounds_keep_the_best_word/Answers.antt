use Rattle.lc_enumeration.proofs.RecordsLaws.{best_after, first_is_best, search_is_best, end_is_best}
use Rattle.lc_enumeration.proofs.laws.rounds_keep_the_best_word.Goals as goal

pub returns-clause-after : goal.returns-clause-after
returns-clause-after _ = best_after

pub returns-clause-first : goal.returns-clause-first
returns-clause-first _ = first_is_best

pub returns-clause-rounds : goal.returns-clause-rounds
returns-clause-rounds _ = search_is_best

pub returns-clause-last : goal.returns-clause-last
returns-clause-last _ = end_is_best

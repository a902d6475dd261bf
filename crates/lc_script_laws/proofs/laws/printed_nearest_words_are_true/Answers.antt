use Rattle.lc_script_laws.proofs.NearestLaws.{nears_true, nears_stated, large_nears}
use Rattle.lc_script_laws.proofs.laws.printed_nearest_words_are_true.Goals as goal

pub returns-clause-holds : goal.returns-clause-holds
returns-clause-holds _ = nears_true

pub returns-clause-line : goal.returns-clause-line
returns-clause-line _ = nears_stated

pub returns-clause-large : goal.returns-clause-large
returns-clause-large _ = large_nears

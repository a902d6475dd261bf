use Rattle.lc_io.proofs.SeveralRecords.{Kept-paused, Kept-unpaused}
use Rattle.lc_session_rules.proofs.laws.pauses_are_those_of_watchers_handed_back.Goals as goal

pub returns-clause-paused : goal.returns-clause-paused
returns-clause-paused _ = Kept-paused

pub returns-clause-unpaused : goal.returns-clause-unpaused
returns-clause-unpaused _ = Kept-unpaused

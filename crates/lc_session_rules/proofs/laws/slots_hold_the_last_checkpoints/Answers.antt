use Rattle.lc_session_rules.proofs.SlotsAfter.{turn_is}
use Rattle.lc_session_rules.proofs.StoredLaws.{last_stands, one_before_stands, alone_stands, none_stored, last_stands_torn, none_stored_torn, other_slot}
use Rattle.lc_session_rules.proofs.laws.slots_hold_the_last_checkpoints.Goals as goal

pub returns-clause-last : goal.returns-clause-last
returns-clause-last _ = last_stands

pub returns-clause-one_before : goal.returns-clause-one_before
returns-clause-one_before _ = one_before_stands

pub returns-clause-alone : goal.returns-clause-alone
returns-clause-alone _ = alone_stands

pub returns-clause-none : goal.returns-clause-none
returns-clause-none _ = none_stored

pub returns-clause-last_torn : goal.returns-clause-last_torn
returns-clause-last_torn _ = last_stands_torn

pub returns-clause-none_torn : goal.returns-clause-none_torn
returns-clause-none_torn _ = none_stored_torn

pub returns-clause-alternate : goal.returns-clause-alternate
returns-clause-alternate _ = other_slot

pub returns-clause-turns : goal.returns-clause-turns
returns-clause-turns _ = turn_is

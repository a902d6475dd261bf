use Rattle.lc_session_rules.proofs.GroundLaws.{true_turn}
use Rattle.lc_session_rules.proofs.StoredTruly.{stores_truly, stores_afresh, tells_early, taken_truly, true_slots_stay}
use Rattle.lc_session_rules.proofs.laws.stored_slots_hold_true_checkpoints.Goals as goal

pub returns-clause-stored : goal.returns-clause-stored
returns-clause-stored _ = stores_truly

pub returns-clause-afresh : goal.returns-clause-afresh
returns-clause-afresh _ = stores_afresh

pub returns-clause-turn : goal.returns-clause-turn
returns-clause-turn _ = true_turn

pub returns-clause-early : goal.returns-clause-early
returns-clause-early _ = tells_early

pub returns-clause-taken : goal.returns-clause-taken
returns-clause-taken _ = taken_truly

pub returns-clause-stay : goal.returns-clause-stay
returns-clause-stay _ = true_slots_stay

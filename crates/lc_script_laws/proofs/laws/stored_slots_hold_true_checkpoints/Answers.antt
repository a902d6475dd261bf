use Rattle.lc_script_laws.proofs.StoredLaws.{stores_truly, stores_afresh, true_turn, tells_early}
use Rattle.lc_script_laws.proofs.laws.stored_slots_hold_true_checkpoints.Goals as goal

pub returns-clause-stored : goal.returns-clause-stored
returns-clause-stored _ = stores_truly

pub returns-clause-afresh : goal.returns-clause-afresh
returns-clause-afresh _ = stores_afresh

pub returns-clause-turn : goal.returns-clause-turn
returns-clause-turn _ = true_turn

pub returns-clause-early : goal.returns-clause-early
returns-clause-early _ = tells_early

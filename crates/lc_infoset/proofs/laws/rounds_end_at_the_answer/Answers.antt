use Rattle.lc_infoset.proofs.SessionLaws.{rounds_underway, rounds_settle, rounds_stop}
use Rattle.lc_infoset.proofs.laws.rounds_end_at_the_answer.Goals as goal

pub returns-clause-underway : goal.returns-clause-underway
returns-clause-underway _ = rounds_underway

pub returns-clause-settled : goal.returns-clause-settled
returns-clause-settled _ = rounds_settle

pub returns-clause-stopped : goal.returns-clause-stopped
returns-clause-stopped _ = rounds_stop

use Rattle.lc_part_laws.proofs.PointLaws.{state_true, joined_true, slots_true, text_read}
use Rattle.lc_part_laws.proofs.laws.joined_checkpoints_are_true.Goals as goal

pub returns-clause-state : goal.returns-clause-state
returns-clause-state _ = state_true

pub returns-clause-joined : goal.returns-clause-joined
returns-clause-joined _ = joined_true

pub returns-clause-slots : goal.returns-clause-slots
returns-clause-slots _ = slots_true

pub returns-clause-text : goal.returns-clause-text
returns-clause-text _ = text_read

use Rattle.lc_trees.proofs.TreeLaws.{trees_sound, accepted_proves, checked_proves}
use Rattle.lc_trees.proofs.laws.valid_trees_prove_the_distance.Goals as goal

pub returns-clause-sound : goal.returns-clause-sound
returns-clause-sound _ = trees_sound

pub returns-clause-accepted : goal.returns-clause-accepted
returns-clause-accepted _ = accepted_proves

pub returns-clause-checked : goal.returns-clause-checked
returns-clause-checked _ = checked_proves

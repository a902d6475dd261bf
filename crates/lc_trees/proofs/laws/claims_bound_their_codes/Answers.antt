use Rattle.lc_trees.proofs.TreeLaws.{claims_sound}
use Rattle.lc_trees.proofs.laws.claims_bound_their_codes.Goals as goal

pub returns : goal.returns
returns c = record { sound = claims_sound }

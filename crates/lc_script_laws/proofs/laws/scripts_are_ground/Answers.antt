use Rattle.lc_script_laws.proofs.GroundLaws.{script_is_ground}
use Rattle.lc_script_laws.proofs.laws.scripts_are_ground.Goals as goal

pub returns : goal.returns
returns _ = script_is_ground

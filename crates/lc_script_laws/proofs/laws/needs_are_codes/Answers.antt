use Rattle.lc_script_laws.proofs.AskShapes.{met_shaped}
use Rattle.lc_script_laws.proofs.RangeLaws.{need_is_code}
use Rattle.lc_script_laws.proofs.laws.needs_are_codes.Goals as goal

pub returns : goal.returns
returns _ = λ table bytes needs met i C at. need_is_code needs i C (met_shaped table bytes needs met) at

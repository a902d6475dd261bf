use Rattle.lc_session_rules.proofs.NeedLaws.{script_long, met_long}
use Rattle.lc_session_rules.proofs.needs.needs_take_bytes.Goals as goal

pub returns-clause-script : goal.returns-clause-script
returns-clause-script c = script_long

pub returns-clause-front : goal.returns-clause-front
returns-clause-front c = met_long

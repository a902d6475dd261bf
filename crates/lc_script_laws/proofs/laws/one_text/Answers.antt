use Rattle.lc_script_laws.proofs.OneText.{one_text}
use Rattle.lc_script_laws.proofs.laws.one_text.Goals as goal

pub returns : goal.returns
returns c = one_text

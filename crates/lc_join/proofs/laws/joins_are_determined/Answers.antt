use Rattle.lc_join.proofs.OnceLaws.{one_text, one_gap, one_kind}
use Rattle.lc_join.proofs.laws.joins_are_determined.Goals as goal

pub returns-clause-text : goal.returns-clause-text
returns-clause-text _ = one_text

pub returns-clause-missing : goal.returns-clause-missing
returns-clause-missing _ = one_gap

pub returns-clause-alike : goal.returns-clause-alike
returns-clause-alike _ = one_kind

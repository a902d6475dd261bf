use Rattle.lc_join.proofs.AgreeLaws.{texts_agree, lacks_agree, one_outcome}
use Rattle.lc_join.proofs.MembersLaws.{printed_same}
use Rattle.lc_join.proofs.laws.joins_agree.Goals as goal

pub returns-clause-text : goal.returns-clause-text
returns-clause-text _ = texts_agree

pub returns-clause-missing : goal.returns-clause-missing
returns-clause-missing _ = lacks_agree

pub returns-clause-alike : goal.returns-clause-alike
returns-clause-alike _ = one_outcome

pub returns-clause-printed : goal.returns-clause-printed
returns-clause-printed _ = printed_same

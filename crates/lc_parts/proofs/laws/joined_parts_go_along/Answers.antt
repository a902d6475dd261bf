use Rattle.lc_parts.proofs.JoinLaws.{lines_along, lines_keep}
use Rattle.lc_parts.proofs.laws.joined_parts_go_along.Goals as goal

pub returns-clause-progress : goal.returns-clause-progress
returns-clause-progress _ = lines_along

pub returns-clause-kept : goal.returns-clause-kept
returns-clause-kept _ = lines_keep

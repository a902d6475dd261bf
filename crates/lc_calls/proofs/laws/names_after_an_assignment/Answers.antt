use Rattle.lc_calls.proofs.NameLaws.{bound_means}
use Rattle.lc_calls.proofs.laws.names_after_an_assignment.Goals as goal

pub returns : goal.returns
returns c = bound_means

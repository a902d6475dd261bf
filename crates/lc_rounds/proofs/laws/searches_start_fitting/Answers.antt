use Rattle.lc_rounds.proofs.FirstLaws.{first_fits}
use Rattle.lc_rounds.proofs.laws.searches_start_fitting.Goals as goal

pub returns : goal.returns
returns _ = record { fits = first_fits }

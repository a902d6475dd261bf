use Rattle.lc_combine.proofs.BoundLaws.{shortened_dual}
use Rattle.lc_combine.proofs.laws.shortening_is_dual_to_puncturing.Goals as goal

pub returns : goal.returns
returns c = record { dual = shortened_dual }

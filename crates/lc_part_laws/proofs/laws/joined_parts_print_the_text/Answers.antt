use Rattle.lc_part_laws.proofs.PointLaws.{joined_prints}
use Rattle.lc_part_laws.proofs.laws.joined_parts_print_the_text.Goals as goal

pub returns : goal.returns
returns _ = joined_prints

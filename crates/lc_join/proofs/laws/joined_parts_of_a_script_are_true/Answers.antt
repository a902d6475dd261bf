use Rattle.lc_join.proofs.PrintedLaws.{joined_printed}
use Rattle.lc_join.proofs.laws.joined_parts_of_a_script_are_true.Goals as goal

pub returns : goal.returns
returns _ = record { truth = joined_printed }

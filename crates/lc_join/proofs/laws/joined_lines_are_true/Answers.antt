use Rattle.lc_join.proofs.TruthLaws.{true_text}
use Rattle.lc_join.proofs.laws.joined_lines_are_true.Goals as goal

pub returns : goal.returns
returns _ = record { truth = true_text }

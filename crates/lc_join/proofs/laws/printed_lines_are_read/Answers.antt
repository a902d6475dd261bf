use Rattle.lc_join.proofs.PrintedLaws.{printed_read}
use Rattle.lc_join.proofs.laws.printed_lines_are_read.Goals as goal

pub returns : goal.returns
returns _ = record { read = printed_read }

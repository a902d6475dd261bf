use Rattle.lc_part_lines.proofs.LineBack.{line_back}
use Rattle.lc_part_lines.proofs.LineRange.{line_ranged}
use Rattle.lc_part_lines.proofs.laws.lines_are_read_back.Goals as goal

pub returns-clause-ranged : goal.returns-clause-ranged
returns-clause-ranged _ = line_ranged

pub returns-clause-back : goal.returns-clause-back
returns-clause-back _ = line_back

use Rattle.lc_share.proofs.PrintedLaws.{asked_count, line_meant, printed_meant, session_printed}
use Rattle.lc_share.proofs.laws.printed_lines_are_in_range.Goals as goal

pub returns-clause-ranged : goal.returns-clause-ranged
returns-clause-ranged _ = line_meant

pub returns-clause-some : goal.returns-clause-some
returns-clause-some _ = asked_count

pub returns-clause-meant : goal.returns-clause-meant
returns-clause-meant _ = printed_meant

pub returns-clause-session : goal.returns-clause-session
returns-clause-session _ = session_printed

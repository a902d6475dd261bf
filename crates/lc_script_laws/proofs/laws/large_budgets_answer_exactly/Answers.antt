use Rattle.lc_script_laws.proofs.PrintedLaws.{large_exact, large_stated}
use Rattle.lc_script_laws.proofs.laws.large_budgets_answer_exactly.Goals as goal

pub returns-clause-answer : goal.returns-clause-answer
returns-clause-answer _ = large_exact

pub returns-clause-line : goal.returns-clause-line
returns-clause-line _ = large_stated

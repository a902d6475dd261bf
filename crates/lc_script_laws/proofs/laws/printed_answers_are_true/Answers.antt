use Rattle.lc_script_laws.proofs.PrintedLaws.{line_true, text_true, needs_true}
use Rattle.lc_script_laws.proofs.laws.printed_answers_are_true.Goals as goal

pub returns-clause-text : goal.returns-clause-text
returns-clause-text _ = text_true

pub returns-clause-line : goal.returns-clause-line
returns-clause-line _ = line_true

pub returns-clause-truth : goal.returns-clause-truth
returns-clause-truth _ = needs_true

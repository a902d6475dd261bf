use Rattle.lc_session_rules.proofs.Headline.{truly_prints, run_prints, true_prints, resume_prints}
use Rattle.lc_session_rules.proofs.laws.finished_sessions_print_the_text.Goals as goal

pub returns-clause-run : goal.returns-clause-run
returns-clause-run _ = run_prints

pub returns-clause-resume : goal.returns-clause-resume
returns-clause-resume _ = resume_prints

pub returns-clause-truly : goal.returns-clause-truly
returns-clause-truly _ = truly_prints

pub returns-clause-slots_true : goal.returns-clause-slots_true
returns-clause-slots_true _ = true_prints

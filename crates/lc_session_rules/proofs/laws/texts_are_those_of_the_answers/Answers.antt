use Rattle.lc_session_rules.proofs.AnswerLaws.{answered, answered_back, met_whole}
use Rattle.lc_session_rules.proofs.laws.texts_are_those_of_the_answers.Goals as goal

pub returns-clause-answers : goal.returns-clause-answers
returns-clause-answers _ = answered

pub returns-clause-whole : goal.returns-clause-whole
returns-clause-whole _ = met_whole

pub returns-clause-back : goal.returns-clause-back
returns-clause-back _ = answered_back

use Rattle.lc_constructions.proofs.AlternantLaws.{alternant_closed, form_of_code, form_weight_bound, within_once, decoded_exists}
use Rattle.lc_constructions.proofs.laws.alternant_words_are_heavy.Goals as goal

pub returns-clause-closed : goal.returns-clause-closed
returns-clause-closed c = alternant_closed

pub returns-clause-form : goal.returns-clause-form
returns-clause-form c = form_of_code

pub returns-clause-bound : goal.returns-clause-bound
returns-clause-bound c = form_weight_bound

pub returns-clause-one_within : goal.returns-clause-one_within
returns-clause-one_within c = within_once

pub returns-clause-some_decoded : goal.returns-clause-some_decoded
returns-clause-some_decoded c = decoded_exists

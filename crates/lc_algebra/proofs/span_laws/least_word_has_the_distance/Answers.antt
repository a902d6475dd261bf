use Rattle.lc_algebra.proofs.SpanLaws.{weight_bound_attained, weight_bound_at_most, weight_bound_apart, distance_unique, least_unique, least_distance, words_apart, words_at_distance, distance_shared, least_shared}
use Rattle.lc_algebra.proofs.SpanSearch.{least_exists}
use Rattle.lc_algebra.proofs.span_laws.least_word_has_the_distance.Goals as goal

pub returns-clause-some_word : goal.returns-clause-some_word
returns-clause-some_word c = least_exists c.args.field

pub returns-clause-distance : goal.returns-clause-distance
returns-clause-distance c = least_distance c.args.field

pub returns-clause-one_distance : goal.returns-clause-one_distance
returns-clause-one_distance c = distance_unique c.args.field

pub returns-clause-one_word : goal.returns-clause-one_word
returns-clause-one_word c = least_unique c.args.field

pub returns-clause-apart : goal.returns-clause-apart
returns-clause-apart c = words_apart c.args.field

pub returns-clause-attained : goal.returns-clause-attained
returns-clause-attained c = words_at_distance c.args.field

pub returns-clause-distance_told_by_words : goal.returns-clause-distance_told_by_words
returns-clause-distance_told_by_words c = distance_shared c.args.field

pub returns-clause-word_told_by_words : goal.returns-clause-word_told_by_words
returns-clause-word_told_by_words c = least_shared c.args.field

pub returns-clause-bound : goal.returns-clause-bound
returns-clause-bound c = λ n rows d k. k.least

pub returns-clause-bound_attained : goal.returns-clause-bound_attained
returns-clause-bound_attained c = weight_bound_attained c.args.field

pub returns-clause-bound_at_most : goal.returns-clause-bound_at_most
returns-clause-bound_at_most c = weight_bound_at_most c.args.field

pub returns-clause-bound_apart : goal.returns-clause-bound_apart
returns-clause-bound_apart c = weight_bound_apart c.args.field

use Rattle.lc_algebra.proofs.SpanLaws.{coefficients_unique, independent_from_unique, word_of_member, member_of_word, length_words, combinations, span_decided}
use Rattle.lc_algebra.proofs.span_laws.words_are_the_span.Goals as goal

pub returns-clause-members : goal.returns-clause-members
returns-clause-members c = λ n rows w. (word_of_member c.args.field n rows w, member_of_word c.args.field n rows w)

pub returns-clause-count : goal.returns-clause-count
returns-clause-count c = length_words c.args.field

pub returns-clause-combinations : goal.returns-clause-combinations
returns-clause-combinations c = combinations c.args.field

pub returns-clause-one_combination : goal.returns-clause-one_combination
returns-clause-one_combination c = λ n rows r. (λ i cs ds. coefficients_unique c.args.field n rows cs ds r i, independent_from_unique c.args.field n rows)

pub returns-clause-decided : goal.returns-clause-decided
returns-clause-decided c = span_decided c.args.field

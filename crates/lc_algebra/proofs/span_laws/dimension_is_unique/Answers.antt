use Rattle.lc_algebra.specs.Span.{words}
use Rattle.lc_algebra.proofs.DimensionLaws.{pairs_from_distinct, words_distinct, independent_at_most, dimension_unique}
use Rattle.lc_algebra.proofs.span_laws.dimension_is_unique.Goals as goal

pub returns-clause-each_word_once : goal.returns-clause-each_word_once
returns-clause-each_word_once c = λ n rows r i. pairs_from_distinct (words c.args.field n rows) (words_distinct c.args.field n rows r i)

pub returns-clause-at_most : goal.returns-clause-at_most
returns-clause-at_most c = independent_at_most c.args.field

pub returns-clause-equally_many : goal.returns-clause-equally_many
returns-clause-equally_many c = dimension_unique c.args.field

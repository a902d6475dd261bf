use Rattle.lc_algebra.proofs.SpanLaws.{span_word, span_zero, span_sum, span_scale, span_row, span_within}
use Rattle.lc_algebra.proofs.span_laws.span_is_closed.Goals as goal

pub returns-clause-are_words : goal.returns-clause-are_words
returns-clause-are_words c = span_word c.args.field

pub returns-clause-has_zero : goal.returns-clause-has_zero
returns-clause-has_zero c = span_zero c.args.field

pub returns-clause-has_sums : goal.returns-clause-has_sums
returns-clause-has_sums c = span_sum c.args.field

pub returns-clause-has_multiples : goal.returns-clause-has_multiples
returns-clause-has_multiples c = span_scale c.args.field

pub returns-clause-has_rows : goal.returns-clause-has_rows
returns-clause-has_rows c = span_row c.args.field

pub returns-clause-is_least : goal.returns-clause-is_least
returns-clause-is_least c = span_within c.args.field

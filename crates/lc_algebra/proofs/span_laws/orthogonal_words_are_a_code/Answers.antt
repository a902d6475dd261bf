use Rattle.lc_algebra.proofs.SpanLaws.{dot_span, orthogonal_zero, orthogonal_sum, orthogonal_scale, orthogonal_shared}
use Rattle.lc_algebra.proofs.span_laws.orthogonal_words_are_a_code.Goals as goal

pub returns-clause-to_words : goal.returns-clause-to_words
returns-clause-to_words c = dot_span c.args.field

pub returns-clause-has_zero : goal.returns-clause-has_zero
returns-clause-has_zero c = orthogonal_zero c.args.field

pub returns-clause-has_sums : goal.returns-clause-has_sums
returns-clause-has_sums c = orthogonal_sum c.args.field

pub returns-clause-has_multiples : goal.returns-clause-has_multiples
returns-clause-has_multiples c = orthogonal_scale c.args.field

pub returns-clause-told_by_words : goal.returns-clause-told_by_words
returns-clause-told_by_words c = orthogonal_shared c.args.field

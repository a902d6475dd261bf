use Rattle.lc_algebra.proofs.SpanLaws.{span_multiples_added, span_rows_scaled, span_multiple_added, span_row_scaled, span_permuted, span_swapped, span_zero_removed}
use Rattle.lc_algebra.proofs.span_laws.row_operations_keep_the_span.Goals as goal

pub returns-clause-multiples_added : goal.returns-clause-multiples_added
returns-clause-multiples_added c = λ n r rows others l a s. (span_multiples_added c.args.field n r rows others l a s).1

pub returns-clause-multiple_added : goal.returns-clause-multiple_added
returns-clause-multiple_added c = span_multiple_added c.args.field

pub returns-clause-rows_multiplied : goal.returns-clause-rows_multiplied
returns-clause-rows_multiplied c = λ n rows others a s. (span_rows_scaled c.args.field n rows others a s).1

pub returns-clause-row_multiplied : goal.returns-clause-row_multiplied
returns-clause-row_multiplied c = span_row_scaled c.args.field

pub returns-clause-rows_swapped : goal.returns-clause-rows_swapped
returns-clause-rows_swapped c = span_swapped c.args.field

pub returns-clause-rows_permuted : goal.returns-clause-rows_permuted
returns-clause-rows_permuted c = span_permuted c.args.field

pub returns-clause-zero_row_removed : goal.returns-clause-zero_row_removed
returns-clause-zero_row_removed c = span_zero_removed c.args.field

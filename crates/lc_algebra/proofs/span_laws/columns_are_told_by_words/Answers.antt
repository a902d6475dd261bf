use Rattle.lc_algebra.proofs.ColumnLaws.{relation_from_columns, columns_from_relation, independent_columns_shared, systematic_columns}
use Rattle.lc_algebra.proofs.span_laws.columns_are_told_by_words.Goals as goal

pub returns-clause-independent : goal.returns-clause-independent
returns-clause-independent c = λ n rows set r. (λ i xs. relation_from_columns c.args.field n rows set xs r i, columns_from_relation c.args.field n rows set r)

pub returns-clause-told_by_words : goal.returns-clause-told_by_words
returns-clause-told_by_words c = independent_columns_shared c.args.field

pub returns-clause-systematic : goal.returns-clause-systematic
returns-clause-systematic c = systematic_columns c.args.field

use Rattle.std.proofs.Common.{[], slice_index, slice_index_or, ap, ◌∙◌}
use Rattle.lc_algebra.specs.Word.{word_sum, scale}
use Rattle.lc_algebra.proofs.FieldLaws.{one_inside}
use Rattle.lc_checker.proofs.WalkLaws.{on_support}
use Rattle.lc_checker.proofs.walk.lighter_on.Goals as goal

pub put_row-requires-clause-element : goal.put_row-requires-clause-element
put_row-requires-clause-element c = one_inside c.args.rows.now.field

pub returns-clause-is : goal.returns-clause-is
returns-clause-is c = c.lighter_along.ensures.is ∙ on_support c.args.rows.now.field c.args.rows.now.columns c.args.rows.now.rows c.args.distance c.args.support.now _ c.requires.some
    (c.put_row.ensures.is ∙ ap (λ y. word_sum c.args.rows.now.field y (scale c.args.rows.now.field 1 (slice_index_or c.args.rows.now.rows (slice_index c.args.support.now 0) []))) c.requires.sums.zero)

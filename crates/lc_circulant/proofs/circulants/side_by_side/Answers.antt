use Rattle.std.proofs.Common.{refl, ◌∙◌}
use Rattle.lc_circulant.proofs.RowLaws.{circulant_words}
use Rattle.lc_circulant.proofs.circulants.side_by_side.Goals as goal

pub from_rows-requires-clause-rows : goal.from_rows-requires-clause-rows
from_rows-requires-clause-rows c =
    circulant_words c.args.field.now c.args.n _ c.args.words.now c.deref.result.now c.requires.words refl (c.deref.ensures.value ∙ c.in_ok-rows.ensures.are)

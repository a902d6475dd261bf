use Rattle.std.proofs.Common.{[], ◌∷◌, ap, ◌∙◌}
use Rattle.lc_basic.proofs.FamilyLaws.{ones_rows, constant_code}
use Rattle.lc_basic.proofs.trivial.constant_words.Goals as goal

pub from_rows-requires-clause-rows : goal.from_rows-requires-clause-rows
from_rows-requires-clause-rows c =
    ones_rows c.args.field.now c.args.n c.deref.result.now
    (c.deref.ensures.value ∙ c.in_ok-rows.ensures.items ∙ ap (λ w. w ∷ []) c.in_ok-ones.ensures.is)

pub returns : goal.returns
returns c = record {
  code = constant_code c.args.field.now c.args.n c.deref.result.now c.in_ok-from_rows.field-0 c.requires.least
      (c.deref.ensures.value ∙ c.in_ok-rows.ensures.items ∙ ap (λ w. w ∷ []) c.in_ok-ones.ensures.is)
      c.in_ok-from_rows.ensures.code;
}

use Rattle.std.proofs.Common.{◌≤◌, sym, subst}
use Rattle.lc_cyclic.specs.Fields.{field_number}
use Rattle.lc_cyclic.proofs.FieldLaws.{size_positive}
use Rattle.lc_cyclic.proofs.fields.locator_size.Goals as goal

pub is_locator-requires-clause-size : goal.is_locator-requires-clause-size
is_locator-requires-clause-size c =
    subst (λ x. 1 ≤ x) (sym c.shape_at-shape.ensures.size) (size_positive (field_number c.loop-i.i))

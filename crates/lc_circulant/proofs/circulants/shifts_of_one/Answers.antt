use Rattle.std.proofs.Common.{ℕ, List, [], ◌∷◌, length, ap, ◌∙◌}
use Rattle.lc_circulant.proofs.RowLaws.{one_code}
use Rattle.lc_circulant.proofs.circulants.shifts_of_one.Goals as goal

pub returns : goal.returns
returns c =
    let x = c.args.x.now in
    record {
      code = one_code c.args.field.now (length x) x c.deref.result.now c.in_ok-side_by_side.field-0
          (c.deref.ensures.value ∙ c.in_ok-words.ensures.items ∙ ap (λ (w : List ℕ). w ∷ []) c.in_ok-from_slice.ensures.is)
          c.in_ok-side_by_side.ensures.code;
    }

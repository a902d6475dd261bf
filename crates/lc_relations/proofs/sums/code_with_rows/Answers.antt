use Rattle.std.proofs.Common.{List, ℕ, ◌++◌, ap, ◌∙◌}
use Rattle.lc_relations.proofs.SumLaws.{augmented_code}
use Rattle.lc_relations.proofs.sums.code_with_rows.Goals as goal

pub returns : goal.returns
returns c =
    let C = c.args.code.now in
    let more = c.args.more.now in
    record {
      code = augmented_code C c.in_ok-from_rows.field-0 c.field.result.now c.length.result more c.deref.result.now c.requires.rows c.field.ensures.is c.length.ensures.is
          (c.deref.ensures.value ∙ c.in_ok-push_words.ensures.pushed ∙ ap (λ (r : List (List ℕ)). r ++ more) (c.in_ok-push_rows.ensures.pushed ∙ ap (λ (r : List (List ℕ)). r ++ C.rows) c.new-rows.ensures.items))
          c.in_ok-from_rows.ensures.code;
    }

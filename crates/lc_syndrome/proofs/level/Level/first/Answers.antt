use Rattle.std.proofs.Common.{◌∷◌, ◌++◌, [], ap, ap₂, ◌∙◌}
use Rattle.lc_syndrome.proofs.LevelLaws.{level_of_zero}
use Rattle.lc_syndrome.proofs.level.Level.first.Goals as goal

pub returns-clause-level : goal.returns-clause-level
returns-clause-level c =
    level_of_zero c.args.syndromes.now _ _ (c.in_ok-push.ensures.items ∙ ap (λ u. u ++ 0 ∷ []) c.new.ensures.items) (c.in_ok-push-2.ensures.items ∙ ap₂ (λ u n. u ++ n ∷ []) c.new-2.ensures.items c.length.ensures.is)

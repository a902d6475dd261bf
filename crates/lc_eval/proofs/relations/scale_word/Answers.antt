use Rattle.std.proofs.Common.{◌∙◌}
use Rattle.lc_eval.proofs.RelationLaws.{scale_applies}
use Rattle.lc_eval.proofs.relations.scale_word.Goals as goal

pub returns : goal.returns
returns c =
    scale_applies c.args.offset c.args.c c.args.x.now c.args.field.now c.min-element.result c.symbols.result.now c.scale_word.result c.made_word.result
    c.min-element.ensures
    (c.symbols.ensures.are ∙ c.in_ok-u.ensures)
    c.scale_word.ensures.is c.scale_word.ensures.refused c.made_word.ensures.is

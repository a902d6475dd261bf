use Rattle.std.proofs.Common.{◌∙◌}
use Rattle.lc_eval.proofs.RelationLaws.{add_applies}
use Rattle.lc_eval.proofs.relations.add_words.Goals as goal

pub returns : goal.returns
returns c =
    add_applies c.args.offset c.args.x.now c.args.y.now c.args.field.now c.symbols.result.now c.symbols-2.result.now c.add_words.result c.made_word.result
    (c.symbols.ensures.are ∙ c.in_ok-u.ensures)
    (c.symbols-2.ensures.are ∙ c.in_ok-v.ensures)
    c.add_words.ensures.is c.add_words.ensures.refused c.made_word.ensures.is

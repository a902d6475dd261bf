use Rattle.std.proofs.Common.{◌∙◌}
use Rattle.lc_eval.proofs.RelationLaws.{encode_applies}
use Rattle.lc_eval.proofs.relations.encode.Goals as goal

pub returns : goal.returns
returns c =
    encode_applies c.args.offset c.args.code.now c.args.list.now c.symbols.result.now c.encode.result c.made_word.result
    c.field-field.ensures.symbol
    (c.symbols.ensures.are ∙ c.in_ok-message.ensures)
    c.encode.ensures.is c.encode.ensures.refused c.made_word.ensures.is

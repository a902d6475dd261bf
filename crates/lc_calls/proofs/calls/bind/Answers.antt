use Rattle.std.proofs.Common.{ap, ◌∙◌}
use Rattle.lc_language.specs.Calls as language
use Rattle.lc_calls.proofs.KindLaws.{four_values, five_values}
use Rattle.lc_calls.proofs.calls.bind.Goals as goal

pub returns-in-len4 : goal.returns-in-len4
returns-in-len4 c =
    let values = four_values c.args.arguments.now c.a-item-then-arguments-lt5.result c.b-item-then-arguments-lt5.result c.c-item-then-arguments-lt5.result c.d-item.result c.in-len4.len_at_least c.in-len4.len_below c.a-item-then-arguments-lt5.is c.b-item-then-arguments-lt5.is c.c-item-then-arguments-lt5.is c.d-item.is in
    c.with_four.ensures ∙ ap (language.bind c.args.call) values

pub returns-in-len5 : goal.returns-in-len5
returns-in-len5 c =
    let values = five_values c.args.arguments.now c.a-item-then-arguments-lt6.result c.b-item-then-arguments-lt6.result c.c-item-then-arguments-lt6.result c.d-item-then-arguments-lt6.result c.e-item.result c.in-len5.len_at_least c.in-len5.len_below c.a-item-then-arguments-lt6.is c.b-item-then-arguments-lt6.is c.c-item-then-arguments-lt6.is c.d-item-then-arguments-lt6.is c.e-item.is in
    c.with_five.ensures ∙ ap (language.bind c.args.call) values

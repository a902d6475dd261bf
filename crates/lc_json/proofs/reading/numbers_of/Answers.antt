use Rattle.std.proofs.Common.{sym, rules}
use Rattle.lc_json.proofs.EachLaws.{each_start}
use Rattle.lc_json.proofs.InsideLaws.{numbers_missing, numbers_done}
use Rattle.lc_json.proofs.reading.numbers_of.Goals as goal

pub loop-item-init : goal.loop-item-init
loop-item-init c = each_start c.in_ok-numbers.numbers.items (search rules)

pub returns-in-None-clause-is : goal.returns-in-None-clause-is
returns-in-None-clause-is c = sym (numbers_missing c.in-Some.items.now.items _ c.loop-item.item-index c.item-item.result (search rules) (search rules) (search rules))

pub returns-clause-is : goal.returns-clause-is
returns-clause-is c = sym (numbers_done c.in-Some.items.now.items _ c.loop-item.item-index c.loop-item.numbers.items (search rules) (search rules) (search rules))

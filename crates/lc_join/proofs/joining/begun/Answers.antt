use Rattle.std.proofs.Common.{◌∙◌}
use Rattle.lc_join.proofs.JoinLaws.{usable_copy}
use Rattle.lc_join.proofs.joining.begun.Goals as goal

pub start-requires-clause-facts : goal.start-requires-clause-facts
start-requires-clause-facts c = usable_copy c.args.line.now c.in_ok-ranks.ranks.items (c.in_ok-ranks.ensures.items ∙ c.deref.ensures.value) c.requires.ranged

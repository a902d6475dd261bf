use Rattle.std.proofs.Common.{◌∙◌}
use Rattle.lc_search.proofs.StateLaws.{levels_counted}
use Rattle.lc_search.proofs.search.Search.move_on.Goals as goal

pub put_levels-requires-clause-room : goal.put_levels-requires-clause-room
put_levels-requires-clause-room c = levels_counted c.self.inside.sets _ _ (c.deref_mut.ensures.value ∙ c.self.invariant.0.levels_are)

use Rattle.std.proofs.Common.{vec_len, ◌-◌}
use Rattle.lc_search.specs.Telling.{IsAskedBy}
use Rattle.lc_search.proofs.TellingLaws.{Halfway}
use Rattle.lc_search.proofs.watching.ask_each.Given as goal

abbrev pub invariant-loop-next : goal.invariant-loop-next
invariant-loop-next g l = goal.F-IsAlwaysCallable g l.ask × Halfway (IsAskedBy (λ f item about advice left after. goal.F-step g f item about advice left after) l.note) l.fn.ask l.fn.items.items l.ask l.items.items l.next l.paused

abbrev pub decreases-loop-next : goal.decreases-loop-next
decreases-loop-next g l = vec_len l.items - l.next

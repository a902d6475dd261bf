use Rattle.std.proofs.Common.{◌-◌}
use Rattle.lc_rounds.specs.Surroundings.{seen_of, seen}
use Rattle.lc_rounds.proofs.LoopLaws.{GoesOn}
use Rattle.lc_rounds.proofs.rounds.search_need.Given as goal

abbrev pub invariant-loop-answer : goal.invariant-loop-answer
invariant-loop-answer g l =
    GoesOn l.initial.pace l.initial.search (seen g.V.Vault g.W.Watcher l.initial.surroundings) l.pace l.search
    (seen_of g.V.Vault g.W.Watcher l.vault l.watchers.items)

abbrev pub decreases-loop-answer : goal.decreases-loop-answer
decreases-loop-answer g l = l.initial.search.budget - l.search.progress.blocks

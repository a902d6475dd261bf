use Rattle.std.proofs.Common.{◌≡◌, take, All, None}
use Rattle.lc_board.proofs.round.nobody_holds.Given as goal

abbrev pub invariant-loop-actor : goal.invariant-loop-actor
invariant-loop-actor l = All (λ a. a.held ≡ None) (take l.actor-index l.actors)

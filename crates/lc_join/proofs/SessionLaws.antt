-- Sessions of `join`.
--   ends_so                      what is done is what the ending says
use Rattle.std.proofs.Common.{◌≡◌, ℕ, List, subst}
use Rattle.lc_share.specs.PartSession.{Ends}
use Rattle.lc_join.specs.Asked.{JoinOptions, asked, join_options}
use Rattle.lc_join.specs.JoinSession.{JoinEnding, EndsSo, Does, IsJoinSession}

pub ends_so : (words : List (List ℕ)) (budget : ℕ) (old new : Ends) (ending : JoinEnding) → asked budget ≡ join_options words → EndsSo budget old new ending → IsJoinSession words old new ending
ends_so words budget old new ending e h = subst (λ (o : JoinOptions). Does o old new ending) e h

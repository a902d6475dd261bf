use Rattle.std.proofs.Common.{◌≡◌, length, rules, arith, List, ap, ◌∙◌}
use Rattle.std.proofs.lemmas.List.{length-replicate}
use Rattle.lc_board.specs.Round.{idle}
use Rattle.lc_board.specs.declared.round.Actor.{Actor}
use Rattle.lc_board.specs.State.{round_of}
use Rattle.lc_board.proofs.Rounds.{restarted}
use Rattle.lc_board.proofs.round.RoundState.resume.Goals as goal

pub invariant_of-self : goal.invariant_of-self
invariant_of-self c = record {
  sound = restarted (round_of c.self.inside) c.reset_all.new.actors.items (search rules);
  few_blocks = c.self.invariant.few_blocks;
  few_actors = let f = c.self.invariant.few_actors in let e : length c.reset_all.new.actors.items ≡ length c.self.inside.actors.items = ap (λ (l : List Actor). length l) c.reset_all.ensures ∙ length-replicate (length c.self.inside.actors.items) idle in omega arith;
}

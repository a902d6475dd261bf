use Rattle.std.proofs.Common.{◌≡◌, ◌<◌, length, rules, arith, length-set}
use Rattle.lc_board.specs.State.{round_of}
use Rattle.lc_board.specs.declared.round.Mode.TheVariants.{Running}
use Rattle.lc_board.proofs.Rounds.{claimed}
use Rattle.lc_board.proofs.round.RoundState.claim.Goals as goal

pub invariant_of-self : goal.invariant_of-self
invariant_of-self c =
    let r = round_of c.self.inside in
    let run : c.self.inside.mode ≡ Running = search rules in
    let l : c.args.actor < length c.self.inside.actors.items = search rules in
    record {
      sound = claimed r c.args.actor c.index_mut.result.now c.index.result.now c.draw.new.self c.self.invariant.sound run l (search rules) (search rules) (search rules) c.draw.ensures;
      few_blocks = c.self.invariant.few_blocks;
      few_actors = let f = c.self.invariant.few_actors in omega (arith, length-set c.self.inside.actors.items c.args.actor c.draw.new.self);
    }

use Rattle.std.proofs.Common.{◌≡◌, ◌<◌, length, rules, arith, length-set}
use Rattle.std.specs.Prelude.{IsSome}
use Rattle.lc_board.specs.Round.{finished}
use Rattle.lc_board.specs.State.{round_of}
use Rattle.lc_board.specs.declared.round.Mode.TheVariants.{Running}
use Rattle.lc_board.proofs.Rounds.{told}
use Rattle.lc_board.proofs.round.RoundState.report.Goals as goal

pub invariant_of-self-then-value-self : goal.invariant_of-self-then-value-self
invariant_of-self-then-value-self c =
    let r = round_of c.self.inside in
    let run : c.self.inside.mode ≡ Running = search rules in
    let l : c.args.actor < length c.self.inside.actors.items = search rules in
    let ended = c.in_ok-finish.ensures.ok in
    let some_block : IsSome c.index_mut.result.now.held = ended.0.0 c.if-not-branch.false in
    let new : c.finish.new.self ≡ finished c.args.value c.index_mut.result.now = ended.1 in
    record {
      sound = told r c.args.actor c.args.value c.args.value c.index_mut.result.now c.finish.new.self c.self.invariant.sound run l (search rules) some_block new (omega arith);
      few_blocks = c.self.invariant.few_blocks;
      few_actors = let f = c.self.invariant.few_actors in omega (arith, length-set c.self.inside.actors.items c.args.actor c.finish.new.self);
    }

pub invariant_of-self-else-value-self : goal.invariant_of-self-else-value-self
invariant_of-self-else-value-self c =
    let r = round_of c.self.inside in
    let run : c.self.inside.mode ≡ Running = search rules in
    let l : c.args.actor < length c.self.inside.actors.items = search rules in
    let ended = c.in_ok-finish.ensures.ok in
    let some_block : IsSome c.index_mut.result.now.held = ended.0.0 c.if-not-branch.false in
    let new : c.finish.new.self ≡ finished c.args.value c.index_mut.result.now = ended.1 in
    record {
      sound = told r c.args.actor c.args.value c.self.inside.best c.index_mut.result.now c.finish.new.self c.self.invariant.sound run l (search rules) some_block new (omega arith);
      few_blocks = c.self.invariant.few_blocks;
      few_actors = let f = c.self.invariant.few_actors in omega (arith, length-set c.self.inside.actors.items c.args.actor c.finish.new.self);
    }

use Rattle.std.proofs.Common.{◌≡◌, length, arith, replicate, List, subst, sym, ap, ◌∙◌}
use Rattle.std.proofs.lemmas.List.{length-replicate}
use Rattle.lc_board.specs.declared.round.Mode.TheVariants.{Running}
use Rattle.lc_board.specs.declared.round.Actor.{Actor}
use Rattle.lc_board.specs.Round.{IsSound, idle}
use Rattle.lc_board.proofs.Rounds.{sound_start}
use Rattle.lc_board.proofs.round.RoundState.new.Goals as goal

pub invariant_of-result : goal.invariant_of-result
invariant_of-result c =
    let n : c.loop.counter ≡ c.args.actors = omega arith in
    let e : c.loop.list.items ≡ replicate c.args.actors idle = c.loop.invariant ∙ ap (λ k. replicate k idle) n in
    record {
      sound = subst (λ (l : List Actor). IsSound (record { count = c.args.count; first = c.args.first; next = 0; best = c.args.first; mode = Running; actors = l })) (sym e) (sound_start c.args.count c.args.first c.args.actors);
      few_blocks = c.requires.blocks;
      few_actors = let q = c.requires.actors in let f : length c.loop.list.items ≡ c.args.actors = ap (λ (l : List Actor). length l) e ∙ length-replicate c.args.actors idle in omega arith;
    }

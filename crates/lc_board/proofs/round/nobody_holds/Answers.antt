use Rattle.std.proofs.Common.{◌≡◌, None, arith, rules, All, get_or, take, ap, sym, subst, ◌∙◌}
use Rattle.std.proofs.lemmas.List.{take_all}
use Rattle.std.proofs.lemmas.List.Elements.{All-more}
use Rattle.lc_board.specs.declared.round.Actor.{Actor}
use Rattle.lc_board.proofs.round.nobody_holds.Goals as goal

pub loop-actor-preserved : goal.loop-actor-preserved
loop-actor-preserved c =
    let none : c.actor-item.result.held ≡ None = search rules in
    let here : (get_or c.args.actors.now c.loop-actor.actor-index c.actor-item.result).held ≡ None = ap (λ (a : Actor). a.held) (sym c.actor-item.is) ∙ none in
    All-more (λ (a : Actor). a.held ≡ None) c.args.actors.now c.loop-actor.actor-index c.actor-item.result (omega arith) c.loop-actor.invariant here

pub returns : goal.returns
returns c =
    let l = c.loop-actor-test.false in
    let all : take c.loop-actor.actor-index c.args.actors.now ≡ c.args.actors.now = take_all c.loop-actor.actor-index c.args.actors.now l in
    ((λ _. subst (All (λ (a : Actor). a.held ≡ None)) all c.loop-actor.invariant), λ _. search rules)

use Rattle.std.proofs.Common.{sym, ◌∙◌, arith}
use Rattle.lc_search.specs.State.{answer_of}
use Rattle.lc_rounds.proofs.LoopLaws.{goes_first, goes_next, ends_answered, state_answered, ends_used_up, ends_stopped}
use Rattle.lc_rounds.proofs.rounds.search_need.Goals as goal

pub loop-answer-init : goal.loop-answer-init
loop-answer-init g c = goes_first c.args.pace.now c.args.search.now _ c.requires.turn c.requires.fitting c.requires.slice

pub returns-in-Some-clause-goes : goal.returns-in-Some-clause-goes
returns-in-Some-clause-goes g c = ends_answered _ _ _ _ _ _ c.loop-answer.invariant (answer_of c.in-Some.answer) (sym c.in-Some.ensures.is)

pub returns-in-Some-clause-state : goal.returns-in-Some-clause-state
returns-in-Some-clause-state g c = (state_answered _ _ _ _ _ _ c.loop-answer.invariant (answer_of c.in-Some.answer) (sym c.in-Some.ensures.is)).0

pub returns-in-Some-clause-slice : goal.returns-in-Some-clause-slice
returns-in-Some-clause-slice g c = (state_answered _ _ _ _ _ _ c.loop-answer.invariant (answer_of c.in-Some.answer) (sym c.in-Some.ensures.is)).1

pub returns-then-is_used_up-clause-goes : goal.returns-then-is_used_up-clause-goes
returns-then-is_used_up-clause-goes g c = ends_used_up _ _ _ _ _ _ c.loop-answer.invariant (sym c.in_default.ensures.is) (sym c.is_used_up.ensures.is ∙ c.if-is_used_up.true)

pub loop-answer-preserved : goal.loop-answer-preserved
loop-answer-preserved g c =
    goes_next _ _ _ _ _ _ c.loop-answer.invariant c.pass_round.new.pace c.pass_round.new.search _ (sym c.in_default.ensures.is) (sym c.is_used_up.ensures.is ∙ c.if-is_used_up.false)
    c.in-Ok.ensures.pace c.in-Ok.ensures.search c.in-Ok.ensures.further.0 c.in-Ok.ensures.further.1 c.in-Ok.ensures.same.0 c.in-Ok.ensures.turn c.in-Ok.ensures.fitting c.in-Ok.ensures.told c.in-Ok.ensures.goes

pub returns-in-Err-clause-goes : goal.returns-in-Err-clause-goes
returns-in-Err-clause-goes g c =
    ends_stopped _ _ _ _ _ _ c.loop-answer.invariant c.pass_round.new.pace _ c.in-Err.stop (sym c.in_default.ensures.is) (sym c.is_used_up.ensures.is ∙ c.if-is_used_up.false) c.in-Err.ensures.goes

pub returns-in-Err-clause-pace : goal.returns-in-Err-clause-pace
returns-in-Err-clause-pace g c =
    let i = c.loop-answer.invariant in
    (c.in-Err.ensures.same.0.keep ∙ i.same.keep, (let a = i.told in let b = i.further in let d = c.in-Err.ensures.told in let e = c.in-Err.ensures.onward in omega (arith, a, b, d, e)))

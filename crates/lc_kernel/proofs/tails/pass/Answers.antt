use Rattle.std.proofs.Common.{◌-◌, ◌++◌, ◌∷◌, [], length, take, is_some, ap, ◌∙◌, arith}
use Rattle.lc_kernel.specs.Sums.{front_word}
use Rattle.lc_kernel.proofs.FrontLaws.{entries_are, front_same}
use Rattle.lc_kernel.proofs.TailLaws.{EndsRun, last_of_run, run_passed, last_fronts}
use Rattle.lc_kernel.proofs.tails.pass.Goals.{After-to_last_tail}
use Rattle.lc_kernel.proofs.tails.pass.Goals as goal

-- the spot that the code steps from is at the last message of the run
ends : (c : After-to_last_tail) → EndsRun c.args.block.now.sets.now c.args.spot.now c.to_last_tail.new.self c.args.count
ends c =
    let u = c.args.spot.now.coefficients in
    let a = c.to_last_tail.ensures in
    record {
      message = c.requires.at.message;
      level = c.requires.level;
      some = c.requires.some;
      end = c.requires.end;
      support = a.support;
      coefficients = a.coefficients ∙ ap (λ z. take (length u - 2) u ++ z ∷ z ∷ []) c.nonzero.ensures.is;
      set = a.set;
    }

pub to_last_tail-requires : goal.to_last_tail-requires
to_last_tail-requires c = record { two = omega (arith, c.requires.level, (entries_are c.args.block.now.sets.now c.args.spot.now c.requires.at.message).many) }

pub step-requires : goal.step-requires
step-requires c =
    let at = last_of_run c.args.block.now.sets.now c.args.block.now.plan.now.m c.args.block.now.number c.args.done c.args.count c.args.spot.now c.to_last_tail.new.self c.requires.at (ends (goal.at.step-requires c).After-to_last_tail) in
    rw (c.args.block.now.planned.dimension, c.args.block.now.planned.field) at.message

pub returns-in-None-clause-at : goal.returns-in-None-clause-at
returns-in-None-clause-at c =
    let e = c.step.ensures in
    run_passed c.args.block.now.sets.now c.args.block.now.plan.now c.args.block.now.number c.args.done c.args.count c.args.spot.now c.to_last_tail.new.self c.step.new.spot (is_some c.step.result) c.args.block.now.planned c.requires.at (ends (goal.at.returns-in-None-clause-at c).After-to_last_tail) c.requires.inside e.next e.message e.level e.set

pub returns-in-Some-clause-at : goal.returns-in-Some-clause-at
returns-in-Some-clause-at c =
    let e = c.step.ensures in
    run_passed c.args.block.now.sets.now c.args.block.now.plan.now c.args.block.now.number c.args.done c.args.count c.args.spot.now c.to_last_tail.new.self c.step.new.spot (is_some c.step.result) c.args.block.now.planned c.requires.at (ends (goal.at.returns-in-Some-clause-at c).After-to_last_tail) c.requires.inside e.next e.message e.level e.set

pub returns-in-None-clause-same : goal.returns-in-None-clause-same
returns-in-None-clause-same c i l =
    ap (λ t. front_word c.args.block.now.sets.now t i) (c.step.ensures.last c.in-None.is) ∙ last_fronts c.args.block.now.sets.now c.args.spot.now c.to_last_tail.new.self c.args.count i (ends (goal.at.returns-in-None-clause-same c).After-to_last_tail) (omega (arith, l, ap length c.support.ensures.places))

pub returns-in-Some-clause-same : goal.returns-in-Some-clause-same
returns-in-Some-clause-same c i l =
    let change = c.in-Some.ensures.change in
    front_same c.args.block.now.sets.now c.to_last_tail.new.self c.step.new.spot c.in-Some.first i (omega (arith, l)) c.step.ensures.set change.same_support change.same_coefficients ∙ last_fronts c.args.block.now.sets.now c.args.spot.now c.to_last_tail.new.self c.args.count i (ends (goal.at.returns-in-Some-clause-same c).After-to_last_tail) (omega (arith, l, ap length c.support.ensures.places))

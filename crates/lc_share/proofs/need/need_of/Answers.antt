use Rattle.lc_share.proofs.NeedLaws.{none_yet, after_line, after_silent, after_count, after_near, need_here}
use Rattle.lc_share.proofs.need.need_of.Goals as goal

pub loop-step-init : goal.loop-step-init
loop-step-init c = none_yet c.args.machine.now c.requires.unbound

pub loop-step-preserved-in-Line : goal.loop-step-preserved-in-Line
loop-step-preserved-in-Line c = after_line _ c.loop-step.machine c.step.new.self c.loop-step.invariant c.in-Line._line (rw c.in-Line.is at c.in_ok-step.ensures.does)

pub loop-step-preserved-in-Silent : goal.loop-step-preserved-in-Silent
loop-step-preserved-in-Silent c = after_silent _ c.loop-step.machine c.step.new.self c.loop-step.invariant (rw c.in-Silent.is at c.in_ok-step.ensures.does)

pub returns-in-Need : goal.returns-in-Need
returns-in-Need c = record { first = need_here _ c.loop-step.machine c.step.new.self c.loop-step.invariant c.in-Need.query (rw c.in-Need.is at c.in_ok-step.ensures.does) }

pub loop-step-preserved-in-Weights : goal.loop-step-preserved-in-Weights
loop-step-preserved-in-Weights c = after_count _ c.loop-step.machine c.step.new.self c.loop-step.invariant c.in-Weights._code (rw c.in-Weights.is at c.in_ok-step.ensures.does)

pub loop-step-preserved : goal.loop-step-preserved
loop-step-preserved c = after_near _ c.loop-step.machine c.step.new.self c.loop-step.invariant c.in-Near._code c.in-Near._word (rw c.in-Near.is at c.in_ok-step.ensures.does)

use Rattle.std.proofs.Common.{length, map}
use Rattle.lc_parse.specs.Views.{statement_of}
use Rattle.lc_share.proofs.NeedLaws.{HasMetNone}
use Rattle.lc_share.proofs.need.need_of.Given as goal

abbrev pub invariant-loop-step : goal.invariant-loop-step
invariant-loop-step l = HasMetNone (map statement_of l.initial.machine.left) l.machine

abbrev pub decreases-loop-step : goal.decreases-loop-step
decreases-loop-step l = length l.machine.left

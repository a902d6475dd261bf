use Rattle.std.proofs.Common.{◌+◌, ◌≤◌, length}
use Rattle.lc_poly.proofs.ListLaws.{IsDivided}
use Rattle.lc_poly.proofs.arithmetic.divide_in_place.Given as goal

abbrev pub invariant-loop-at : goal.invariant-loop-at
invariant-loop-at l = (l.at + l.degree ≤ length l.work) × IsDivided l.field l.by l.degree l.initial.work l.at l.work

abbrev pub decreases-loop-at : goal.decreases-loop-at
decreases-loop-at l = l.at

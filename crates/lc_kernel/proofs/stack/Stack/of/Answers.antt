use Rattle.std.proofs.Common.{length, ap, ◌∙◌}
use Rattle.std.specs.Arc.{arc_value}
use Rattle.lc_algebra.specs.Matrix.{Matrix}
use Rattle.lc_place.specs.Place.{SpotState}
use Rattle.lc_kernel.specs.PlaneSums.{words_of}
use Rattle.lc_kernel.proofs.SumLaws.{front_room, no_sums}
use Rattle.lc_kernel.proofs.stack.Stack.of.Goals as goal

pub invariant_of-result : goal.invariant_of-result
invariant_of-result c =
    let code = arc_value c.args.code in
    let spot = ap (λ (s : SpotState). s.room) c.in_ok-spot.ensures ∙ c.rows.ensures.is ∙ ap (λ (C : Matrix). length C.rows) c.deref.ensures in
    (front_room code c.in_ok-spot.spot (words_of c.args.sums) c.requires.zero.many c.requires.zero.zero spot, c.requires.multiples, c.requires.kept)

pub returns-clause-none : goal.returns-clause-none
returns-clause-none c =
    let none = ap (λ (s : SpotState). length s.support) c.in_ok-spot.ensures in
    rw none (no_sums (words_of c.args.sums))

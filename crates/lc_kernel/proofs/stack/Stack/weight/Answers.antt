use Rattle.std.proofs.Common.{◌<◌, ◌≤◌, [], length, slice_index_or, ap, sym, ◌∙◌, arith}
use Rattle.std.specs.Arc.{arc_value}
use Rattle.lc_algebra.specs.Word.{weight}
use Rattle.lc_kernel.specs.Kernel.{StackState}
use Rattle.lc_kernel.specs.PlaneSums.{words_of}
use Rattle.lc_kernel.proofs.SumLaws.{last_sum}
use Rattle.lc_kernel.proofs.stack.Stack.weight.Goals as goal

pub returns-clause-is : goal.returns-clause-is
returns-clause-is c =
    let i = c.self.inside in
    let some : 0 < length i.spot.support = rw (← ap (λ (s : StackState). s.spot) c.self.view_is) at c.requires.at in
    let few : length i.spot.support ≤ length (arc_value i.code).rows = omega (arith, c.support.ensures.few, c.self.invariant.0.room) in
    let last = last_sum (arc_value i.code) c.args.self.now i.spot (words_of i.sums) c.self.invariant.0 few some (sym c.self.view_is) in
    c.weight.ensures.is ∙ ap (λ u. weight (slice_index_or (words_of i.sums) (length u) [])) c.support.ensures.places ∙ ap weight last

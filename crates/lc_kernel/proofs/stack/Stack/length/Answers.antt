use Rattle.std.proofs.Common.{◌<◌, ◌≤◌, length, ap, sym, ◌∙◌, arith}
use Rattle.std.specs.Arc.{arc_value}
use Rattle.lc_algebra.specs.Matrix.{Matrix}
use Rattle.lc_kernel.specs.Kernel.{StackState}
use Rattle.lc_kernel.specs.PlaneSums.{words_of}
use Rattle.lc_kernel.proofs.SumLaws.{last_sum}
use Rattle.lc_kernel.proofs.stack.Stack.length.Goals as goal

pub returns-clause-word : goal.returns-clause-word
returns-clause-word c = λ given.
    let i = c.self.inside in
    let some : 0 < length i.spot.support = rw (← ap (λ (s : StackState). s.spot) c.self.view_is) at given in
    let few : length i.spot.support ≤ length (arc_value i.code).rows = omega (arith, c.support-few.ensures.few, c.self.invariant.0.room) in
    let last = last_sum (arc_value i.code) c.args.self.now i.spot (words_of i.sums) c.self.invariant.0 few some (sym c.self.view_is) in
    ap length (sym last) ∙ (c.self.invariant.0.words (length i.spot.support) (omega (arith, few, c.self.invariant.0.many))).long ∙ sym (c.cols.ensures.is ∙ ap (λ (C : Matrix). C.columns) c.deref.ensures)

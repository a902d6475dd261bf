use Rattle.std.proofs.Common.{◌<◌, ◌≤◌, [], length, slice_index, slice_index_or, ap, sym, ◌∙◌, arith}
use Rattle.std.specs.Arc.{arc_value}
use Rattle.lc_kernel.specs.Kernel.{StackState}
use Rattle.lc_kernel.specs.PlaneSums.{words_of}
use Rattle.lc_kernel.proofs.SumLaws.{last_sum}
use Rattle.lc_kernel.proofs.stack.Stack.symbol.Goals as goal

pub symbol-requires-clause-column : goal.symbol-requires-clause-column
symbol-requires-clause-column c =
    let i = c.self.inside in
    let few : length i.spot.support ≤ length (arc_value i.code).rows = omega (arith, c.support.ensures.few, c.self.invariant.0.room) in
    let level = ap length c.support.ensures.places in
    let inside : length c.support.result.now < length (words_of i.sums) = omega (arith, level, few, c.self.invariant.0.many) in
    omega (arith, (c.self.invariant.0.words (length c.support.result.now) inside).long, c.requires.inside, ap (λ (s : StackState). s.code.columns) c.self.view_is)

pub returns : goal.returns
returns c =
    let i = c.self.inside in
    let some : 0 < length i.spot.support = rw (← ap (λ (s : StackState). s.spot) c.self.view_is) at c.requires.at in
    let few : length i.spot.support ≤ length (arc_value i.code).rows = omega (arith, c.support.ensures.few, c.self.invariant.0.room) in
    let last = last_sum (arc_value i.code) c.args.self.now i.spot (words_of i.sums) c.self.invariant.0 few some (sym c.self.view_is) in
    record { is = c.symbol.ensures.is ∙ ap (λ u. slice_index (slice_index_or (words_of i.sums) (length u) []) c.args.i) c.support.ensures.places ∙ ap (λ w. slice_index w c.args.i) last }

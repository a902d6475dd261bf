use Rattle.std.proofs.Common.{◌≡◌, ◌<◌, ap, ◌∙◌, [], length, refl, subst, slice_index_or, arith}
use Rattle.std.specs.Arc.{arc_value}
use Rattle.lc_algebra.specs.Matrix.{Matrix}
use Rattle.lc_algebra.specs.Word.{zero_word}
use Rattle.lc_enumeration.specs.Search.{set_count}
use Rattle.lc_kernel.specs.Sums.{AreFronts}
use Rattle.lc_kernel.specs.PlaneSums.{words_of, AreKept}
use Rattle.lc_kernel.proofs.SumLaws.{code_message, fronts_are, step_fronts, stack_at}
use Rattle.lc_kernel.proofs.stack.Stack.advance.Goals as goal

pub refresh-requires-clause-kept : goal.refresh-requires-clause-kept
refresh-requires-clause-kept c =
    let at = rw (← c.self.view_is) at c.requires.at in
    subst (λ C. AreKept C c.self.inside.sums) at.code c.self.invariant.2

pub refresh-requires-clause-fronts : goal.refresh-requires-clause-fronts
refresh-requires-clause-fronts c =
    let C = c.args.sets.now in
    let s = c.self.inside.spot in
    let ws = words_of c.self.inside.sums in
    let at = rw (← c.self.view_is) at c.requires.at in
    let first : slice_index_or ws 0 [] ≡ zero_word C.columns = c.self.invariant.0.first ∙ ap (λ (C : Matrix). zero_word C.columns) at.code in
    let inside : s.set < set_count C = omega (arith, at.set, c.requires.plan.sets) in
    let before = fronts_are C c.args.plan.now.m s ws c.dimension-k.ensures.rows c.dimension-k.ensures.independent inside at.set first at.sums in
    step_fronts C s c.step.new.spot c.in-Some.first ws before (c.in-Some.ensures.change) c.step.ensures.set

pub returns-clause-at : goal.returns-clause-at
returns-clause-at c =
    let at = rw (← c.self.view_is) at c.requires.at in
    let spot = c.step.new.spot in
    stack_at c.args.sets.now (arc_value c.self.inside.code) c.args.plan.now.m spot (words_of c.refresh.new.self) _ at.code
    (omega (arith, at.set, c.step.ensures.set))
    (code_message c.args.sets.now c.args.plan.now spot c.requires.plan c.step.ensures.message)
    (omega (arith, at.level, c.step.ensures.level))
    c.refresh.ensures.room (subst (λ n. AreFronts c.args.sets.now spot n (words_of c.refresh.new.self)) (ap length c.support-level.ensures.places) c.refresh.ensures.fronts)
    refl

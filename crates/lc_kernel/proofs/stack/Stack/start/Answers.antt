use Rattle.std.proofs.Common.{◌≡◌, ap, ◌∙◌, [], length, refl, subst, slice_index_or}
use Rattle.std.specs.Arc.{arc_value}
use Rattle.lc_algebra.specs.Matrix.{Matrix}
use Rattle.lc_algebra.specs.Word.{zero_word}
use Rattle.lc_kernel.specs.Kernel.{StackState}
use Rattle.lc_kernel.specs.Sums.{AreFronts}
use Rattle.lc_kernel.specs.PlaneSums.{words_of, AreKept}
use Rattle.lc_kernel.proofs.SumLaws.{set_below, level_some, code_message, front_start, stack_at}
use Rattle.lc_kernel.proofs.stack.Stack.start.Goals as goal

pub refresh-requires-clause-kept : goal.refresh-requires-clause-kept
refresh-requires-clause-kept c =
    let code : arc_value c.self.inside.code ≡ c.args.sets.now = ap (λ (s : StackState). s.code) c.self.view_is ∙ c.requires.stack in
    subst (λ C. AreKept C c.self.inside.sums) code c.self.invariant.2

pub refresh-requires-clause-set : goal.refresh-requires-clause-set
refresh-requires-clause-set c =
    let found = c.phase_of-phase.ensures.found in
    (set_below c.args.sets.now c.args.plan.now found.0 c.start_of.new.spot.set c.requires.plan (c.start_of.ensures.set found.0 found.1)).1

pub refresh-requires-clause-fronts : goal.refresh-requires-clause-fronts
refresh-requires-clause-fronts c =
    let found = c.phase_of-phase.ensures.found in
    let code : arc_value c.self.inside.code ≡ c.args.sets.now = ap (λ (s : StackState). s.code) c.self.view_is ∙ c.requires.stack in
    let first : slice_index_or (words_of c.self.inside.sums) 0 [] ≡ zero_word c.args.sets.now.columns = c.self.invariant.0.first ∙ ap (λ (C : Matrix). zero_word C.columns) code in
    front_start c.args.sets.now c.start_of.new.spot (words_of c.self.inside.sums) c.dimension-k.ensures.rows c.dimension-k.ensures.independent
    (set_below c.args.sets.now c.args.plan.now found.0 c.start_of.new.spot.set c.requires.plan (c.start_of.ensures.set found.0 found.1)).1 first

pub returns-clause-at : goal.returns-clause-at
returns-clause-at c =
    let found = c.phase_of-phase.ensures.found in
    let code : arc_value c.self.inside.code ≡ c.args.sets.now = ap (λ (s : StackState). s.code) c.self.view_is ∙ c.requires.stack in
    let spot = c.start_of.new.spot in
    stack_at c.args.sets.now (arc_value c.self.inside.code) c.args.plan.now.m spot (words_of c.refresh.new.self) _ code
    (set_below c.args.sets.now c.args.plan.now found.0 spot.set c.requires.plan (c.start_of.ensures.set found.0 found.1)).0
    (code_message c.args.sets.now c.args.plan.now spot c.requires.plan c.start_of.ensures.message)
    (level_some c.args.plan.now.m found.0 _ (c.start_of.ensures.level found.0 found.1))
    c.refresh.ensures.room (subst (λ n. AreFronts c.args.sets.now spot n (words_of c.refresh.new.self)) (ap length c.support-level.ensures.places) c.refresh.ensures.fronts)
    refl

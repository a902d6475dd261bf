use Rattle.std.proofs.Common.{◌≡◌, ◌≢◌, ◌+◌, ◌<◌, slice_index, subst, sym, ap₂, ◌∙◌, arith}
use Rattle.lc_field.proofs.LogarithmLaws.{read_is}
use Rattle.lc_syndrome.specs.Syndrome.{coset_count, sum_number}
use Rattle.lc_syndrome.specs.Growth.{unknown}
use Rattle.lc_syndrome.proofs.SyndromeLaws.{syndrome_below}
use Rattle.lc_syndrome.proofs.GrowthLaws.{taken_in, passed_marked, passed_behind, item_below}
use Rattle.lc_syndrome.proofs.level.Level.offer.Goals as goal

pub returns-then-index-mark-clause-state : goal.returns-then-index-mark-clause-state
returns-then-index-mark-clause-state c =
    let first : c.index.result.now ≡ slice_index c.args.self.now.firsts.items c.args.place = read_is c.args.self.now.firsts.items c.args.place c.index.result.now c.index.ensures (omega (arith, c.requires.level.sofar.count, c.requires.place)) in
    passed_behind c.args.syndromes.now c.args.self.now.weight (c.args.self.now.weight + 1) c.args.mark.coordinate c.args.mark.symbol c.args.place _ _ _ _ _ _ c.requires.level c.requires.place c.requires.inside c.requires.nonzero (omega (arith, first)) c.requires.state

pub sum-s-requires-clause-first : goal.sum-s-requires-clause-first
sum-s-requires-clause-first c =
    let entry : c.index-2.result.now ≡ slice_index c.args.self.now.syndromes.items c.args.place = read_is c.args.self.now.syndromes.items c.args.place c.index-2.result.now c.index-2.ensures c.requires.place in
    omega (arith, entry, item_below c.args.syndromes.now c.args.self.now.weight c.args.place _ _ c.requires.level c.requires.place)

pub sum-s-requires-clause-second : goal.sum-s-requires-clause-second
sum-s-requires-clause-second c = subst (λ a. a < coset_count c.args.syndromes.now) (sym c.requires.number) (syndrome_below c.args.syndromes.now _)

pub returns-then-index-clause-state : goal.returns-then-index-clause-state
returns-then-index-clause-state c =
    let H = c.args.syndromes.now in
    let first : c.index.result.now ≡ slice_index c.args.self.now.firsts.items c.args.place = read_is c.args.self.now.firsts.items c.args.place c.index.result.now c.index.ensures (omega (arith, c.requires.level.sofar.count, c.requires.place)) in
    let entry : c.index-2.result.now ≡ slice_index c.args.self.now.syndromes.items c.args.place = read_is c.args.self.now.syndromes.items c.args.place c.index-2.result.now c.index-2.ensures c.requires.place in
    let is = c.sum-s.ensures.is ∙ ap₂ (sum_number H.field _) entry c.requires.number in
    let symbol : c.index-3.result.now ≡ slice_index c.args.steps.now.symbols.items c.sum-s.result = read_is c.args.steps.now.symbols.items c.sum-s.result c.index-3.result.now c.index-3.ensures (omega (arith, c.sum-s.ensures.below, c.requires.state.table.symbol_count)) in
    let marked : slice_index c.args.steps.now.symbols.items c.sum-s.result ≢ unknown = λ e. c.if-index.true (symbol ∙ e) in
    passed_marked H c.args.self.now.weight (c.args.self.now.weight + 1) c.args.mark.coordinate c.args.mark.symbol c.args.place c.sum-s.result _ _ _ _ _ _ c.requires.level (omega arith) c.requires.place c.requires.inside c.requires.element c.requires.nonzero (omega (arith, first)) is marked c.requires.state

pub returns-clause-state : goal.returns-clause-state
returns-clause-state c =
    let H = c.args.syndromes.now in
    let first : c.index.result.now ≡ slice_index c.args.self.now.firsts.items c.args.place = read_is c.args.self.now.firsts.items c.args.place c.index.result.now c.index.ensures (omega (arith, c.requires.level.sofar.count, c.requires.place)) in
    let entry : c.index-2.result.now ≡ slice_index c.args.self.now.syndromes.items c.args.place = read_is c.args.self.now.syndromes.items c.args.place c.index-2.result.now c.index-2.ensures c.requires.place in
    let is = c.sum-s.ensures.is ∙ ap₂ (sum_number H.field _) entry c.requires.number in
    let symbol : c.index-3.result.now ≡ slice_index c.args.steps.now.symbols.items c.sum-s.result = read_is c.args.steps.now.symbols.items c.sum-s.result c.index-3.result.now c.index-3.ensures (omega (arith, c.sum-s.ensures.below, c.requires.state.table.symbol_count)) in
    let free : slice_index c.args.steps.now.symbols.items c.sum-s.result ≡ unknown = sym symbol ∙ c.if-index.false in
    let small : c.args.mark.symbol < unknown = omega (arith, c.requires.element, c.requires.small) in
    rw (c.in_ok-push.ensures.items, c.in_ok-push-2.ensures.items)
    (taken_in H c.args.self.now.weight (c.args.self.now.weight + 1) c.args.mark.coordinate c.args.mark.symbol c.args.place c.sum-s.result _ _ _ _ _ _ c.requires.leaders c.requires.level (omega arith) c.requires.place c.requires.inside c.requires.element c.requires.nonzero small (omega (arith, first)) is free c.requires.state)

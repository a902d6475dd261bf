use Rattle.std.proofs.Common.{◌≤◌, arith, ap}
use Rattle.lc_place.specs.Place.{SpotState}
use Rattle.lc_place.proofs.Phases.{going, gone}
use Rattle.lc_place.proofs.plan.Plan.go_to.Goals as goal

pub nonzero_div-rank : goal.nonzero_div-rank
nonzero_div-rank c = (going c.args.self.now c.self.inside.size.k c.self.inside.size.q c.self.inside.size.m c.args.level c.args.rank c.self.inside.powers.items c.as_slice-powers.result.now c.self.view_is c.as_slice-powers.ensures.value c.self.invariant.1 c.self.inside.size.field.0 c.requires.level.0 c.requires.level.1 c.requires.small c.requires.inside).some

pub nonzero_rem-rank : goal.nonzero_rem-rank
nonzero_rem-rank c = (going c.args.self.now c.self.inside.size.k c.self.inside.size.q c.self.inside.size.m c.args.level c.args.rank c.self.inside.powers.items c.as_slice-powers.result.now c.self.view_is c.as_slice-powers.ensures.value c.self.invariant.1 c.self.inside.size.field.0 c.requires.level.0 c.requires.level.1 c.requires.small c.requires.inside).some

pub fill_support-requires-clause-inside : goal.fill_support-requires-clause-inside
fill_support-requires-clause-inside c = (going c.args.self.now c.self.inside.size.k c.self.inside.size.q c.self.inside.size.m c.args.level c.args.rank c.self.inside.powers.items c.as_slice-powers.result.now c.self.view_is c.as_slice-powers.ensures.value c.self.invariant.1 c.self.inside.size.field.0 c.requires.level.0 c.requires.level.1 c.requires.small c.requires.inside).support

pub fill_coefficients-requires-clause-inside : goal.fill_coefficients-requires-clause-inside
fill_coefficients-requires-clause-inside c = (going c.args.self.now c.self.inside.size.k c.self.inside.size.q c.self.inside.size.m c.args.level c.args.rank c.self.inside.powers.items c.as_slice-powers.result.now c.self.view_is c.as_slice-powers.ensures.value c.self.invariant.1 c.self.inside.size.field.0 c.requires.level.0 c.requires.level.1 c.requires.small c.requires.inside).coefficients

pub fill_support-requires-clause-small : goal.fill_support-requires-clause-small
fill_support-requires-clause-small c = (going c.args.self.now c.self.inside.size.k c.self.inside.size.q c.self.inside.size.m c.args.level c.args.rank c.self.inside.powers.items c.as_slice-powers.result.now c.self.view_is c.as_slice-powers.ensures.value c.self.invariant.1 c.self.inside.size.field.0 c.requires.level.0 c.requires.level.1 c.requires.small c.requires.inside).few

pub fill_coefficients-requires-clause-small : goal.fill_coefficients-requires-clause-small
fill_coefficients-requires-clause-small c = (going c.args.self.now c.self.inside.size.k c.self.inside.size.q c.self.inside.size.m c.args.level c.args.rank c.self.inside.powers.items c.as_slice-powers.result.now c.self.view_is c.as_slice-powers.ensures.value c.self.invariant.1 c.self.inside.size.field.0 c.requires.level.0 c.requires.level.1 c.requires.small c.requires.inside).less

pub returns-clause-at : goal.returns-clause-at
returns-clause-at c =
    (gone c.args.self.now c.self.inside.size.k c.self.inside.size.q c.self.inside.size.m c.args.level c.args.rank _ c.fill_support.new.support.items c.fill_coefficients.new.coefficients.items c.self.view_is
    (going c.args.self.now c.self.inside.size.k c.self.inside.size.q c.self.inside.size.m c.args.level c.args.rank c.self.inside.powers.items c.as_slice-powers.result.now c.self.view_is c.as_slice-powers.ensures.value c.self.invariant.1 c.self.inside.size.field.0 c.requires.level.0 c.requires.level.1 c.requires.small c.requires.inside)
    c.fill_support.ensures.at c.fill_coefficients.ensures.at).at

pub returns-clause-level : goal.returns-clause-level
returns-clause-level c =
    (gone c.args.self.now c.self.inside.size.k c.self.inside.size.q c.self.inside.size.m c.args.level c.args.rank _ c.fill_support.new.support.items c.fill_coefficients.new.coefficients.items c.self.view_is
    (going c.args.self.now c.self.inside.size.k c.self.inside.size.q c.self.inside.size.m c.args.level c.args.rank c.self.inside.powers.items c.as_slice-powers.result.now c.self.view_is c.as_slice-powers.ensures.value c.self.invariant.1 c.self.inside.size.field.0 c.requires.level.0 c.requires.level.1 c.requires.small c.requires.inside)
    c.fill_support.ensures.at c.fill_coefficients.ensures.at).places

pub invariant_of-spot : goal.invariant_of-spot
invariant_of-spot c =
    let s = (gone c.args.self.now c.self.inside.size.k c.self.inside.size.q c.self.inside.size.m c.args.level c.args.rank _ c.fill_support.new.support.items c.fill_coefficients.new.coefficients.items c.self.view_is
    (going c.args.self.now c.self.inside.size.k c.self.inside.size.q c.self.inside.size.m c.args.level c.args.rank c.self.inside.powers.items c.as_slice-powers.result.now c.self.view_is c.as_slice-powers.ensures.value c.self.invariant.1 c.self.inside.size.field.0 c.requires.level.0 c.requires.level.1 c.requires.small c.requires.inside)
    c.fill_support.ensures.at c.fill_coefficients.ensures.at) in
    let few : c.args.level ≤ c.spot.inside.room = omega (arith, c.requires.level.1, c.requires.room, ap (λ (x : SpotState). x.room) c.spot.view_is) in (
      omega (arith, c.spot.invariant.0, c.fill_support.ensures.capacity),
      omega (arith, c.spot.invariant.1, c.fill_coefficients.ensures.capacity),
      omega (arith, s.places, few, c.fill_support.new.support.ok.0),
      omega (arith, s.entries, few, c.fill_coefficients.new.coefficients.ok.0),
    )

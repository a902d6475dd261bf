use Rattle.std.proofs.Common.{◌≡◌, length, sym, ap, ◌∙◌, arith}
use Rattle.std.specs.Vec.{with_items}
use Rattle.std.proofs.lemmas.List.{with_items_is}
use Rattle.lc_place.proofs.Steps.{GoesOn, places_below, entries_above, entries_many, entries_top, first_entry, goes_by_raise, goes_by_move, stays}
use Rattle.lc_place.proofs.plan.Plan.step.Goals as goal

pub last_below-place-requires : goal.last_below-place-requires
last_below-place-requires c = entries_above c.args.self.now c.args.spot.now c.as_slice.result.now (c.as_slice.ensures.value ∙ ap (λ s. s.coefficients) c.spot.view_is) c.requires

raised : (c : goal.After-spot-1) → GoesOn c.args.self.now c.args.spot.now c.spot.inside.support.items (with_items c.spot.inside.coefficients c.raise.new.coefficients).items c.last_below-place.result
raised c =
    let many : length c.raise.new.coefficients ≡ length c.as_mut_slice.result.now = c.raise.auto.coefficients in
    goes_by_raise c.args.self.now c.args.spot.now c.self.inside.size.q c.last_below-place.result c.as_slice.result.now c.as_mut_slice.result.now c.raise.new.coefficients c.spot.inside.support.items (with_items c.spot.inside.coefficients c.raise.new.coefficients).items
    (sym (ap (λ p. p.q) c.self.view_is)) c.self.inside.size.field.0 (ap (λ s. s.support) c.spot.view_is)
    (c.as_slice.ensures.value ∙ ap (λ s. s.coefficients) c.spot.view_is) (c.as_mut_slice.ensures.value ∙ ap (λ s. s.coefficients) c.spot.view_is)
    (with_items_is c.spot.inside.coefficients c.raise.new.coefficients (many ∙ c.as_mut_slice.ensures.len)) many c.requires c.if-place-gt0.true
    (c.last_below-place.ensures.inside c.if-place-gt0.true) (c.last_below-place.ensures.below c.if-place-gt0.true) c.last_below-place.ensures.later
    c.raise.ensures.before c.raise.ensures.at c.raise.ensures.later

pub returns-then-place-gt0-clause-next : goal.returns-then-place-gt0-clause-next
returns-then-place-gt0-clause-next c = (raised c).next

pub returns-then-place-gt0-clause-change : goal.returns-then-place-gt0-clause-change
returns-then-place-gt0-clause-change c = (raised c).change _ _

pub returns-then-place-gt0-clause-message : goal.returns-then-place-gt0-clause-message
returns-then-place-gt0-clause-message c = (raised c).message

pub last_movable-requires : goal.last_movable-requires
last_movable-requires c = places_below c.args.self.now c.args.spot.now c.self.inside.size.k c.as_slice-2.result.now (sym (ap (λ p. p.k) c.self.view_is)) (c.as_slice-2.ensures.value ∙ ap (λ s. s.support) c.spot.view_is) c.requires

pub returns-in_default-clause-next : goal.returns-in_default-clause-next
returns-in_default-clause-next c =
    stays c.args.self.now c.args.spot.now c.self.inside.size.k c.self.inside.size.q c.as_slice.result.now c.as_slice-2.result.now
    (sym (ap (λ p. p.k) c.self.view_is)) (sym (ap (λ p. p.q) c.self.view_is)) c.self.inside.size.field.0
    (c.as_slice.ensures.value ∙ ap (λ s. s.coefficients) c.spot.view_is) (c.as_slice-2.ensures.value ∙ ap (λ s. s.support) c.spot.view_is) c.requires
    (λ a l m. c.last_below-place.ensures.later a (omega arith) m) c.in_default.ensures.inside

pub reset-first-requires-clause-inside : goal.reset-first-requires-clause-inside
reset-first-requires-clause-inside c =
    omega (arith, c.in-Some.ensures.inside, entries_many c.args.self.now c.args.spot.now c.as_slice-2.result.now c.as_mut_slice-3.result.now (c.as_slice-2.ensures.value ∙ ap (λ s. s.support) c.spot.view_is) (c.as_mut_slice-3.ensures.value ∙ ap (λ s. s.coefficients) c.spot.view_is) c.requires)

pub reset-first-requires-clause-first : goal.reset-first-requires-clause-first
reset-first-requires-clause-first c =
    first_entry c.args.self.now c.args.spot.now c.as_mut_slice-3.result.now c.in-Some.column (c.as_mut_slice-3.ensures.value ∙ ap (λ s. s.coefficients) c.spot.view_is) c.requires
    (omega (arith, c.in-Some.ensures.inside, entries_many c.args.self.now c.args.spot.now c.as_slice-2.result.now c.as_mut_slice-3.result.now (c.as_slice-2.ensures.value ∙ ap (λ s. s.support) c.spot.view_is) (c.as_mut_slice-3.ensures.value ∙ ap (λ s. s.coefficients) c.spot.view_is) c.requires))

pub reset-first-requires-clause-high : goal.reset-first-requires-clause-high
reset-first-requires-clause-high c =
    entries_top c.args.self.now c.args.spot.now c.self.inside.size.q 0 c.as_slice.result.now c.as_mut_slice-3.result.now (sym (ap (λ p. p.q) c.self.view_is)) c.self.inside.size.field.0
    (c.as_slice.ensures.value ∙ ap (λ s. s.coefficients) c.spot.view_is) (c.as_mut_slice-3.ensures.value ∙ ap (λ s. s.coefficients) c.spot.view_is) c.requires
    (λ a l m. c.last_below-place.ensures.later a (omega arith) m)

moved : (c : goal.After-spot-3-1) → GoesOn c.args.self.now c.args.spot.now (with_items c.spot.inside.support c.move_on.new.support).items (with_items c.spot.inside.coefficients c.reset-first.new.coefficients).items c.reset-first.result
moved c =
    let manys : length c.move_on.new.support ≡ length c.as_mut_slice-2.result.now = c.move_on.auto.support in
    let manyc : length c.reset-first.new.coefficients ≡ length c.as_mut_slice-3.result.now = c.reset-first.auto.coefficients in
    goes_by_move c.args.self.now c.args.spot.now c.self.inside.size.k c.self.inside.size.q c.reset-first.result c.in-Some.column
    c.as_slice.result.now c.as_slice-2.result.now c.as_mut_slice-2.result.now c.move_on.new.support c.as_mut_slice-3.result.now c.reset-first.new.coefficients
    (with_items c.spot.inside.support c.move_on.new.support).items (with_items c.spot.inside.coefficients c.reset-first.new.coefficients).items
    (sym (ap (λ p. p.k) c.self.view_is)) (sym (ap (λ p. p.q) c.self.view_is)) c.self.inside.size.field.0
    (c.as_slice.ensures.value ∙ ap (λ s. s.coefficients) c.spot.view_is) (c.as_slice-2.ensures.value ∙ ap (λ s. s.support) c.spot.view_is)
    (c.as_mut_slice-2.ensures.value ∙ ap (λ s. s.support) c.spot.view_is) (c.as_mut_slice-3.ensures.value ∙ ap (λ s. s.coefficients) c.spot.view_is)
    (with_items_is c.spot.inside.support c.move_on.new.support (manys ∙ c.as_mut_slice-2.ensures.len)) (with_items_is c.spot.inside.coefficients c.reset-first.new.coefficients (manyc ∙ c.as_mut_slice-3.ensures.len))
    manys manyc c.requires (λ a l m. c.last_below-place.ensures.later a (omega arith) m) c.in-Some.ensures.inside c.in-Some.ensures.room c.in-Some.ensures.later
    c.move_on.ensures.before c.move_on.ensures.later c.reset-first.ensures.ones c.reset-first.ensures.early c.reset-first.ensures.same c.reset-first.ensures.changed

pub returns-clause-next : goal.returns-clause-next
returns-clause-next c = (moved c).next

pub returns-clause-change : goal.returns-clause-change
returns-clause-change c = (moved c).change _ _

pub returns-clause-message : goal.returns-clause-message
returns-clause-message c = (moved c).message

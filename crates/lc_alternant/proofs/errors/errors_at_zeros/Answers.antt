use Rattle.std.proofs.Common.{◌∙◌, sym, ap, subst, length}
use Rattle.lc_alternant.specs.Checks.{IsPointed}
use Rattle.lc_alternant.specs.Chosen.{chosen, spread}
use Rattle.lc_alternant.proofs.SolutionLaws.{pointed_chosen, chosen_one, spread_back, spread_word}
use Rattle.lc_alternant.proofs.errors.errors_at_zeros.Goals as goal

pub solution-requires-clause-pointed : goal.solution-requires-clause-pointed
solution-requires-clause-pointed c =
    let K = c.args.locator.now in
    let xs = c.args.points.now in
    let ys = c.args.multipliers.now in
    let vs = c.args.values.now in
    let us = c.deref.result.now in
    subst (IsPointed K us) (sym (c.deref-2.ensures.value ∙ c.in_ok-multipliers.ensures.are)) (subst (λ u. IsPointed K u (chosen vs ys)) (sym (c.deref.ensures.value ∙ c.in_ok-points.ensures.are)) (pointed_chosen K xs ys vs c.requires.pointed))

pub returns-in-Some-clause-word : goal.returns-in-Some-clause-word
returns-in-Some-clause-word c =
    let vs = c.args.values.now in
    spread_word c.args.locator.now (length c.args.points.now) (length c.deref.result.now) vs c.in-Some.errors c.from_vec.result c.in_ok-errors.field-0 c.in-Some.is c.in_ok-errors.ensures.word c.requires.values
    (c.from_vec.ensures.is ∙ c.in_ok-word-in-Some.ensures.are ∙ ap (spread vs) c.symbols.ensures.are)

pub returns-in-Some-clause-one : goal.returns-in-Some-clause-one
returns-in-Some-clause-one c = λ z a b q.
    let xs = c.args.points.now in
    let ys = c.args.multipliers.now in
    let vs = c.args.values.now in
    let o = c.in_ok-errors.field-0 in
    spread_back vs z c.in-Some.errors c.from_vec.result o (c.requires.values ∙ sym a.long) b c.in-Some.is
    (chosen_one c.args.locator.now xs ys vs c.deref.result.now c.deref-2.result.now c.args.right.now z o c.requires.pointed c.requires.values (c.deref.ensures.value ∙ c.in_ok-points.ensures.are) (c.deref-2.ensures.value ∙ c.in_ok-multipliers.ensures.are) c.in_ok-errors.ensures.one a b q)
    (c.from_vec.ensures.is ∙ c.in_ok-word-in-Some.ensures.are ∙ ap (spread vs) c.symbols.ensures.are)

pub returns-clause-one : goal.returns-clause-one
returns-clause-one c = λ z a b q.
    let xs = c.args.points.now in
    let ys = c.args.multipliers.now in
    let vs = c.args.values.now in
    let o = c.in_ok-errors.field-0 in
    let t = chosen_one c.args.locator.now xs ys vs c.deref.result.now c.deref-2.result.now c.args.right.now z o c.requires.pointed c.requires.values (c.deref.ensures.value ∙ c.in_ok-points.ensures.are) (c.deref-2.ensures.value ∙ c.in_ok-multipliers.ensures.are) c.in_ok-errors.ensures.one a b q in
    absurd (cc (c.in-None.is, t))

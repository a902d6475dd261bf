use Rattle.std.proofs.Common.{◌≡◌, ◌*◌, sym, subst}
use Rattle.lc_constructions.specs.Alternant.{AlternantForm, IsForm, IsFormOf}
use Rattle.lc_alternant.specs.Checks.{AreSyndromes, IsReach}
use Rattle.lc_alternant.proofs.DecodedLaws.{reach_few, few_told, near_told, found_back}
use Rattle.lc_alternant.proofs.decoder.corrected.Goals as goal

pub key_values-requires-clause-few : goal.key_values-requires-clause-few
key_values-requires-clause-few c = reach_few c.args.code.now.field c.args.form.now c.args.t c.requires.form.form_is c.requires.reach

pub errors_at_zeros-requires-clause-few : goal.errors_at_zeros-requires-clause-few
errors_at_zeros-requires-clause-few c =
    let f = c.args.code.now.field in
    let inside = c.form.inside in
    let form : AlternantForm = record { locator = inside.locator; points = inside.points.items; multipliers = inside.multipliers.items; r = inside.r } in
    let same : form ≡ c.args.form.now = c.form.view_is in
    few_told f form c.args.t c.args.syndromes.now c.in_ok-values.values.items c.deref.result.now c.deref-2.result.now c.deref-4.result.now (subst (IsForm f) (sym same) c.requires.form.form_is) c.in_ok-values.ensures.are c.requires.syndromes.count c.deref.ensures.value c.deref-2.ensures.value c.deref-4.ensures.value

pub returns-in-Some-clause-one : goal.returns-in-Some-clause-one
returns-in-Some-clause-one c = λ u w.
    let C = c.args.code.now in
    let t = c.args.t in
    let x = c.args.word.now in
    let s = c.args.syndromes.now in
    let o = c.in_ok-errors.field-0 in
    let inside = c.form.inside in
    let form : AlternantForm = record { locator = inside.locator; points = inside.points.items; multipliers = inside.multipliers.items; r = inside.r } in
    let same : form ≡ c.args.form.now = c.form.view_is in
    let h : IsFormOf C form = subst (IsFormOf C) (sym same) c.requires.form in
    let found = near_told C form x u s c.in_ok-values.values.items c.deref.result.now c.deref-2.result.now c.deref-3.result.now c.deref-4.result.now t o h c.requires.word
    (subst (λ v. IsReach v t) (sym same) c.requires.reach)
    (subst (λ v. AreSyndromes C.field v x (2 * t) s) (sym same) c.requires.syndromes)
    c.in_ok-values.ensures.are c.deref.ensures.value c.deref-2.ensures.value c.deref-3.ensures.value c.deref-4.ensures.value c.in_ok-errors.ensures.one w in
    found_back C form x u c.in-Some.errors c.symbols.result.now t o c.in_ok-near-in-Some.near c.field.result.now h c.requires.word c.in-Some.is found c.symbols.ensures.are c.field.ensures.is c.in_ok-near-in-Some.ensures.one w

pub returns-clause-one : goal.returns-clause-one
returns-clause-one c = λ u w.
    let C = c.args.code.now in
    let t = c.args.t in
    let x = c.args.word.now in
    let s = c.args.syndromes.now in
    let o = c.in_ok-errors.field-0 in
    let inside = c.form.inside in
    let form : AlternantForm = record { locator = inside.locator; points = inside.points.items; multipliers = inside.multipliers.items; r = inside.r } in
    let same : form ≡ c.args.form.now = c.form.view_is in
    let found = near_told C form x u s c.in_ok-values.values.items c.deref.result.now c.deref-2.result.now c.deref-3.result.now c.deref-4.result.now t o
    (subst (IsFormOf C) (sym same) c.requires.form) c.requires.word
    (subst (λ v. IsReach v t) (sym same) c.requires.reach)
    (subst (λ v. AreSyndromes C.field v x (2 * t) s) (sym same) c.requires.syndromes)
    c.in_ok-values.ensures.are c.deref.ensures.value c.deref-2.ensures.value c.deref-3.ensures.value c.deref-4.ensures.value c.in_ok-errors.ensures.one w in
    absurd (cc (c.in-None.is, found))

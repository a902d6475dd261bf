use Rattle.std.proofs.Common.{sym, ap, subst, ◌∙◌}
use Rattle.lc_constructions.specs.Alternant.{AlternantForm}
use Rattle.lc_code.specs.Coordinates.{relative_degree, IsNumbering}
use Rattle.lc_code.proofs.CoordinateSteps.{entries_inside, expanded_more, expanded_whole, symbols}
use Rattle.lc_code.proofs.expansion.expanded_checks.Goals as goal

pub add_coordinates-requires-clause-entries : goal.add_coordinates-requires-clause-entries
add_coordinates-requires-clause-entries c =
    let f = c.args.field.now in
    let form = c.args.form.now in
    let e = ap (λ (v : AlternantForm). v.locator) c.form.view_is in
    let t = subst (λ K. IsNumbering f K c.in_ok-numbers.numbers.items) e c.in_ok-numbers.ensures.are in
    entries_inside f form c.deref.result.now c.deref-in-loop-j.result.now c.loop-j.j (subst (IsNumbering f form.locator) (sym c.deref.ensures.value) t) (c.deref-in-loop-j.ensures.value ∙ c.in_ok-entries.ensures.are)

pub loop-j-preserved : goal.loop-j-preserved
loop-j-preserved c =
    let e = ap (λ (v : AlternantForm). v.locator) c.form.view_is in
    expanded_more c.args.field.now c.args.form.now c.in_ok-numbers.numbers.items c.deref.result.now c.deref-in-loop-j.result.now c.relative_degree-degree.result c.loop-j.j c.loop-j.rows.items c.add_coordinates.new.rows.items
    (c.relative_degree-degree.ensures.is ∙ ap (relative_degree c.args.field.now) e)
    c.deref.ensures.value
    (c.deref-in-loop-j.ensures.value ∙ c.in_ok-entries.ensures.are)
    c.loop-j.invariant
    c.in_ok-add_coordinates.ensures.added

pub returns-clause-words : goal.returns-clause-words
returns-clause-words c =
    let f = c.args.field.now in
    let form = c.args.form.now in
    let ts = c.in_ok-numbers.numbers.items in
    let e = ap (λ (v : AlternantForm). v.locator) c.form.view_is in
    let t = subst (λ K. IsNumbering f K ts) e c.in_ok-numbers.ensures.are in
    symbols f form c.loop-j.j c.loop-j.rows.items c.requires.form.count (expanded_whole f form ts c.loop-j.j c.loop-j.rows.items t c.loop-j.invariant)

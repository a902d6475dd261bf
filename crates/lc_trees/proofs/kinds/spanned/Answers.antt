use Rattle.std.proofs.Common.{◌≡◌, ◌==◌, true, false, length, refl, sym, subst, ◌∙◌, rules}
use Rattle.std.specs.List.{list_all}
use Rattle.lc_algebra.specs.Span.{InSpan}
use Rattle.lc_constructions.specs.Code.{IsCode}
use Rattle.lc_trees.proofs.KindLaws.{other_length, outside_code, span_outcome}
use Rattle.lc_trees.proofs.kinds.spanned.Goals as goal

pub returns-then-not-have_length-clause-is : goal.returns-then-not-have_length-clause-is
returns-then-not-have_length-clause-is c =
    let C = c.args.of.now.code in
    let rows = c.args.rows.now in
    let short : c.have_length.result ≡ false = search rules in
    other_length c.args.number rows C c.args.of.now.bound (subst (λ m. list_all (λ row. length row == m) rows ≡ false) c.length.ensures.is (sym c.have_length.ensures.is ∙ short))

pub returns-then-not-branch-clause-is : goal.returns-then-not-branch-clause-is
returns-then-not-branch-clause-is c =
    let C = c.args.of.now.code in
    let rows = c.args.rows.now in
    let long : c.have_length.result ≡ true = search rules in
    let outside : c.in_ok-are_inside.field-0 ≡ false = search rules in
    outside_code c.args.number rows C c.args.of.now.bound (subst (λ m. list_all (λ row. length row == m) rows ≡ true) c.length.ensures.is (sym c.have_length.ensures.is ∙ long)) (sym c.in_ok-are_inside.ensures.is ∙ outside)

pub returns-clause-is : goal.returns-clause-is
returns-clause-is c =
    let C = c.args.of.now.code in
    let rows = c.args.rows.now in
    let E = c.in_ok-span.span in
    let long : c.have_length.result ≡ true = search rules in
    let inside : c.in_ok-are_inside.field-0 ≡ true = search rules in
    let code = subst (λ n. IsCode C.field n (InSpan C.field n rows) E) c.length-2.ensures.is (subst (λ f. IsCode f c.length-2.result (InSpan f c.length-2.result rows) E) c.field.ensures.is c.in_ok-span.ensures.code) in
    span_outcome c.args.number c.args.of.now.bound rows C E c.args.of.now.bound c.own.result (subst (λ m. list_all (λ row. length row == m) rows ≡ true) c.length.ensures.is (sym c.have_length.ensures.is ∙ long)) (sym c.in_ok-are_inside.ensures.is ∙ inside) code refl c.own.ensures.is

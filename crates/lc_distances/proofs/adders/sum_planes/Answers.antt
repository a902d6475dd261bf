use Rattle.std.proofs.Common.{sym, ◌∙◌}
use Rattle.lc_distances.proofs.FormulaLaws.{even_sum, last_field}
use Rattle.lc_distances.proofs.adders.sum_planes.Goals as goal

pub returns-then-characteristic-eq2 : goal.returns-then-characteristic-eq2
returns-then-characteristic-eq2 c = record { is = even_sum c.args.field.now c.args.u.now c.args.v.now c.sum_even.result (sym c.characteristic.ensures.is ∙ c.if-characteristic-eq2.true) c.sum_even.ensures.is }

pub returns : goal.returns
returns c =
    let is = c.size-size.ensures.is in
    let last = last_field c.args.field.now c.requires.symbol (λ e. c.if-characteristic-eq2.false (c.characteristic.ensures.is ∙ e)) (λ e. c.if-size-eq3.false (is ∙ e)) (λ e. c.if-size-eq5.false (is ∙ e)) (λ e. c.if-size-eq7.false (is ∙ e)) (λ e. c.if-size-eq9.false (is ∙ e)) (λ e. c.if-size-eq11.false (is ∙ e)) in
    record { is = c.sum_thirteen.ensures.is c.args.field.now last }

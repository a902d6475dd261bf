use Rattle.std.proofs.Common.{sym, ap, ◌∙◌, arith}
use Rattle.lc_algebra.specs.Field.{size}
use Rattle.lc_eval.proofs.StockLaws.{codes_are_one}
use Rattle.lc_eval.proofs.stock.is_same.Goals as goal

pub returns : goal.returns
returns c _ =
    codes_are_one c.args.a.now c.args.b.now
    (ap size (sym c.field.ensures.is) ∙ sym c.size.ensures.is ∙ c.if-size.false ∙ c.size-2.ensures.is ∙ ap size c.field-2.ensures.is)
    (sym c.length.ensures.is ∙ c.if-length.false ∙ c.length-2.ensures.is)
    (sym c.dimension.ensures.is ∙ c.if-dimension.false ∙ c.dimension-2.ensures.is)
    (λ j l. c.loop-i.invariant j (omega (arith, l, c.dimension-i-end.ensures.is, c.loop-i-test.false)))

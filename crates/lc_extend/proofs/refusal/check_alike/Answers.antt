use Rattle.std.proofs.Common.{sym, ap, ◌∙◌}
use Rattle.lc_algebra.specs.Field.{size}
use Rattle.lc_algebra.proofs.EmbeddingTests.{told_by_size}
use Rattle.lc_extend.proofs.refusal.check_alike.Goals as goal

pub returns-clause-field : goal.returns-clause-field
returns-clause-field c =
    told_by_size c.args.c.now.field c.args.d.now.field (ap size (sym c.field.ensures.is) ∙ sym c.size.ensures.is ∙ c.if-size.false ∙ c.size-2.ensures.is ∙ ap size c.field-2.ensures.is)

pub returns-clause-tail_field : goal.returns-clause-tail_field
returns-clause-tail_field c =
    told_by_size c.args.c.now.field c.args.e.now.field (ap size (sym c.field-3.ensures.is) ∙ sym c.size-3.ensures.is ∙ c.if-size-2.false ∙ c.size-4.ensures.is ∙ ap size c.field-4.ensures.is)

use Rattle.std.proofs.Common.{is_some, map, ap, ◌∙◌}
use Rattle.lc_language.specs.declared.Kind.TheVariants.{Number, Field, Numbers, Lists, Code}
use Rattle.lc_calls.proofs.KindLaws.{kind_told, mapped_told}
use Rattle.lc_calls.proofs.kinds.is_kind.Goals as goal

pub returns-in-Number : goal.returns-in-Number
returns-in-Number c = kind_told c.args.kind Number _ c.is_some.result c.in-Number.is (c.is_some.ensures ∙ ap is_some c.number.ensures)

pub returns-in-Field : goal.returns-in-Field
returns-in-Field c = mapped_told c.args.kind Field _ (λ f. f.now) c.field.result c.is_some-in-Field.result c.in-Field.is c.is_some-in-Field.ensures c.field.ensures

pub returns-in-Numbers : goal.returns-in-Numbers
returns-in-Numbers c = mapped_told c.args.kind Numbers _ (λ u. u.now) c.numbers.result c.is_some-in-Numbers.result c.in-Numbers.is c.is_some-in-Numbers.ensures c.numbers.ensures

pub returns-in-Lists : goal.returns-in-Lists
returns-in-Lists c = mapped_told c.args.kind Lists _ (λ rows. map (λ row. row.items) rows.now) c.lists.result c.is_some-in-Lists.result c.in-Lists.is c.is_some-in-Lists.ensures c.lists.ensures

pub returns-in-Code : goal.returns-in-Code
returns-in-Code c = mapped_told c.args.kind Code _ (λ C. C.now) c.code.result c.is_some-in-Code.result c.in-Code.is c.is_some-in-Code.ensures c.code.ensures

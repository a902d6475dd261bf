use Rattle.std.proofs.Common.{ap, ◌∙◌}
use Rattle.lc_algebra.specs.Field.{size}
use Rattle.lc_trees.proofs.KindLaws.{extend_outcome}
use Rattle.lc_trees.proofs.kinds.lengthened.Goals as goal

pub returns : goal.returns
returns c =
    let of = c.args.of.now in
    record { is = extend_outcome c.args.number c.even_bound-bound.result c.size.result of.code of.bound c.extended-code.result c.own.result (c.size.ensures.is ∙ ap size c.field.ensures.is) c.even_bound-bound.ensures.is c.extended-code.ensures.code c.extended-code.ensures.refused c.own.ensures.is }

use Rattle.std.proofs.Common.{◌*◌, refl}
use Rattle.lc_constructions.specs.Concatenated.{InConcatenated}
use Rattle.lc_constructions.specs.Refusals.{concatenated_refusals}
use Rattle.lc_trees.proofs.OutcomeLaws.{own_result}
use Rattle.lc_trees.proofs.kinds.nested.Goals as goal

pub returns : goal.returns
returns c =
    let outer = c.args.outer.now in
    let inner = c.args.inner.now in
    record { is = own_result c.args.number (outer.bound * inner.bound) (outer.bound * inner.bound) c.concatenated-code.result c.own.result (concatenated_refusals outer.code inner.code) inner.code.field (outer.code.columns * inner.code.columns) (InConcatenated outer.code inner.code) refl c.concatenated-code.ensures.code c.concatenated-code.ensures.refused c.own.ensures.is }

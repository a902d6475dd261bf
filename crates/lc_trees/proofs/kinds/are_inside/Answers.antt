use Rattle.std.proofs.Common.{◌≡◌, ◌+◌, ◌↔◌, true, IsTrue, subst, ◌∙◌, rules, arith}
use Rattle.lc_constructions.specs.Code.{InCode}
use Rattle.lc_trees.proofs.KindLaws.{inside_next, kept_length}
use Rattle.lc_trees.proofs.kinds.are_inside.Goals as goal

pub loop-row-preserved : goal.loop-row-preserved
loop-row-preserved c =
    let told = subst (λ w. IsTrue c.contains.result ↔ InCode c.args.code.now w) (c.symbols.ensures.are ∙ c.row-item.is) c.contains.ensures.is in
    let inside : c.contains.result ≡ true = search rules in (
      search (rules, kept_length),
      inside_next c.args.code.now c.args.rows.now c.loop-row.row-index (c.loop-row.row-index + 1) c.row-item.result c.contains.result c.loop-row-test.true c.loop-row.invariant.1 told inside (omega arith),
    )

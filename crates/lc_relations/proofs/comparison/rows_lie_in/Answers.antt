use Rattle.std.proofs.Common.{◌∙◌, [], arith}
use Rattle.lc_constructions.specs.Code.{InCode}
use Rattle.lc_relations.proofs.RowLaws.{all_more, all_told}
use Rattle.lc_relations.proofs.comparison.rows_lie_in.Goals as goal

pub loop-i-preserved : goal.loop-i-preserved
loop-i-preserved c = (
  all_more (InCode c.args.b.now) c.args.a.now.rows c.loop-i.i c.row.result.now []
      (omega (arith, c.loop-i-test.true, c.loop-i.auto.i-end, c.dimension-i-end.ensures.is))
      c.row.ensures.is c.loop-i.invariant.0
      (c.contains.ensures.is.0 c.if-not-contains.false),
  c.contains.ensures.length ∙ c.loop-i.invariant.1,
)

pub returns : goal.returns
returns c = record {
  is = all_told (InCode c.args.b.now) c.args.a.now.rows c.loop-i.i (omega (arith, c.loop-i-test.false, c.loop-i.auto.i-end, c.dimension-i-end.ensures.is)) c.loop-i.invariant.0;
}

use Rattle.lc_relations.proofs.ComparisonLaws.{subcode_by_rows}
use Rattle.lc_relations.proofs.comparison.lies_in.Goals as goal

pub returns : goal.returns
returns c = record {
  is = subcode_by_rows c.args.a.now c.args.b.now c.rows_lie_in.result c.requires.field c.requires.columns c.matrix-first.ensures.rows c.matrix-second.ensures.rows c.rows_lie_in.ensures.is;
}

use Rattle.lc_relations.proofs.ComparisonLaws.{same_by_rows}
use Rattle.lc_relations.proofs.comparison.have_same_words.Goals as goal

pub returns : goal.returns
returns c = record {
  is = same_by_rows c.args.a.now c.args.b.now c.have_same_rows.result c.requires.field c.requires.columns c.matrix-first.ensures.rows c.matrix-first.ensures.reduced c.matrix-second.ensures.rows c.matrix-second.ensures.reduced c.have_same_rows.ensures.is;
}

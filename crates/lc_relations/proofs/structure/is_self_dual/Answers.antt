use Rattle.lc_relations.proofs.StructureLaws.{dual_by_rows}
use Rattle.lc_relations.proofs.structure.is_self_dual.Goals as goal

pub returns : goal.returns
returns c = record {
  is = dual_by_rows c.args.code.now c.in_ok-dual.dual c.have_same_rows.result c.matrix-matrix.ensures.rows c.matrix-matrix.ensures.reduced c.in_ok-dual.ensures.code c.have_same_rows.ensures.is;
}

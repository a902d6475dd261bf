use Rattle.lc_relations.proofs.StructureLaws.{cyclic_by_rows}
use Rattle.lc_relations.proofs.structure.is_cyclic.Goals as goal

pub returns : goal.returns
returns c = record {
  is = cyclic_by_rows c.args.code.now c.shifts_are_inside.result c.matrix-matrix.ensures.rows c.shifts_are_inside.ensures.is;
}

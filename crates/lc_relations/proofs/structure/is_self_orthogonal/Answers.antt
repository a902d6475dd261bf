use Rattle.std.proofs.Common.{arith}
use Rattle.lc_relations.proofs.StructureLaws.{not_orthogonal}
use Rattle.lc_relations.proofs.structure.is_self_orthogonal.Goals as goal

pub returns-then-not-is_orthogonal_to_earlier : goal.returns-then-not-is_orthogonal_to_earlier
returns-then-not-is_orthogonal_to_earlier c = record {
  is = not_orthogonal c.args.code.now c.loop-j.j c.is_orthogonal_to_earlier.result c.matrix-matrix.ensures.rows (omega (arith, c.loop-j-test.true, c.loop-j.auto.j-end, c.dimension-j-end.ensures.is)) c.if-not-is_orthogonal_to_earlier.true c.is_orthogonal_to_earlier.ensures.no;
}

use Rattle.std.proofs.Common.{arith}
use Rattle.lc_cyclic.proofs.FieldLaws.{size_here}
use Rattle.lc_cyclic.proofs.fields.is_symbol_size.Goals as goal

pub returns-then-size-le16 : goal.returns-then-size-le16
returns-then-size-le16 c = record {
  is = size_here c.args.q c.loop-i.i c.shape_at-size.result.size (omega arith) c.shape_at-size.ensures.size (grind (arith, c.if-size-q.true)) (grind (arith, c.if-size-le16.true));
}

use Rattle.std.proofs.Common.{◌∙◌}
use Rattle.lc_residues.proofs.CodeLaws.{shift_whole}
use Rattle.lc_residues.proofs.codes.cyclic_shift.Goals as goal

pub returns : goal.returns
returns c = record {
  is = c.from_vec.ensures.is ∙ shift_whole c.args.n c.args.k c.loop-i.i c.args.word.now c.loop-i.symbols.items c.loop-i.invariant c.loop-i-test.false c.loop-i.auto.i-end;
}

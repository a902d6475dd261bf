use Rattle.lc_residues.proofs.CodeLaws.{word_whole}
use Rattle.lc_residues.proofs.codes.residue_word.Goals as goal

pub returns : goal.returns
returns c = record {
  is = word_whole c.args.field.now c.args.n c.args.t c.loop-i.i c.loop-i.symbols.items c.loop-i.invariant c.loop-i-test.false c.loop-i.auto.i-end;
}

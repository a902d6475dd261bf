use Rattle.lc_residues.proofs.KeptLaws.{residue_cyclic, residue_ones, residue_has_word, residue_kept}
use Rattle.lc_residues.proofs.ExchangeLaws.{residue_exchanged_exactly}
use Rattle.lc_residues.proofs.laws.residue_codes_have_their_symmetries.Goals as goal

pub returns : goal.returns
returns c = record {
  cyclic = residue_cyclic c.args.field;
  ones = residue_ones c.args.field;
  word = residue_has_word c.args.field;
  kept = residue_kept c.args.field;
  exchanged = residue_exchanged_exactly c.args.field;
}

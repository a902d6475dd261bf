use Rattle.std.proofs.Common.{◌≡◌}
use Rattle.lc_residues.specs.Parts.{word_part}
use Rattle.lc_residues.proofs.codes.residue_word.Given as goal

abbrev pub invariant-loop-i : goal.invariant-loop-i
invariant-loop-i l = l.symbols.items ≡ word_part l.field l.n l.t l.i

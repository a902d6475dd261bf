use Rattle.std.proofs.Common.{◌≡◌}
use Rattle.lc_residues.specs.Parts.{shift_part}
use Rattle.lc_residues.proofs.codes.cyclic_shift.Given as goal

abbrev pub invariant-loop-i : goal.invariant-loop-i
invariant-loop-i l = l.symbols.items ≡ shift_part l.n l.k l.word l.i

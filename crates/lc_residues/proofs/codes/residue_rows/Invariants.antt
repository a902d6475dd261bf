use Rattle.std.proofs.Common.{◌≡◌}
use Rattle.lc_residues.specs.Parts.{rows_part}
use Rattle.lc_residues.proofs.codes.residue_rows.Given as goal

abbrev pub invariant-loop-k : goal.invariant-loop-k
invariant-loop-k l = l.rows.items ≡ rows_part l.field l.n l.t l.k

use Rattle.std.proofs.Common.{ℕ, ◌<◌}
use Rattle.lc_relations.proofs.StructureLaws.{EarlierOrthogonal}
use Rattle.lc_relations.proofs.structure.is_self_orthogonal.Given as goal

abbrev pub invariant-loop-j : goal.invariant-loop-j
invariant-loop-j l = (k : ℕ) → k < l.j → EarlierOrthogonal l.code.field l.code.rows k

use Rattle.std.proofs.Common.{slice_index, arith}
use Rattle.lc_kernel.proofs.SupportLaws.{ends_all, triples_few}
use Rattle.lc_kernel.proofs.parts.tail_starts.Goals as goal

pub longer_starts-requires-clause-small : goal.longer_starts-requires-clause-small
longer_starts-requires-clause-small c = triples_few c.args.k c.requires.few

pub longer_starts-requires-clause-many : goal.longer_starts-requires-clause-many
longer_starts-requires-clause-many c = ends_all c.args.k 1 (slice_index c.args.pairs.now c.args.k) (c.requires.pairs.first c.args.k (omega arith))

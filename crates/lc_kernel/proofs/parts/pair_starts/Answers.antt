use Rattle.std.proofs.Common.{sym, arith}
use Rattle.lc_kernel.proofs.SupportLaws.{singles, pairs_few}
use Rattle.lc_kernel.proofs.parts.pair_starts.Goals as goal

pub longer_starts-requires-clause-small : goal.longer_starts-requires-clause-small
longer_starts-requires-clause-small c = omega (arith, pairs_few c.args.k c.requires.few)

pub longer_starts-requires-clause-many : goal.longer_starts-requires-clause-many
longer_starts-requires-clause-many c = sym (singles 0 c.args.k)

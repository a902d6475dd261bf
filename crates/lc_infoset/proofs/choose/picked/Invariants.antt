use Rattle.std.proofs.Common.{◌≡◌, map, take, slice_index}
use Rattle.lc_infoset.proofs.choose.picked.Given as goal

abbrev pub invariant-loop-t : goal.invariant-loop-t
invariant-loop-t l = l.columns.items ≡ map (slice_index l.order) (take l.t-index l.at)

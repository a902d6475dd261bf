use Rattle.std.proofs.Common.{◌≡◌, ◌++◌, filter}
use Rattle.lc_algebra.specs.Span.{below}
use Rattle.lc_enumeration.specs.InformationSet.{is_member}
use Rattle.lc_infoset.proofs.choose.push_used.Given as goal

abbrev pub invariant-loop-c : goal.invariant-loop-c
invariant-loop-c l = l.order.items ≡ l.initial.order.items ++ filter (is_member l.used) (below l.c)

use Rattle.std.proofs.Common.{◌≡◌, ◌++◌, filter, not}
use Rattle.lc_algebra.specs.Span.{below}
use Rattle.lc_enumeration.specs.InformationSet.{is_member}
use Rattle.lc_infoset.proofs.choose.push_unused.Given as goal

abbrev pub invariant-loop-c : goal.invariant-loop-c
invariant-loop-c l = l.order.items ≡ l.initial.order.items ++ filter (λ c. not (is_member l.used c)) (below l.c)

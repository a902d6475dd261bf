use Rattle.std.proofs.Common.{◌≡◌, filter, not, take}
use Rattle.lc_enumeration.specs.InformationSet.{is_member}
use Rattle.lc_infoset.proofs.choose.unused_of.Given as goal

abbrev pub invariant-loop-c : goal.invariant-loop-c
invariant-loop-c l = l.fresh.items ≡ filter (λ c. not (is_member l.used c)) (take l.c-index l.columns)

use Rattle.std.proofs.Common.{◌≡◌, ◌≤◌, take, count_by}
use Rattle.lc_enumeration.specs.InformationSet.{is_member}
use Rattle.lc_checker.proofs.sets.fresh_in.Given as goal

abbrev pub invariant-loop-i : goal.invariant-loop-i
invariant-loop-i l = record {
  few : l.count ≤ l.i;
  is : l.count ≡ count_by (λ s. is_member s.fresh.items l.place) (take l.i l.claims);
}

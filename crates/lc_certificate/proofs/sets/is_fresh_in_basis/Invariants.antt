use Rattle.std.proofs.Common.{◌≡◌, take, true}
use Rattle.std.specs.List.{list_all}
use Rattle.lc_enumeration.specs.InformationSet.{is_member}
use Rattle.lc_certificate.proofs.sets.is_fresh_in_basis.Given as goal

abbrev pub invariant-loop-place : goal.invariant-loop-place
invariant-loop-place l = list_all (is_member l.claim.basis.items) (take l.place-index l.place-items) ≡ true

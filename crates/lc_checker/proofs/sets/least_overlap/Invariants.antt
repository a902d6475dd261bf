use Rattle.std.proofs.Common.{◌≡◌, ◌-◌, map, find, count_by, nat_lt}
use Rattle.lc_enumeration.specs.Message.{numbers_from}
use Rattle.lc_enumeration.specs.InformationSet.{is_member}
use Rattle.lc_formats.specs.Certificate.{Certificate, least_overlap, code_length}
use Rattle.lc_certificate.specs.Seen.{claim_of}
use Rattle.lc_checker.proofs.sets.least_overlap.Given as goal

abbrev pub invariant-loop-place : goal.invariant-loop-place
invariant-loop-place l = (c : Certificate) → code_length c ≡ l.n → least_overlap c (map claim_of l.claims) ≡ find (λ place. nat_lt 1 (count_by (λ claim. is_member claim.fresh place) (map claim_of l.claims))) (numbers_from l.place (l.n - l.place))

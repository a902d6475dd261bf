use Rattle.std.proofs.Common.{◌≡◌, take, map, Some}
use Rattle.serde_json.specs.View.{view}
use Rattle.lc_formats.specs.Json.{each}
use Rattle.lc_formats.specs.Check.{claim_in}
use Rattle.lc_json.specs.Inside.{members_in}
use Rattle.lc_certificate.specs.Seen.{claim_of}
use Rattle.lc_certificate.proofs.sets.sets_of.Given as goal

abbrev pub invariant-loop-set : goal.invariant-loop-set
invariant-loop-set l = each (map (λ v. claim_in l.n (members_in (view v))) (take l.set-index l.sets)) ≡ Some (map claim_of l.claims.items)

use Rattle.std.proofs.Common.{◌≡◌, ◌+◌, map, drop}
use Rattle.lc_formats.specs.Certificate.{Certificate, first_dependent}
use Rattle.lc_certificate.specs.Seen.{claim_of}
use Rattle.lc_checker.specs.Sets.{IsCodeOf}
use Rattle.lc_checker.proofs.sets.first_dependent.Given as goal

abbrev pub invariant-loop-i : goal.invariant-loop-i
invariant-loop-i l = (c : Certificate) → IsCodeOf c l.code → first_dependent c 1 (map claim_of l.claims) ≡ first_dependent c (l.i + 1) (drop l.i (map claim_of l.claims))

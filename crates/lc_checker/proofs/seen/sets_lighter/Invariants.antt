use Rattle.std.proofs.Common.{◌≡◌, map, drop, find}
use Rattle.lc_formats.specs.Certificate.{Certificate, levels, seen_by, is_lighter}
use Rattle.lc_certificate.specs.Seen.{claim_of}
use Rattle.lc_checker.specs.Sets.{IsCodeOf}
use Rattle.lc_checker.proofs.seen.sets_lighter.Given as goal

abbrev pub invariant-loop-i : goal.invariant-loop-i
invariant-loop-i l = (c : Certificate) → IsCodeOf c l.code → find (is_lighter l.distance) (seen_by c (levels (map claim_of l.claims))) ≡ find (is_lighter l.distance) (seen_by c (levels (drop l.i (map claim_of l.claims))))

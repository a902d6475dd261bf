use Rattle.std.proofs.Common.{◌≡◌, min, map, drop}
use Rattle.lc_enumeration.specs.InformationSet.{is_member}
use Rattle.lc_checker.proofs.sets.has_whole_level.Given as goal

abbrev pub invariant-loop-i : goal.invariant-loop-i
invariant-loop-i l = is_member (map (λ s. min s.level l.k) l.claims) l.k ≡ is_member (map (λ s. min s.level l.k) (drop l.i l.claims)) l.k

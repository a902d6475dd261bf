use Rattle.std.proofs.Common.{sym, rules}
use Rattle.lc_certificate.proofs.SetLaws.{part_fails}
use Rattle.lc_certificate.proofs.sets.is_fresh_in_basis.Goals as goal

pub returns-then-not-has : goal.returns-then-not-has
returns-then-not-has c = record { is = sym (part_fails c.args.claim.now c.loop-place.place-index 0 (search rules) (search rules)) }

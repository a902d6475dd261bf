-- Two paces of a session.
--   IsSame p q           they tell the same: the settled needs may differ
use Rattle.std.specs.Prelude.{◌≡◌}
use Rattle.lc_rounds.specs.declared.pace.Pace.{Pace}

-- two paces that tell the same
pub record IsSame (p q : Pace) : Type 0 where
  pub keep : q.keep ≡ p.keep
  pub told : q.told ≡ p.told
  pub last : q.last ≡ p.last
  pub slice : q.slice ≡ p.slice
  pub longest : q.longest ≡ p.longest
  pub turn : q.point.turn ≡ p.point.turn
  pub script : q.point.script ≡ p.point.script
  pub budget : q.point.budget ≡ p.point.budget

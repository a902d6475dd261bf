use Rattle.std.proofs.Common.{◌≡◌, ◌<◌, ℕ, sym, ap, ◌∙◌, subst}
use Rattle.lc_enumeration.specs.Plan.{total, phase_at, IsInPhase}
use Rattle.lc_place.specs.Place.{PlanSize, plan_phase}
use Rattle.lc_enumeration.proofs.PlanLaws.{one_phase}
use Rattle.lc_place.proofs.Phases.{inside_is}
use Rattle.lc_place.proofs.plan.Plan.phase_of.Goals as goal

pub phase-requires-clause-inside : goal.phase-requires-clause-inside
phase-requires-clause-inside c = inside_is _ _ _ _ (subst (λ (p : PlanSize). c.args.block < total p.k p.q p.m) (sym c.self.view_is) c.requires)

pub returns-clause-only : goal.returns-clause-only
returns-clause-only c =
    let found = subst (λ (v : PlanSize). (p : ℕ) × IsInPhase v.k v.q v.m p c.args.block × (plan_phase c.phase.result ≡ phase_at v.k v.q v.m p)) c.self.view_is c.phase.ensures.found in
    λ p h. found.2 ∙ ap (phase_at c.args.self.now.k c.args.self.now.q c.args.self.now.m) (one_phase c.args.self.now.k c.args.self.now.q c.args.self.now.m found.0 p c.args.block found.1 h)

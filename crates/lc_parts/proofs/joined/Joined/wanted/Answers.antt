use Rattle.std.proofs.Common.{◌≡◌, ◌∙◌, ap, sym, subst, false}
use Rattle.lc_parts.specs.Along.{is_answered, end_wanted}
use Rattle.lc_parts.specs.Joined.{JoinState}
use Rattle.lc_parts.specs.Seen.{facts_seen}
use Rattle.lc_parts.proofs.JoinLaws.{has_next, total_of, wanted_end}
use Rattle.lc_parts.proofs.joined.Joined.wanted.Goals as goal

pub end_within-requires-clause-inside : goal.end_within-requires-clause-inside
end_within-requires-clause-inside c =
    let s = c.self.inside in
    let i = c.self.invariant in
    let going = subst (λ (v : JoinState). is_answered v.facts v.budget v.progress ≡ false) (sym c.self.view_is) c.requires.going in
    total_of (facts_seen s.facts) s.plan s.blocks i.plan_is (has_next (facts_seen s.facts) s.budget s.blocks s.weight s.place i.facts i.small i.few going).inside

pub end_within-requires-clause-budget : goal.end_within-requires-clause-budget
end_within-requires-clause-budget c =
    let s = c.self.inside in
    let i = c.self.invariant in
    let going = subst (λ (v : JoinState). is_answered v.facts v.budget v.progress ≡ false) (sym c.self.view_is) c.requires.going in
    (has_next (facts_seen s.facts) s.budget s.blocks s.weight s.place i.facts i.small i.few going).left

pub returns-clause-is : goal.returns-clause-is
returns-clause-is c =
    let s = c.self.inside in
    c.end_within.ensures.is (facts_seen s.facts) c.self.invariant.plan_is
    ∙ sym (wanted_end (facts_seen s.facts) s.budget (record { blocks = s.blocks; weight = s.weight; place = s.place }))
    ∙ ap (λ (v : JoinState). end_wanted v.facts v.budget v.progress) c.self.view_is

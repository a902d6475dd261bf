use Rattle.std.proofs.Common.{◌∙◌, ap, sym}
use Rattle.lc_parts.specs.Along.{end_wanted, continues}
use Rattle.lc_parts.specs.Joined.{JoinState}
use Rattle.lc_parts.specs.Seen.{part_of, facts_seen}
use Rattle.lc_parts.proofs.JoinLaws.{continues_is}
use Rattle.lc_parts.proofs.joined.Joined.goes_on.Goals as goal

pub returns-clause-is : goal.returns-clause-is
returns-clause-is c =
    let s = c.self.inside in
    c.reaches.ensures.is
    ∙ continues_is (facts_seen s.facts) s.budget c.wanted-wanted.result (record { blocks = s.blocks; weight = s.weight; place = s.place }) (part_of c.args.part.now)
    (c.wanted-wanted.ensures.is ∙ ap (λ (v : JoinState). end_wanted v.facts v.budget v.progress) (sym c.self.view_is))
    ∙ ap (λ (v : JoinState). continues v.facts v.budget v.progress (part_of c.args.part.now)) c.self.view_is

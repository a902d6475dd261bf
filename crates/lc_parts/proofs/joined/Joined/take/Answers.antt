use Rattle.std.proofs.Common.{◌≡◌, ◌∙◌, true, false, sym, ap, subst}
use Rattle.lc_parts.specs.Along.{is_answered, continues}
use Rattle.lc_parts.specs.Joined.{JoinState, with_line}
use Rattle.lc_parts.specs.Seen.{part_of, facts_seen}
use Rattle.lc_parts.proofs.JoinLaws.{with_answered, with_passed, with_lesser, with_greater}
use Rattle.lc_parts.proofs.joined.Joined.take.Goals as goal

pub returns-then-is_answered : goal.returns-then-is_answered
returns-then-is_answered c =
    let s = c.args.self.now in
    record { is = with_answered s.script s.facts s.budget s.progress (part_of c.args.part) c.if-is_answered.ensures.is }

pub returns-then-not-goes_on : goal.returns-then-not-goes_on
returns-then-not-goes_on c =
    let s = c.args.self.now in
    record { is = with_passed s.script s.facts s.budget s.progress (part_of c.args.part) c.if-is_answered.ensures.is c.if-not-goes_on.ensures.is }

pub returns-then-is_lesser : goal.returns-then-is_lesser
returns-then-is_lesser c =
    let s = c.self.inside in
    let p = part_of c.args.part in
    let same = sym c.self.view_is in
    let a = subst (λ (v : JoinState). false ≡ is_answered v.facts v.budget v.progress) same c.if-is_answered.ensures.is in
    let b = subst (λ (v : JoinState). true ≡ continues v.facts v.budget v.progress p) same c.if-not-goes_on.ensures.is in
    record {
      is = with_lesser s.script (facts_seen s.facts) s.budget (record { blocks = s.blocks; weight = s.weight; place = s.place }) p a b c.if-is_lesser.ensures.is
          ∙ ap (λ (v : JoinState). with_line v p) c.self.view_is;
    }

pub returns-else-is_lesser : goal.returns-else-is_lesser
returns-else-is_lesser c =
    let s = c.self.inside in
    let p = part_of c.args.part in
    let same = sym c.self.view_is in
    let a = subst (λ (v : JoinState). false ≡ is_answered v.facts v.budget v.progress) same c.if-is_answered.ensures.is in
    let b = subst (λ (v : JoinState). true ≡ continues v.facts v.budget v.progress p) same c.if-not-goes_on.ensures.is in
    record {
      is = with_greater s.script (facts_seen s.facts) s.budget (record { blocks = s.blocks; weight = s.weight; place = s.place }) p a b c.if-is_lesser.ensures.is
          ∙ ap (λ (v : JoinState). with_line v p) c.self.view_is;
    }

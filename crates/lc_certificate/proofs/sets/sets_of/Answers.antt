use Rattle.std.proofs.Common.{sym, ap, rules, arith, Option, option_map, ◌∙◌, ◌+◌}
use Rattle.serde_json.specs.declared.value.Value.{Value}
use Rattle.serde_json.specs.View.{view}
use Rattle.lc_formats.specs.Certificate.{SetClaim}
use Rattle.lc_formats.specs.Check.{claim_in}
use Rattle.lc_json.specs.Inside.{members_in}
use Rattle.lc_certificate.specs.Seen.{claim_of}
use Rattle.lc_certificate.proofs.SetLaws.{claims_more}
use Rattle.lc_certificate.proofs.sets.sets_of.Goals as goal

pub loop-set-preserved : goal.loop-set-preserved
loop-set-preserved c =
    let read : Value → Option SetClaim = λ v. claim_in c.args.n (members_in (view v)) in
    let seen = ap (option_map claim_of) (sym c.in-Some.is) ∙ c.in_ok-claim.ensures.is ∙ ap read c.set-item.is in
    claims_more read claim_of c.args.sets.now c.loop-set.set-index (c.loop-set.set-index + 1) c.set-item.result c.loop-set.claims.items c.push.new.self.items c.in-Some.claim c.loop-set-test.true c.loop-set.invariant seen (omega arith) (search rules)

use Rattle.std.proofs.Common.{arith, rules, append_assoc}
use Rattle.lc_certificate.specs.Seen.{claim_of}
use Rattle.lc_certificate.proofs.TextLaws.{claims_none, claims_more}
use Rattle.lc_certificate.proofs.writing.push_claims.Goals as goal

pub returns-in_default : goal.returns-in_default
returns-in_default c = rw (claims_none claim_of c.args.claims.now (omega arith)) (search rules)

pub returns : goal.returns
returns c =
    let more = claims_more claim_of c.args.claims.now c.first-item.result (omega arith) in
    search (rules, append_assoc)

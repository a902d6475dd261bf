use Rattle.std.proofs.Common.{◌∙◌, count_by, sym, ap}
use Rattle.std.proofs.lemmas.List.{take_all}
use Rattle.lc_enumeration.specs.InformationSet.{is_member}
use Rattle.lc_certificate.specs.declared.certificate.SetClaim.{SetClaim}
use Rattle.lc_certificate.specs.Seen.{claim_of}
use Rattle.lc_checker.proofs.SetLaws.{counted}
use Rattle.lc_checker.proofs.sets.fresh_in.Goals as goal

pub returns : goal.returns
unfolding claim_of
returns c =
    let cs = c.args.claims.now in
    record { is = c.loop-i.invariant.is ∙ ap (count_by (λ (s : SetClaim). is_member s.fresh.items c.args.place)) (take_all c.loop-i.i cs c.loop-i-test.false) ∙ sym (counted (λ claim. is_member claim.fresh c.args.place) claim_of cs) }

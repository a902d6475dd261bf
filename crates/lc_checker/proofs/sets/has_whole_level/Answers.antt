use Rattle.std.proofs.Common.{◌∙◌, min, sym, ap, arith}
use Rattle.std.proofs.lemmas.Simd.{map-map}
use Rattle.lc_enumeration.specs.InformationSet.{is_member}
use Rattle.lc_certificate.specs.declared.certificate.SetClaim.{SetClaim}
use Rattle.lc_certificate.specs.Seen.{claim_of}
use Rattle.lc_checker.proofs.SetLaws.{member_some, member_other, member_none}
use Rattle.lc_checker.proofs.sets.has_whole_level.Goals as goal

pub returns-then-k-claims : goal.returns-then-k-claims
unfolding claim_of
returns-then-k-claims c =
    let k = c.args.k in
    let g = λ (s : SetClaim). min s.level k in
    record { is = member_some g c.args.claims.now c.loop-i.i k c.index-claims-i.result _ c.loop-i-test.true (omega (arith, c.if-k-claims.true)) c.loop-i.invariant ∙ ap (λ xs. is_member xs k) (sym (map-map (λ claim. min claim.level k) claim_of c.args.claims.now)) }

pub loop-i-preserved : goal.loop-i-preserved
loop-i-preserved c =
    let k = c.args.k in
    member_other (λ (s : SetClaim). min s.level k) c.args.claims.now c.loop-i.i k c.index-claims-i.result _ c.loop-i-test.true (λ e. omega (arith, e, c.if-k-claims.false)) c.loop-i.invariant

pub returns : goal.returns
unfolding claim_of
returns c =
    let k = c.args.k in
    let g = λ (s : SetClaim). min s.level k in
    record { is = member_none g c.args.claims.now c.loop-i.i k _ c.loop-i-test.false c.loop-i.invariant ∙ ap (λ xs. is_member xs k) (sym (map-map (λ claim. min claim.level k) claim_of c.args.claims.now)) }

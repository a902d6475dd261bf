use Rattle.std.proofs.Common.{◌+◌, ◌-◌, ◌∙◌, min, length, sym, ap, ap₂, arith}
use Rattle.std.proofs.lemmas.Simd.{map-map}
use Rattle.lc_enumeration.specs.Search.{bound_sum}
use Rattle.lc_certificate.specs.declared.certificate.SetClaim.{SetClaim}
use Rattle.lc_certificate.specs.Seen.{claim_of}
use Rattle.lc_checker.proofs.SetLaws.{bound_more, bound_end}
use Rattle.lc_checker.proofs.sets.sum_of.Goals as goal

pub loop-i-preserved : goal.loop-i-preserved
loop-i-preserved c =
    let k = c.args.k in
    record {
      few = omega (arith, c.loop-i.invariant.few, c.least_on-sum.ensures.few);
      rest = bound_more (λ (s : SetClaim). length s.fresh.items) (λ (s : SetClaim). min s.level k) c.args.claims.now c.loop-i.i k c.loop-i.sum c.least_on-sum.result _ c.index-claims-i.result c.loop-i-test.true (c.least_on-sum.ensures.is ∙ ap (λ (s : SetClaim). (min s.level k + 1) - (k - length s.fresh.items)) c.index-claims-i.is) c.loop-i.invariant.rest;
    }

pub returns-clause-is : goal.returns-clause-is
unfolding claim_of
returns-clause-is c =
    let k = c.args.k in
    let cs = c.args.claims.now in
    bound_end (λ (s : SetClaim). length s.fresh.items) (λ (s : SetClaim). min s.level k) cs c.loop-i.i k c.loop-i.sum _ c.loop-i-test.false c.loop-i.invariant.rest
    ∙ ap₂ (bound_sum k) (sym (map-map (λ claim. length claim.fresh) claim_of cs)) (sym (map-map (λ claim. min claim.level k) claim_of cs))

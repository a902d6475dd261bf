use Rattle.std.proofs.Common.{◌∙◌, map, find, sym, ap, subst, arith}
use Rattle.std.proofs.lemmas.List.{length-map}
use Rattle.lc_formats.specs.Certificate.{is_lighter}
use Rattle.lc_formats.specs.Shape.{IsShapedSet}
use Rattle.lc_certificate.specs.declared.certificate.SetClaim.{SetClaim}
use Rattle.lc_certificate.specs.Seen.{claim_of}
use Rattle.lc_checker.specs.Sets.{IsSetOf}
use Rattle.lc_checker.proofs.CheckLaws.{words_of_set, claims_at, sets_found, sets_passed, sets_end}
use Rattle.lc_checker.proofs.seen.sets_lighter.Goals as goal

pub set_lighter-requires-clause-inside : goal.set_lighter-requires-clause-inside
set_lighter-requires-clause-inside c =
    (subst (λ (s : SetClaim). IsShapedSet c.args.code.now.columns (claim_of s)) (sym c.index-claims-i.is) (claims_at (IsShapedSet c.args.code.now.columns) claim_of c.args.claims.now c.loop-i.i c.index-claims-i.result c.loop-i-test.true c.requires.shaped)).basis_inside

pub set_lighter-requires-clause-set : goal.set_lighter-requires-clause-set
set_lighter-requires-clause-set c =
    subst (λ (s : SetClaim). IsSetOf c.args.code.now (claim_of s)) (sym c.index-claims-i.is) (claims_at (IsSetOf c.args.code.now) claim_of c.args.claims.now c.loop-i.i c.index-claims-i.result c.loop-i-test.true c.requires.sets)

pub returns-in-Some : goal.returns-in-Some
returns-in-Some c = record {
  is = λ d h. sets_found d claim_of c.args.claims.now c.loop-i.i c.args.distance c.index-claims-i.result c.in-Some.word _ c.loop-i-test.true (c.loop-i.invariant d h)
      (sym c.in-Some.is ∙ c.in_ok-word.ensures.is d h ∙ ap (λ (s : SetClaim). find (is_lighter c.args.distance) (words_of_set d (claim_of s))) c.index-claims-i.is);
}

pub loop-i-preserved : goal.loop-i-preserved
loop-i-preserved c = λ d h. sets_passed d claim_of c.args.claims.now c.loop-i.i c.args.distance c.index-claims-i.result _ c.loop-i-test.true (c.loop-i.invariant d h)
    (sym c.in-None.is ∙ c.in_ok-word.ensures.is d h ∙ ap (λ (s : SetClaim). find (is_lighter c.args.distance) (words_of_set d (claim_of s))) c.index-claims-i.is)

pub returns : goal.returns
returns c = record { is = λ d h. sets_end d (map claim_of c.args.claims.now) c.loop-i.i c.args.distance _ (omega (arith, c.loop-i-test.false, length-map c.args.claims.now claim_of)) (c.loop-i.invariant d h) }

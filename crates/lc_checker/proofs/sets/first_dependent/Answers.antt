use Rattle.std.proofs.Common.{◌<◌, ◌∙◌, map, All, sym, ap, subst, arith}
use Rattle.std.proofs.lemmas.List.{length-map}
use Rattle.lc_formats.specs.Certificate.{is_information_set}
use Rattle.lc_certificate.specs.Seen.{claim_of}
use Rattle.lc_checker.proofs.SetLaws.{shaped_at, dependent_found, dependent_passed, dependent_none}
use Rattle.lc_checker.proofs.sets.first_dependent.Goals as goal

pub is_information_set-requires : goal.is_information_set-requires
unfolding claim_of
is_information_set-requires c =
    record { inside = subst (All (λ p. p < c.args.code.now.columns)) (sym c.deref.ensures.value) (shaped_at c.args.code.now.columns claim_of c.args.claims.now c.loop-i.i c.index-claims-i.result c.loop-i-test.true c.requires.shaped).basis_inside }

pub returns-then-not-branch : goal.returns-then-not-branch
unfolding claim_of
returns-then-not-branch c = record { is = λ d h. dependent_found d claim_of c.args.claims.now c.loop-i.i c.index-claims-i.result c.in_ok-is_information_set.field-0 _ c.loop-i-test.true (c.in_ok-is_information_set.ensures.is d h ∙ ap (is_information_set d) c.deref.ensures.value) c.if-not-branch.true (c.loop-i.invariant d h) }

pub loop-i-preserved : goal.loop-i-preserved
unfolding claim_of
loop-i-preserved c = λ d h. dependent_passed d claim_of c.args.claims.now c.loop-i.i c.index-claims-i.result c.in_ok-is_information_set.field-0 _ c.loop-i-test.true (c.in_ok-is_information_set.ensures.is d h ∙ ap (is_information_set d) c.deref.ensures.value) c.if-not-branch.false (c.loop-i.invariant d h)

pub returns : goal.returns
returns c = record { is = λ d h. dependent_none d (map claim_of c.args.claims.now) c.loop-i.i _ (omega (arith, c.loop-i-test.false, length-map c.args.claims.now claim_of)) (c.loop-i.invariant d h) }

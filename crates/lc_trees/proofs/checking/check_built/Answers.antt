use Rattle.std.proofs.Common.{◌≤◌, IsTrue, Err, sym, subst, ◌∙◌, arith}
use Rattle.lc_algebra.specs.Field.{is_symbol}
use Rattle.lc_algebra.proofs.EmbeddingLaws.{told_by_size}
use Rattle.lc_formats.specs.Claim.{claim_total}
use Rattle.lc_formats.specs.ClaimMeaning.{code_with, HasOutcome}
use Rattle.lc_formats.specs.Document.{IsShapedClaim}
use Rattle.lc_certificate.specs.Trees.{claim_of, built_of}
use Rattle.lc_checker.specs.Verdict.{verdict_of}
use Rattle.lc_trees.specs.Outcome.{IsOutcomeOf}
use Rattle.lc_trees.proofs.VerdictLaws.{tree_made, verdict_accepted, verdict_proves, word_fits_code}
use Rattle.lc_trees.proofs.checking.check_built.Goals as goal

pub made-requires-clause-symbol : goal.made-requires-clause-symbol
unfolding built_of
made-requires-clause-symbol c =
    let field = told_by_size c.in-Ok.field c.args.built.now.field (c.in-Ok.ensures.size ∙ c.field_size.ensures.is) in
    subst (λ g. IsTrue (is_symbol g)) (sym field) c.requires.shaped.field_fits

pub made-requires-clause-shaped : goal.made-requires-clause-shaped
unfolding built_of
made-requires-clause-shaped c =
    let field = told_by_size c.in-Ok.field c.args.built.now.field (c.in-Ok.ensures.size ∙ c.field_size.ensures.is) in
    subst (λ g. IsShapedClaim g (claim_of c.args.built.now.claim)) (sym field) c.requires.shaped.claims_fit

pub made-requires-clause-few : goal.made-requires-clause-few
unfolding built_of
made-requires-clause-few c =
    let few : claim_total (claim_of c.args.built.now.claim) ≤ 1024 = c.requires.shaped.few_claims in
    omega (arith, few)

pub verdict_on-requires : goal.verdict_on-requires
unfolding built_of
verdict_on-requires c =
    let field = told_by_size c.in-Ok.field c.args.built.now.field (c.in-Ok.ensures.size ∙ c.field_size.ensures.is) in
    record { word = word_fits_code (built_of c.args.built.now) c.in-Ok.field 0 c.in-Ok-made.top.code c.in-Ok-made.top.bound field c.requires.shaped c.in-Ok-made.ensures.is }

pub returns-in-Ok-made-clause-is : goal.returns-in-Ok-made-clause-is
unfolding built_of
returns-in-Ok-made-clause-is c =
    let field = told_by_size c.in-Ok.field c.args.built.now.field (c.in-Ok.ensures.size ∙ c.field_size.ensures.is) in
    let C = c.in-Ok-made.top.code in
    let bound = c.in-Ok-made.top.bound in
    tree_made (built_of c.args.built.now) C bound (verdict_of c.in_ok-verdict-in-Ok-made.verdict) (subst (λ g. HasOutcome g 0 (claim_of c.args.built.now.claim) (code_with C bound)) field c.in-Ok-made.ensures.is) c.in_ok-verdict-in-Ok-made.ensures.is

pub returns-in-Ok-made-clause-accepted : goal.returns-in-Ok-made-clause-accepted
unfolding built_of
returns-in-Ok-made-clause-accepted c =
    let field = told_by_size c.in-Ok.field c.args.built.now.field (c.in-Ok.ensures.size ∙ c.field_size.ensures.is) in
    let C = c.in-Ok-made.top.code in
    let bound = c.in-Ok-made.top.bound in
    verdict_accepted (built_of c.args.built.now) (verdict_of c.in_ok-verdict-in-Ok-made.verdict)
    (tree_made (built_of c.args.built.now) C bound (verdict_of c.in_ok-verdict-in-Ok-made.verdict) (subst (λ g. HasOutcome g 0 (claim_of c.args.built.now.claim) (code_with C bound)) field c.in-Ok-made.ensures.is) c.in_ok-verdict-in-Ok-made.ensures.is)

pub returns-in-Ok-made-clause-proves : goal.returns-in-Ok-made-clause-proves
unfolding built_of
returns-in-Ok-made-clause-proves c =
    let field = told_by_size c.in-Ok.field c.args.built.now.field (c.in-Ok.ensures.size ∙ c.field_size.ensures.is) in
    let C = c.in-Ok-made.top.code in
    let bound = c.in-Ok-made.top.bound in
    verdict_proves (built_of c.args.built.now) (verdict_of c.in_ok-verdict-in-Ok-made.verdict) c.requires.shaped
    (tree_made (built_of c.args.built.now) C bound (verdict_of c.in_ok-verdict-in-Ok-made.verdict) (subst (λ g. HasOutcome g 0 (claim_of c.args.built.now.claim) (code_with C bound)) field c.in-Ok-made.ensures.is) c.in_ok-verdict-in-Ok-made.ensures.is)

pub returns-clause-is : goal.returns-clause-is
unfolding built_of
returns-clause-is c =
    let field = told_by_size c.in-Ok.field c.args.built.now.field (c.in-Ok.ensures.size ∙ c.field_size.ensures.is) in
    c.in_ok-rejected-in-Err.ensures.is (built_of c.args.built.now) (subst (λ g. IsOutcomeOf (Err c.in-Err.stop) (HasOutcome g 0 (claim_of c.args.built.now.claim))) field c.in-Err.ensures.is)

pub returns-clause-accepted : goal.returns-clause-accepted
unfolding built_of
returns-clause-accepted c =
    let field = told_by_size c.in-Ok.field c.args.built.now.field (c.in-Ok.ensures.size ∙ c.field_size.ensures.is) in
    verdict_accepted (built_of c.args.built.now) (verdict_of c.in_ok-rejected-in-Err.rejected)
    (c.in_ok-rejected-in-Err.ensures.is (built_of c.args.built.now) (subst (λ g. IsOutcomeOf (Err c.in-Err.stop) (HasOutcome g 0 (claim_of c.args.built.now.claim))) field c.in-Err.ensures.is))

pub returns-clause-proves : goal.returns-clause-proves
unfolding built_of
returns-clause-proves c =
    let field = told_by_size c.in-Ok.field c.args.built.now.field (c.in-Ok.ensures.size ∙ c.field_size.ensures.is) in
    verdict_proves (built_of c.args.built.now) (verdict_of c.in_ok-rejected-in-Err.rejected) c.requires.shaped
    (c.in_ok-rejected-in-Err.ensures.is (built_of c.args.built.now) (subst (λ g. IsOutcomeOf (Err c.in-Err.stop) (HasOutcome g 0 (claim_of c.args.built.now.claim))) field c.in-Err.ensures.is))

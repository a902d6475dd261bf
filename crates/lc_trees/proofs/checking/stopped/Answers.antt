use Rattle.std.proofs.Common.{Err, refl, subst}
use Rattle.lc_formats.specs.ClaimMeaning.{HasOutcome}
use Rattle.lc_checker.specs.Verdict.{reason_of, verdict_of}
use Rattle.lc_trees.specs.Outcome.{IsOutcomeOf}
use Rattle.lc_trees.proofs.VerdictLaws.{tree_refused}
use Rattle.lc_trees.proofs.checking.stopped.Goals as goal

pub returns-in-Refused-clause-is : goal.returns-in-Refused-clause-is
unfolding verdict_of reason_of
returns-in-Refused-clause-is c =
    λ b h. tree_refused b c.in-Refused.number c.in-Refused.refusal _ (subst (λ e. IsOutcomeOf (Err e) (HasOutcome b.field 0 b.claim)) c.in-Refused.is h) refl

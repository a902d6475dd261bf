use Rattle.std.proofs.Common.{◌∙◌, map, arith}
use Rattle.lc_formats.specs.Certificate.{bound_short, claimed_sum}
use Rattle.lc_certificate.specs.Seen.{claim_of}
use Rattle.lc_checker.specs.Verdict.{reason_of, reasons_of}
use Rattle.lc_checker.proofs.CheckLaws.{code_dimension_is, bound_whole, bound_reached, bound_less}
use Rattle.lc_checker.proofs.reasons.bound_reason.Goals as goal

pub returns-then-has_whole_level : goal.returns-then-has_whole_level
unfolding reasons_of
returns-then-has_whole_level c = record { is = λ d code m h k t. bound_whole d c.args.k (map claim_of c.args.claims.now) (bound_short (claimed_sum d (map claim_of c.args.claims.now))) c.has_whole_level.result (code_dimension_is d code h ∙ k) c.has_whole_level.ensures.is c.if-has_whole_level.true }

pub returns-then-distance-sum : goal.returns-then-distance-sum
unfolding reasons_of
returns-then-distance-sum c = record { is = λ d code m h k t. bound_reached d c.args.rows.now c.args.k c.claimed_sum-sum.result (map claim_of c.args.claims.now) (bound_short (claimed_sum d (map claim_of c.args.claims.now))) c.has_whole_level.result m (code_dimension_is d code h ∙ k) c.has_whole_level.ensures.is c.if-has_whole_level.false c.claimed_sum-sum.ensures.is (omega (arith, t, c.if-distance-sum.true)) }

pub returns : goal.returns
unfolding reasons_of reason_of
returns c = record { is = λ d code m h k t. bound_less d c.args.rows.now c.args.k c.claimed_sum-sum.result (map claim_of c.args.claims.now) c.has_whole_level.result m (code_dimension_is d code h ∙ k) c.has_whole_level.ensures.is c.if-has_whole_level.false c.claimed_sum-sum.ensures.is (omega (arith, t, c.if-distance-sum.false)) }

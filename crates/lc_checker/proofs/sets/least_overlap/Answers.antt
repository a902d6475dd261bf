use Rattle.std.proofs.Common.{map}
use Rattle.lc_certificate.specs.Seen.{claim_of}
use Rattle.lc_checker.proofs.SetLaws.{overlap_start, overlap_found, overlap_passed, overlap_none}
use Rattle.lc_checker.proofs.sets.least_overlap.Goals as goal

pub loop-place-init : goal.loop-place-init
loop-place-init c = λ d e. overlap_start d (map claim_of c.args.claims.now) c.args.n e

pub returns-then-fresh_in-gt1 : goal.returns-then-fresh_in-gt1
returns-then-fresh_in-gt1 c = record { is = λ d e. overlap_found (map claim_of c.args.claims.now) c.loop-place.place c.args.n c.fresh_in.result _ c.loop-place-test.true c.fresh_in.ensures.is c.if-fresh_in-gt1.true (c.loop-place.invariant d e) }

pub loop-place-preserved : goal.loop-place-preserved
loop-place-preserved c = λ d e. overlap_passed (map claim_of c.args.claims.now) c.loop-place.place c.args.n c.fresh_in.result _ c.loop-place-test.true c.fresh_in.ensures.is c.if-fresh_in-gt1.false (c.loop-place.invariant d e)

pub returns : goal.returns
returns c = record { is = λ d e. overlap_none (map claim_of c.args.claims.now) c.loop-place.place c.args.n _ c.loop-place-test.false (c.loop-place.invariant d e) }

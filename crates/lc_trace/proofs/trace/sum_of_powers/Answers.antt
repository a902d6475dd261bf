use Rattle.std.proofs.Common.{◌≡◌, ap, ◌∙◌, arith}
use Rattle.lc_algebra.specs.Field.{size}
use Rattle.lc_code.specs.Coordinates.{relative_degree}
use Rattle.lc_language.specs.Trace.{trace_sum}
use Rattle.lc_trace.proofs.RowLaws.{degrees_same}
use Rattle.lc_trace.proofs.trace.sum_of_powers.Goals as goal

pub returns-clause-is : goal.returns-clause-is
returns-clause-is c =
    let all : c.loop-i._i ≡ relative_degree c.args.small.now c.args.large.now = omega (arith, c.loop-i-test.false, c.loop-i.auto._i-end, c.degree_over-i-end.ensures.is) in
    c.loop-i.invariant.sum ∙ ap (λ k. trace_sum c.args.large.now (size c.args.small.now) k c.args.a) (all ∙ degrees_same c.args.small.now c.args.large.now)

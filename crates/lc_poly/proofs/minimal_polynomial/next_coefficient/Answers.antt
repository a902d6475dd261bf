use Rattle.std.proofs.Common.{◌≡◌, ◌+◌, ◌-◌, arith}
use Rattle.lc_poly.proofs.MinimalLaws.{not_reached}
use Rattle.lc_poly.proofs.minimal_polynomial.next_coefficient.Goals as goal

pub returns-clause-reaches : goal.returns-clause-reaches
returns-clause-reaches c =
    let e : c.args.depth + 1 - 1 ≡ c.args.depth = omega arith in
    absurd (not_reached c.args.small.now c.args.large.now c.args.a (c.args.depth + 1) c.args.value c.loop-c.c (omega arith) (λ n l r. c.loop-c.invariant n l (rw e at r)) (omega arith) c.requires.reached)

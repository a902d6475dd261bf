use Rattle.std.proofs.Common.{◌≡◌, length, arith}
use Rattle.lc_kernel.proofs.PlaneSumLaws.{same_symbols}
use Rattle.lc_kernel.proofs.sums.planes_of.Goals as goal

pub returns : goal.returns
returns c =
    let all : c.loop-i.i ≡ length c.args.multiples.now = omega (arith, c.loop-i-test.false, c.loop-i.auto.i-end) in
    let same = same_symbols c.loop-i.planes.items c.args.multiples.now (omega (arith, all, c.loop-i.invariant.many)) (λ t l. c.loop-i.invariant.are t (omega (arith, l, all))) in
    record { are = record { over = c.loop-i.invariant.over; are = rw same c.requires.multiples } }

use Rattle.std.proofs.Common.{◌≡◌, ◌+◌, arith}
use Rattle.lc_kernel.proofs.SupportLaws.{ends_one, starts_made}
use Rattle.lc_kernel.proofs.parts.row_starts.Goals as goal

pub returns : goal.returns
returns c =
    let i = c.loop-a.invariant in
    let k = c.args.k in
    let all : c.loop-a.a ≡ k + 1 = omega (arith, c.loop-a-test.false, c.loop-a.auto.a-end) in
    record { are = starts_made k 1 c.loop-a.starts.items (omega (arith, i.many, all)) (λ b l. rw (i.each b (omega (arith, l, all))) (ends_one k b (omega (arith, l)))) }

use Rattle.std.proofs.Common.{◌≡◌, ◌+◌, ◌-◌, ◌*◌, length, subst, sym, arith}
use Rattle.lc_kernel.specs.Packed.{EndsAt}
use Rattle.lc_kernel.specs.Grid.{tail_count, AreTails}
use Rattle.lc_kernel.proofs.SupportLaws.{ends_next, ends_all}
use Rattle.lc_kernel.proofs.TailCounts.{tails_few}
use Rattle.lc_kernel.proofs.grid.all_tails.Goals as goal

pub loop-a-preserved : goal.loop-a-preserved
loop-a-preserved c =
    let C = c.args.rows.now.sets.now in
    let a = c.loop-a.a in
    let pair = c.loop-a.pair in
    let k = c.dimension-k.ensures.is in
    record {
      ends = subst (λ z. EndsAt (length C.rows) 2 (a + 1) (pair + (z - a - 1))) (sym k) (ends_next (length C.rows) a pair (omega (arith, c.loop-a-test.true, c.loop-a.auto.a-end, k)) c.loop-a.invariant.ends);
      tails = subst (λ z. AreTails C c.args.rows.now.set ((pair + (z - a - 1)) * tail_count C) c.push_row.new.words.items) (sym k) c.in_ok-push_row.ensures.tails;
      small = omega (arith, c.loop-a.invariant.small, c.dimension-k.ensures.most, c.length-n.ensures.is, c.length-n.ensures.most);
    }

pub returns : goal.returns
returns c =
    let C = c.args.rows.now.sets.now in
    let all : c.loop-a.a ≡ length C.rows = omega (arith, c.loop-a-test.false, c.loop-a.auto.a-end, c.dimension-k.ensures.is) in
    let ends = subst (λ z. EndsAt (length C.rows) 2 z c.loop-a.pair) all c.loop-a.invariant.ends in
    let tails = subst (λ z. AreTails C c.args.rows.now.set (z * tail_count C) c.loop-a.words.items) (ends_all (length C.rows) 1 c.loop-a.pair ends) c.loop-a.invariant.tails in
    record { are = tails; few = tails_few C c.args.rows.now.set c.loop-a.words.items tails }

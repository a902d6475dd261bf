use Rattle.std.proofs.Common.{◌-◌, length, arith}
use Rattle.lc_kernel.proofs.BlockLaws.{phase_of_block}
use Rattle.lc_kernel.proofs.SweepLaws.{support_is, turned_at, turned_none, heads_kept}
use Rattle.lc_kernel.proofs.sweeps.turn.Goals as goal

pub returns-in_default-clause-at : goal.returns-in_default-clause-at
returns-in_default-clause-at c = absurd (turned_none c.args.sweep.now.block.sets.now c.args.sweep.now.block.plan.now.m (phase_of_block c.args.sweep.now.block).0 c.args.sweep.now.block.number c.args.done c.args.count c.args.sweep.now.set c.args.list c.args.support.now (phase_of_block c.args.sweep.now.block).1 c.requires.at c.requires.some c.requires.end (rw (← c.dimension-k.ensures.is) c.in_default.ensures.last) c.requires.inside)

pub returns-in_default-clause-heads : goal.returns-in_default-clause-heads
returns-in_default-clause-heads c = absurd (turned_none c.args.sweep.now.block.sets.now c.args.sweep.now.block.plan.now.m (phase_of_block c.args.sweep.now.block).0 c.args.sweep.now.block.number c.args.done c.args.count c.args.sweep.now.set c.args.list c.args.support.now (phase_of_block c.args.sweep.now.block).1 c.requires.at c.requires.some c.requires.end (rw (← c.dimension-k.ensures.is) c.in_default.ensures.last) c.requires.inside)

pub overflow_add-place : goal.overflow_add-place
overflow_add-place c =
    let s = support_is (length c.args.sweep.now.block.sets.now.rows) c.args.support.now c.requires.at.rises in
    omega (arith, c.in-Some.ensures.inside, s.high 0 (omega (arith, c.requires.at.level)), c.args.sweep.now.block.few)

pub make_heads-requires-clause-rises : goal.make_heads-requires-clause-rises
make_heads-requires-clause-rises c = (turned_at c.args.sweep.now.block.sets.now c.args.sweep.now.block.plan.now.m c.args.sweep.now.block.number c.args.done c.args.count c.args.sweep.now.set c.args.list c.args.support.now c.next_support.new.support c.requires.at c.requires.some c.requires.end (rw (← c.dimension-k.ensures.is) c.in-Some.ensures.next) c.next_support.auto.support).rises

pub returns-then-place-support-clause-at : goal.returns-then-place-support-clause-at
returns-then-place-support-clause-at c = turned_at c.args.sweep.now.block.sets.now c.args.sweep.now.block.plan.now.m c.args.sweep.now.block.number c.args.done c.args.count c.args.sweep.now.set c.args.list c.args.support.now c.next_support.new.support c.requires.at c.requires.some c.requires.end (rw (← c.dimension-k.ensures.is) c.in-Some.ensures.next) c.next_support.auto.support

pub returns-else-place-support-clause-at : goal.returns-else-place-support-clause-at
returns-else-place-support-clause-at c = turned_at c.args.sweep.now.block.sets.now c.args.sweep.now.block.plan.now.m c.args.sweep.now.block.number c.args.done c.args.count c.args.sweep.now.set c.args.list c.args.support.now c.next_support.new.support c.requires.at c.requires.some c.requires.end (rw (← c.dimension-k.ensures.is) c.in-Some.ensures.next) c.next_support.auto.support

pub returns-else-place-support-clause-heads : goal.returns-else-place-support-clause-heads
returns-else-place-support-clause-heads c = heads_kept c.args.sweep.now.block.sets.now c.args.sweep.now.set c.args.sweep.now.part c.args.sweep.now.grid.now.planes (length c.args.support.now - 2) c.in-Some.place c.args.support.now c.next_support.new.support c.args.heads.now (omega (arith, c.if-place-support.false, c.next_support.auto.support)) c.in-Some.ensures.same c.requires.heads

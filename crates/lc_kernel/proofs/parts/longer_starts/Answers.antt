use Rattle.std.proofs.Common.{◌≡◌, ◌∷◌, [], ◌+◌, ◌-◌, ◌<◌, suc, length, slice_index, sym, ap, subst, arith, length-append}
use Rattle.lc_kernel.specs.Packed.{EndsAt}
use Rattle.lc_kernel.proofs.SupportLaws.{ends_more, starts_more, starts_made}
use Rattle.lc_kernel.proofs.parts.longer_starts.Goals as goal

pub overflow_sub-first : goal.overflow_sub-first
overflow_sub-first c =
    let inside = c.requires.starts.first (c.loop-a.a + 1) (omega (arith, c.loop-a-test.true, c.loop-a.auto.a-end)) in
    omega (arith, inside.long, c.requires.many)

pub overflow_add-first-in-loop-a : goal.overflow_add-first-in-loop-a
overflow_add-first-in-loop-a c =
    let a = c.loop-a.a in
    let f = slice_index c.args.starts.now (a + 1) in
    let l : a < c.args.k = omega (arith, c.loop-a-test.true, c.loop-a.auto.a-end) in
    let next = ends_more c.args.k c.args.places a c.loop-a.first f l c.loop-a.invariant.ends (c.requires.starts.first (a + 1) (omega (arith, l))) in
    omega (arith, next.long, c.requires.many, c.requires.small)

pub loop-a-preserved : goal.loop-a-preserved
loop-a-preserved c =
    let i = c.loop-a.invariant in
    let k = c.args.k in
    let a = c.loop-a.a in
    let f = slice_index c.args.starts.now (a + 1) in
    let l : a < c.args.k = omega (arith, c.loop-a-test.true, c.loop-a.auto.a-end) in
    let next = ends_more k c.args.places a c.loop-a.first f l i.ends (c.requires.starts.first (a + 1) (omega (arith, l))) in
    record {
      count = omega (arith, ap length c.in_ok-push.ensures.items, length-append c.loop-a.longer.items (c.loop-a.first ∷ []), i.count);
      ends = subst (λ z. EndsAt k (suc c.args.places) (a + 1) (c.loop-a.first + (z - f))) (sym c.requires.many) next;
      starts = starts_more k (suc c.args.places) a c.loop-a.first c.loop-a.longer.items c.push.new.self.items i.count i.starts i.ends c.in_ok-push.ensures.items;
    }

pub returns : goal.returns
returns c =
    let i = c.loop-a.invariant in
    let k = c.args.k in
    let a = c.loop-a.a in
    let all : a ≡ k = omega (arith, c.loop-a-test.false, c.loop-a.auto.a-end) in
    let many : length c.push-2.new.self.items ≡ k + 1 = omega (arith, ap length c.in_ok-push-2.ensures.items, length-append c.loop-a.longer.items (c.loop-a.first ∷ []), i.count, all) in
    let starts = starts_more k (suc c.args.places) a c.loop-a.first c.loop-a.longer.items c.push-2.new.self.items i.count i.starts i.ends c.in_ok-push-2.ensures.items in
    record { are = starts_made k (suc c.args.places) c.push-2.new.self.items many (λ b l. starts b (omega (arith, l, all))) }

use Rattle.std.proofs.Common.{◌≡◌, ◌+◌, ◌-◌, ◌*◌, length, get_or, arith, ap, ◌∙◌}
use Rattle.lc_place.proofs.Unranking.{SupportSoFar, take_entry, leave_entry, support_rest, support_end}
use Rattle.lc_place.proofs.fill.fill_support.Goals as goal
use Rattle.lc_place.proofs.fill.fill_support.Goals.{then-taken-width+then-rest-with_place, then-taken-width+else-rest-with_place, else-taken-width}

pub loop-place-preserved : goal.loop-place-preserved
loop-place-preserved c =
    let many : c.len-taken.result ≡ length c.loop-place.support.items = c.len-taken.ensures ∙ c.loop-place.support.ok.0 in
    elim c.if-taken-width.branch [
      | then-taken-width+then-rest-with_place w ↦ record {
        so_far = rw w.rest-is (take_entry c.args.k c.args.width c.args.rank c.loop-place.place (get_or c.args.chooses.now ((c.args.k - c.loop-place.place - 1) * 256 + (c.args.width - c.len-taken.result - 1)) 0) c.len-taken.result c.loop-place.support.items c.if-taken-width.support.items c.loop-place.rest
            c.loop-place.invariant.so_far many c.loop-place-test.true c.requires.dimension w.if-taken-width.true c.requires.level
            (c.requires.table.entry ((c.args.k - c.loop-place.place - 1) * 256 + (c.args.width - c.len-taken.result - 1)) (omega (arith, w.if-taken-width.true))) w.if-rest-with_place.true
            (ap (λ v. v.items) w.support-is ∙ w.put.ensures.items));
        small = omega (arith, w.rest-is);
        room = omega (arith, ap (λ v. v.cap) w.support-is, w.put.ensures.capacity);
        capacity = omega (arith, ap (λ v. v.cap) w.support-is, w.put.ensures.capacity);
      }
      | then-taken-width+else-rest-with_place w ↦ record {
        so_far = rw (w.rest-is, w.support-is) (leave_entry c.args.k c.args.width c.args.rank c.loop-place.place (get_or c.args.chooses.now ((c.args.k - c.loop-place.place - 1) * 256 + (c.args.width - c.len-taken.result - 1)) 0) c.len-taken.result c.loop-place.support.items c.loop-place.rest
            c.loop-place.invariant.so_far many c.loop-place-test.true c.requires.dimension w.if-taken-width.true c.requires.level c.loop-place.invariant.small
            (c.requires.table.entry ((c.args.k - c.loop-place.place - 1) * 256 + (c.args.width - c.len-taken.result - 1)) (omega (arith, w.if-taken-width.true))) w.if-rest-with_place.false);
        small = omega (arith, w.rest-is);
        room = omega (arith, ap (λ v. v.cap) w.support-is);
        capacity = omega (arith, ap (λ v. v.cap) w.support-is);
      }
      | else-taken-width w ↦ record {
        so_far = rw (w.rest-is, w.support-is) (support_rest c.args.k c.args.width c.args.rank c.loop-place.place c.loop-place.support.items c.loop-place.rest c.loop-place.invariant.so_far (omega (arith, many, w.if-taken-width.false)));
        small = omega (arith, w.rest-is);
        room = omega (arith, ap (λ v. v.cap) w.support-is);
        capacity = omega (arith, ap (λ v. v.cap) w.support-is);
      }
    ]

pub returns-clause-at : goal.returns-clause-at
returns-clause-at c =
    let whole : c.loop-place.place ≡ c.args.k = omega (arith, c.loop-place-test.false, c.loop-place.auto.place-end) in
    let done : SupportSoFar c.args.k c.args.width c.args.rank c.args.k c.loop-place.support.items c.loop-place.rest = rw whole at c.loop-place.invariant.so_far in
    support_end c.args.k c.args.width c.args.rank c.loop-place.support.items c.loop-place.rest done

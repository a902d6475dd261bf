use Rattle.std.proofs.Common.{◌+◌, ◌-◌, ◌<◌, [], length, take, slice_index_or, sym, ap, ◌∙◌, arith}
use Rattle.std.proofs.lemmas.List.{length-set, length-take-le}
use Rattle.lc_checker.specs.Walk.{found}
use Rattle.lc_checker.proofs.WalkLaws.{over_whole, over_found, over_passed, over_end, front_longer, front_kept, front_inside}
use Rattle.lc_checker.proofs.walk.+lighter_over.Goals as goal

pub returns-then-depth-width-clause-is : goal.returns-then-depth-width-clause-is
returns-then-depth-width-clause-is t c =
    let rows = c.args.walk.now.rows.now in
    let same = c.if-depth-width.true in
    let long = length-take-le c.args.walk.now.width c.args.support.now c.requires.width in
    ap (λ w. found c.lighter_on.result (slice_index_or c.lighter_on.new.sums w [])) (sym long)
    ∙ over_whole rows.field rows.columns rows.rows c.args.walk.now.distance c.args.from (length rows.rows - c.args.from) (c.args.walk.now.width - c.args.depth) (take c.args.depth c.args.support.now) _ (omega (arith, same))
    (rw same c.lighter_on.ensures.is)

pub lighter_over-requires : goal.lighter_over-requires
lighter_over-requires t c =
    let inside : c.args.depth < length c.loop-place.support = omega (arith, c.loop-place.invariant.long, c.requires.width, c.requires.depth, c.if-depth-width.false) in
    let row : c.loop-place.place < length c.args.walk.now.rows.now.rows = omega (arith, c.loop-place-test.true, c.saturating_sub-place-end.ensures, c.rows-k.ensures.is, c.requires.depth, c.if-depth-width.false) in (
      omega (arith, c.requires.depth, c.if-depth-width.false),
      (
        c.requires.some,
        (
          omega (arith, length-set c.loop-place.support c.args.depth c.loop-place.place, c.loop-place.invariant.long, c.requires.width),
          (
            omega (arith, c.requires.depth, c.if-depth-width.false),
            (
              omega (arith, row),
              (
                c.requires.rows,
                (
                  omega (arith, c.loop-place.auto.sums, c.requires.many),
                  (
                    c.loop-place.invariant.sums,
                    front_inside c.loop-place.support c.args.support.now c.args.depth c.loop-place.place (length c.args.walk.now.rows.now.rows) inside row c.loop-place.invariant.front c.requires.front,
                  ),
                ),
              ),
            ),
          ),
        ),
      ),
    )

pub returns-then-lighter_over-clause-is : goal.returns-then-lighter_over-clause-is
returns-then-lighter_over-clause-is t c =
    let rows = c.args.walk.now.rows.now in
    let inside : c.args.depth < length c.loop-place.support = omega (arith, c.loop-place.invariant.long, c.requires.width, c.requires.depth, c.if-depth-width.false) in
    let row : c.loop-place.place < length c.args.walk.now.rows.now.rows = omega (arith, c.loop-place-test.true, c.saturating_sub-place-end.ensures, c.rows-k.ensures.is, c.requires.depth, c.if-depth-width.false) in
    over_found rows.field rows.columns rows.rows c.args.walk.now.distance c.loop-place.place (length rows.rows) (c.args.walk.now.width - c.args.depth) (c.args.walk.now.width - (c.args.depth + 1)) (take c.args.depth c.args.support.now) _ _ _ _
    row (omega (arith, c.requires.depth, c.if-depth-width.false)) (front_longer c.loop-place.support c.args.support.now c.args.depth c.loop-place.place inside c.loop-place.invariant.front) c.loop-place.invariant.rest c.lighter_over.ensures.is c.if-lighter_over.true

pub returns-then-lighter_over-clause-front : goal.returns-then-lighter_over-clause-front
returns-then-lighter_over-clause-front t c = front_kept c.loop-place.support c.args.support.now c.lighter_over.new.support c.args.depth c.loop-place.place c.lighter_over.ensures.front c.loop-place.invariant.front

pub loop-place-preserved : goal.loop-place-preserved
loop-place-preserved t c =
    let rows = c.args.walk.now.rows.now in
    let inside : c.args.depth < length c.loop-place.support = omega (arith, c.loop-place.invariant.long, c.requires.width, c.requires.depth, c.if-depth-width.false) in
    let row : c.loop-place.place < length c.args.walk.now.rows.now.rows = omega (arith, c.loop-place-test.true, c.saturating_sub-place-end.ensures, c.rows-k.ensures.is, c.requires.depth, c.if-depth-width.false) in
    record {
      sums = c.lighter_over.ensures.sums;
      long = c.lighter_over.ensures.long ∙ length-set c.loop-place.support c.args.depth c.loop-place.place ∙ c.loop-place.invariant.long;
      front = front_kept c.loop-place.support c.args.support.now c.lighter_over.new.support c.args.depth c.loop-place.place c.lighter_over.ensures.front c.loop-place.invariant.front;
      rest = over_passed rows.field rows.columns rows.rows c.args.walk.now.distance c.loop-place.place (length rows.rows) (c.args.walk.now.width - c.args.depth) (c.args.walk.now.width - (c.args.depth + 1)) (take c.args.depth c.args.support.now) _ _ _ _
          row (omega (arith, c.requires.depth, c.if-depth-width.false)) (front_longer c.loop-place.support c.args.support.now c.args.depth c.loop-place.place inside c.loop-place.invariant.front) c.loop-place.invariant.rest c.lighter_over.ensures.is c.if-lighter_over.false;
    }

pub returns-clause-is : goal.returns-clause-is
returns-clause-is t c =
    let rows = c.args.walk.now.rows.now in
    over_end rows.field rows.columns rows.rows c.args.walk.now.distance c.loop-place.place (length rows.rows - c.loop-place.place) (c.args.walk.now.width - c.args.depth) (take c.args.depth c.args.support.now) _ _
    (omega (arith, c.loop-place-test.false, c.saturating_sub-place-end.ensures, c.rows-k.ensures.is, c.requires.depth, c.if-depth-width.false, c.loop-place.auto.place)) c.loop-place.invariant.rest

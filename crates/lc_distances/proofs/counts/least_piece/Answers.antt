use Rattle.std.proofs.Common.{arith}
use Rattle.lc_distances.proofs.LeastLaws.{piece_taken, piece_kept}
use Rattle.lc_distances.proofs.counts.least_piece.Goals as goal

pub loop-start-preserved-then-lesser-least : goal.loop-start-preserved-then-lesser-least
loop-start-preserved-then-lesser-least c =
    let i = c.loop-start.invariant in
    record {
      inside = omega (arith, c.min-end.ensures);
      begun = omega (arith, c.min-end.ensures, i.inside);
      least = piece_taken c.args.counts.now c.loop-start.start c.min-end.result c.loop-start.least c.least_count-lesser.result i.inside c.min-end.ensures i.least c.least_count-lesser.ensures.is;
      before = λ j l. omega (arith, c.if-lesser-least.true, i.least.low j l);
    }

pub loop-start-preserved : goal.loop-start-preserved
loop-start-preserved c =
    let i = c.loop-start.invariant in
    record {
      inside = omega (arith, c.min-end.ensures);
      begun = omega (arith, c.min-end.ensures, i.inside, i.begun);
      least = piece_kept c.args.counts.now c.loop-start.start c.min-end.result c.loop-start.least c.least_count-lesser.result i.inside c.min-end.ensures i.least c.least_count-lesser.ensures.is c.if-lesser-least.false;
      before = i.before;
    }

use Rattle.std.proofs.Common.{◌+◌, length, slice_index, ap, ◌∙◌, arith}
use Rattle.lc_distances.proofs.PlaneLaws.{apart_two, apart_three, apart_four, by_planes}
use Rattle.lc_distances.proofs.planes.add_apart.Goals as goal

pub returns-then-planes-eq2 : goal.returns-then-planes-eq2
returns-then-planes-eq2 c = record {
  is = λ i l.
      let apart = apart_two c.args.head.now c.args.bits.now c.args.words c.args.start (length c.args.counts.now) i l in
      c.add_two.ensures.is i l ∙ ap (λ z. slice_index c.args.counts.now i + z) (by_planes c.args.planes 2 _ c.args.words (c.args.start + i) c.args.head.now c.args.bits.now c.if-planes-eq2.true apart);
}

pub returns-then-planes-eq3 : goal.returns-then-planes-eq3
returns-then-planes-eq3 c = record {
  is = λ i l.
      let apart = apart_three c.args.head.now c.args.bits.now c.args.words c.args.start (length c.args.counts.now) i l in
      c.add_three.ensures.is i l ∙ ap (λ z. slice_index c.args.counts.now i + z) (by_planes c.args.planes 3 _ c.args.words (c.args.start + i) c.args.head.now c.args.bits.now c.if-planes-eq3.true apart);
}

pub returns : goal.returns
returns c = record {
  is = λ i l.
      let apart = apart_four c.args.head.now c.args.bits.now c.args.words c.args.start (length c.args.counts.now) i l in
      c.add_four.ensures.is i l ∙ ap (λ z. slice_index c.args.counts.now i + z) (by_planes c.args.planes 4 _ c.args.words (c.args.start + i) c.args.head.now c.args.bits.now (omega (arith, c.requires.least, c.requires.most, c.if-planes-eq2.false, c.if-planes-eq3.false)) apart);
}

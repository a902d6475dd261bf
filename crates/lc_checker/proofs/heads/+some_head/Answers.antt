use Rattle.std.proofs.Common.{◌≡◌, ◌+◌, ◌<◌, [], length, slice_index_or, refl, ap, subst, ◌∙◌, ⊎_elim, arith}
use Rattle.std.proofs.lemmas.Bool.{cases_lt}
use Rattle.std.proofs.lemmas.List.{get_or_default}
use Rattle.lc_algebra.specs.Field.{size}
use Rattle.lc_algebra.specs.Word.{word_sum, scale}
use Rattle.lc_planes.specs.Packing.{IsPacked}
use Rattle.lc_checker.specs.Walk.{row_of}
use Rattle.lc_checker.specs.Heavy.{AreAllHeavy}
use Rattle.lc_checker.proofs.HeadLaws.{all_heavy_step, all_heavy_tails}
use Rattle.lc_checker.proofs.heads.+some_head.Goals as goal

pub loop-c-init : goal.loop-c-init
loop-c-init g t c = record {
  sums = c.loop-place.invariant.sums;
  kept = λ _ _. refl;
  done = λ e z l. absurd (omega (arith, z, l));
}

pub loop-c-preserved : goal.loop-c-preserved
loop-c-preserved g t c =
    let rows = c.args.multiples.now.rows.now in
    let d = c.args.distance in
    let p = c.loop-place.place in
    let a = slice_index_or c.loop-place.sums c.args.depth [] in
    let u = word_sum rows.field a (scale rows.field c.loop-c.c (row_of rows.rows p)) in
    let made : slice_index_or c.put_multiple.new.sums (c.args.depth + 1) [] ≡ u = c.put_multiple.ensures.is ∙ ap (λ y. word_sum rows.field y (scale rows.field c.loop-c.c (row_of rows.rows p))) (c.loop-c.invariant.kept c.args.depth (omega arith)) in
    record {
      sums = c.some_head.ensures.sums;
      kept = λ i l. c.some_head.ensures.kept i (omega (arith, l)) ∙ c.put_multiple.ensures.kept i l ∙ c.loop-c.invariant.kept i l;
      done = λ e z l. ⊎_elim
          (λ b. c.loop-c.invariant.done e z b)
          (λ b.
          let same : c.loop-c.c ≡ e = omega (arith, b, l) in
          subst (λ x. AreAllHeavy d rows (word_sum rows.field a (scale rows.field x (row_of rows.rows p))) (p + 1)) same
          (subst (λ x. AreAllHeavy d rows x (p + 1)) made (c.some_head.ensures.heavy c.if-some_head.false)))
          (cases_lt e c.loop-c.c);
    }

pub loop-place-preserved : goal.loop-place-preserved
loop-place-preserved g t c =
    let rows = c.args.multiples.now.rows.now in
    let d = c.args.distance in
    let p = c.loop-place.place in
    let a = slice_index_or c.args.sums.now c.args.depth [] in
    let same : slice_index_or c.loop-place.sums c.args.depth [] ≡ a = c.loop-place.invariant.kept c.args.depth (omega arith) in
    let row : p < length rows.rows = omega (arith, c.loop-place-test.true, c.requires.split) in
    let q : c.size-c-end.result ≡ size rows.field = c.size-c-end.ensures.is ∙ ap size c.field.ensures.is in
    record {
      sums = c.loop-c.invariant.sums;
      kept = λ i l. c.loop-c.invariant.kept i l ∙ c.loop-place.invariant.kept i l;
      heavy = λ later. c.loop-place.invariant.heavy (all_heavy_step d rows a p c.requires.multiples.words row
          (λ e z l. subst (λ x. AreAllHeavy d rows (word_sum rows.field x (scale rows.field e (row_of rows.rows p))) (p + 1)) same (c.loop-c.invariant.done e z (omega (arith, l, c.loop-c-test.false, q))))
          later);
    }

pub returns-clause-heavy : goal.returns-clause-heavy
returns-clause-heavy g t c = λ _.
    let C = c.args.multiples.now.rows.now in
    let d = c.args.distance in
    let a = slice_index_or c.args.sums.now c.args.depth [] in
    let there : c.args.depth < length c.args.sums.now = omega (arith, c.requires.room) in
    let is : c.symbols.result.now ≡ a = c.symbols.ensures.are ∙ get_or_default c.args.sums.now c.args.depth c.index-sums-depth.result [] there in
    let end : c.args.tails.now.split ≡ c.loop-place.place = omega (arith, c.loop-place-test.false, c.loop-place.auto.place-end) in
    c.loop-place.invariant.heavy (subst (AreAllHeavy d C a) end
    (all_heavy_tails g.row.P g.row.N d C a c.args.tails.now.split c.pack.result c.args.tails.now.words.now c.requires.multiples.words c.requires.planes.1 c.requires.parts.1 (c.requires.sums.words c.args.depth there) (subst (λ w. IsPacked g.row.P g.row.N w c.pack.result) is c.pack.ensures.is) c.requires.tails (c.has_light_tail.ensures.none c.if-has_light_tail.false)))

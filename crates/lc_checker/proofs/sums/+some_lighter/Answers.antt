use Rattle.std.proofs.Common.{◌≡◌, ℕ, ◌+◌, ◌-◌, ◌<◌, ◌≤◌, false, [], length, slice_index_or, refl, sym, ap, subst, ◌∙◌, ⊎_elim, arith}
use Rattle.std.proofs.lemmas.Bool.{cases_lt}
use Rattle.std.proofs.lemmas.List.{get_or_default}
use Rattle.lc_algebra.specs.Field.{size}
use Rattle.lc_algebra.specs.Word.{word_sum, scale}
use Rattle.lc_formats.specs.Certificate.{is_lighter}
use Rattle.lc_checker.specs.Walk.{AreSums, row_of}
use Rattle.lc_checker.specs.Heavy.{AreHeavy}
use Rattle.lc_checker.proofs.HeavyLaws.{heavy_end, heavy_step, heavy_none}
use Rattle.lc_checker.proofs.sums.+some_lighter.Goals.{else-width-gt1-via-then-width-gt1+else-some_lighter, else-width-gt1-via-else-width-gt1}
use Rattle.lc_checker.proofs.sums.+some_lighter.Goals as goal

pub loop-c-init : goal.loop-c-init
loop-c-init t c = record {
  sums = c.loop-place.invariant.sums;
  kept = λ _ _. refl;
  done = λ e z l. absurd (omega (arith, z, l));
}

pub loop-c-preserved : goal.loop-c-preserved
loop-c-preserved t c =
    let rows = c.args.multiples.now.rows.now in
    let d = c.args.distance in
    let p = c.loop-place.place in
    let a = slice_index_or c.loop-place.sums c.args.depth [] in
    let u = word_sum rows.field a (scale rows.field c.loop-c.c (row_of rows.rows p)) in
    let made : slice_index_or c.put_multiple.new.sums (c.args.depth + 1) [] ≡ u = c.put_multiple.ensures.is ∙ ap (λ y. word_sum rows.field y (scale rows.field c.loop-c.c (row_of rows.rows p))) (c.loop-c.invariant.kept c.args.depth (omega arith)) in
    let room : c.args.depth + 1 < length c.put_multiple.new.sums = omega (arith, c.put_multiple.auto.sums, c.loop-c.auto.sums, c.loop-place.auto.sums, c.requires.room) in
    let heavy : is_lighter d u ≡ false = ap (is_lighter d) (sym (c.symbols.ensures.are ∙ get_or_default c.put_multiple.new.sums (c.args.depth + 1) c.index-sums-depth.result [] room ∙ made)) ∙ sym c.is_lighter.ensures.is ∙ c.if-is_lighter.false in
    let kept = λ (i : ℕ) (l : i ≤ c.args.depth). c.put_multiple.ensures.kept i l ∙ c.loop-c.invariant.kept i l in
    elim c.else-width-gt1.branch [
      | else-width-gt1-via-then-width-gt1+else-some_lighter w ↦ record {
        sums = subst (AreSums rows) (sym w.sums-is) w.some_lighter.ensures.sums;
        kept = λ i l. ap (λ ss. slice_index_or ss i []) w.sums-is ∙ w.some_lighter.ensures.kept i (omega (arith, l)) ∙ kept i l;
        done = λ e z l. ⊎_elim
            (λ b. c.loop-c.invariant.done e z b)
            (λ b.
            let same : c.loop-c.c ≡ e = omega (arith, b, l) in
            subst (λ x. (is_lighter d (word_sum rows.field a (scale rows.field x (row_of rows.rows p))) ≡ false) × AreHeavy d rows (word_sum rows.field a (scale rows.field x (row_of rows.rows p))) (p + 1) (c.args.width - 1)) same
            (heavy, subst (λ x. AreHeavy d rows x (p + 1) (c.args.width - 1)) made (w.some_lighter.ensures.heavy w.if-some_lighter.false)))
            (cases_lt e c.loop-c.c);
      }
      | else-width-gt1-via-else-width-gt1 w ↦ record {
        sums = subst (AreSums rows) (sym w.sums-is) c.put_multiple.ensures.sums;
        kept = λ i l. ap (λ ss. slice_index_or ss i []) w.sums-is ∙ kept i l;
        done = λ e z l. ⊎_elim
            (λ b. c.loop-c.invariant.done e z b)
            (λ b.
            let same : c.loop-c.c ≡ e = omega (arith, b, l) in
            subst (λ x. (is_lighter d (word_sum rows.field a (scale rows.field x (row_of rows.rows p))) ≡ false) × AreHeavy d rows (word_sum rows.field a (scale rows.field x (row_of rows.rows p))) (p + 1) (c.args.width - 1)) same
            (heavy, heavy_none d rows u (p + 1) (c.args.width - 1) (omega (arith, w.if-width-gt1.false))))
            (cases_lt e c.loop-c.c);
      }
    ]

pub loop-place-preserved : goal.loop-place-preserved
loop-place-preserved t c =
    let rows = c.args.multiples.now.rows.now in
    let d = c.args.distance in
    let p = c.loop-place.place in
    let a = slice_index_or c.args.sums.now c.args.depth [] in
    let same : slice_index_or c.loop-place.sums c.args.depth [] ≡ a = c.loop-place.invariant.kept c.args.depth (omega arith) in
    let row : p < length rows.rows = omega (arith, c.loop-place-test.true, c.rows-place-end.ensures.is) in
    let q : c.size-c-end.result ≡ size rows.field = c.size-c-end.ensures.is ∙ ap size c.field.ensures.is in
    record {
      sums = c.loop-c.invariant.sums;
      kept = λ i l. c.loop-c.invariant.kept i l ∙ c.loop-place.invariant.kept i l;
      heavy = λ later. c.loop-place.invariant.heavy (heavy_step d rows a p c.args.width row
          (λ e z l. subst (λ x. (is_lighter d (word_sum rows.field x (scale rows.field e (row_of rows.rows p))) ≡ false) × AreHeavy d rows (word_sum rows.field x (scale rows.field e (row_of rows.rows p))) (p + 1) (c.args.width - 1)) same (c.loop-c.invariant.done e z (omega (arith, l, c.loop-c-test.false, q))))
          later);
    }

pub returns-clause-heavy : goal.returns-clause-heavy
returns-clause-heavy t c = λ _. c.loop-place.invariant.heavy (heavy_end c.args.distance c.args.multiples.now.rows.now (slice_index_or c.args.sums.now c.args.depth []) c.loop-place.place c.args.width (omega (arith, c.loop-place-test.false, c.rows-place-end.ensures.is)))

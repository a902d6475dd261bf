use Rattle.std.proofs.Common.{◌≡◌, ◌+◌, ◌-◌, ◌<◌, false, [], length, slice_index_or, sym, ap, subst, ◌∙◌, ⊎_elim, arith}
use Rattle.std.proofs.lemmas.Bool.{cases_lt}
use Rattle.std.proofs.lemmas.List.{get_or_default}
use Rattle.lc_algebra.specs.Word.{word_sum, scale}
use Rattle.lc_algebra.proofs.FieldLaws.{one_inside}
use Rattle.lc_formats.specs.Certificate.{is_lighter}
use Rattle.lc_checker.specs.Walk.{AreSums, row_of}
use Rattle.lc_checker.specs.Heavy.{AreHeavy}
use Rattle.lc_checker.proofs.HeavyLaws.{first_sum, firsts_found, heavy_none}
use Rattle.lc_checker.proofs.sums.some_lighter_word.Goals.{else-level-gt1-via-then-level-gt1+else-some_lighter, else-level-gt1-via-else-level-gt1}
use Rattle.lc_checker.proofs.sums.some_lighter_word.Goals as goal

pub put_multiple-requires-clause-element : goal.put_multiple-requires-clause-element
put_multiple-requires-clause-element c = (omega arith, one_inside c.args.multiples.now.rows.now.field)

pub loop-place-preserved : goal.loop-place-preserved
loop-place-preserved c =
    let rows = c.args.multiples.now.rows.now in
    let d = c.args.distance in
    let p = c.loop-place.place in
    let made : slice_index_or c.put_multiple.new.sums 1 [] ≡ first_sum rows p = c.put_multiple.ensures.is ∙ ap (λ y. word_sum rows.field y (scale rows.field 1 (row_of rows.rows p))) c.loop-place.invariant.sums.zero in
    let room : 1 < length c.put_multiple.new.sums = omega (arith, c.put_multiple.auto.sums, c.loop-place.auto.sums, c.requires.room) in
    let heavy : is_lighter d (first_sum rows p) ≡ false = ap (is_lighter d) (sym (c.symbols.ensures.are ∙ get_or_default c.put_multiple.new.sums 1 c.index-sums-1.result [] room ∙ made)) ∙ sym c.is_lighter.ensures.is ∙ c.if-is_lighter.false in
    elim c.else-level-gt1.branch [
      | else-level-gt1-via-then-level-gt1+else-some_lighter w ↦ record {
        sums = subst (AreSums rows) (sym w.sums-is) w.some_lighter.ensures.sums;
        done = λ e l. ⊎_elim
            (λ b. c.loop-place.invariant.done e b)
            (λ b.
            let same : p ≡ e = omega (arith, b, l) in
            subst (λ x. (is_lighter d (first_sum rows x) ≡ false) × AreHeavy d rows (first_sum rows x) (x + 1) (c.args.level - 1)) same
            (heavy, subst (λ x. AreHeavy d rows x (p + 1) (c.args.level - 1)) made (w.some_lighter.ensures.heavy w.if-some_lighter.false)))
            (cases_lt e p);
      }
      | else-level-gt1-via-else-level-gt1 w ↦ record {
        sums = subst (AreSums rows) (sym w.sums-is) c.put_multiple.ensures.sums;
        done = λ e l. ⊎_elim
            (λ b. c.loop-place.invariant.done e b)
            (λ b.
            let same : p ≡ e = omega (arith, b, l) in
            subst (λ x. (is_lighter d (first_sum rows x) ≡ false) × AreHeavy d rows (first_sum rows x) (x + 1) (c.args.level - 1)) same
            (heavy, heavy_none d rows (first_sum rows p) (p + 1) (c.args.level - 1) (omega (arith, w.if-level-gt1.false))))
            (cases_lt e p);
      }
    ]

pub returns-clause-none : goal.returns-clause-none
returns-clause-none c = λ _. firsts_found c.args.distance c.args.level c.args.multiples.now.rows.now (λ p l. c.loop-place.invariant.done p (omega (arith, l, c.loop-place-test.false, c.rows-place-end.ensures.is)))

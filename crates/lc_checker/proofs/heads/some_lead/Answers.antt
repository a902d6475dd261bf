use Rattle.std.proofs.Common.{◌≡◌, ◌+◌, [], slice_index_or, ap, subst, ◌∙◌, ⊎_elim, arith}
use Rattle.std.proofs.lemmas.Bool.{cases_lt}
use Rattle.std.proofs.lemmas.List.{get_or_default}
use Rattle.lc_algebra.specs.Word.{zero_word, word_sum, scale}
use Rattle.lc_algebra.proofs.FieldLaws.{one_inside}
use Rattle.lc_algebra.proofs.WordLaws.{IsWord_zero}
use Rattle.lc_planes.specs.Packing.{IsPacked}
use Rattle.lc_checker.specs.Walk.{row_of}
use Rattle.lc_checker.specs.Heavy.{AreAllHeavy}
use Rattle.lc_checker.proofs.HeavyLaws.{first_sum}
use Rattle.lc_checker.proofs.HeadLaws.{all_heavy_tails, leads_heavy}
use Rattle.lc_checker.proofs.heads.some_lead.Goals as goal

pub put_multiple-requires-clause-element : goal.put_multiple-requires-clause-element
put_multiple-requires-clause-element g c = (omega arith, one_inside c.args.multiples.now.rows.now.field)

pub loop-place-preserved : goal.loop-place-preserved
loop-place-preserved g c =
    let rows = c.args.multiples.now.rows.now in
    let d = c.args.distance in
    let p = c.loop-place.place in
    let made : slice_index_or c.put_multiple.new.sums 1 [] ≡ first_sum rows p = c.put_multiple.ensures.is ∙ ap (λ y. word_sum rows.field y (scale rows.field 1 (row_of rows.rows p))) c.loop-place.invariant.sums.zero in
    record {
      sums = c.some_head.ensures.sums;
      done = λ e l. ⊎_elim
          (λ b. c.loop-place.invariant.done e b)
          (λ b.
          let same : p ≡ e = omega (arith, b, l) in
          subst (λ x. AreAllHeavy d rows (first_sum rows x) (x + 1)) same (subst (λ x. AreAllHeavy d rows x (p + 1)) made (c.some_head.ensures.heavy c.if-some_head.false)))
          (cases_lt e p);
    }

pub returns : goal.returns
returns g c =
    let C = c.args.multiples.now.rows.now in
    let words = c.requires.multiples.words in
    let zero : c.symbols.result.now ≡ zero_word C.columns = c.symbols.ensures.are ∙ get_or_default c.args.sums.now 0 c.index-sums-0.result [] (omega (arith, c.requires.room)) ∙ c.requires.sums.zero in
    record {
      heavy = λ _. leads_heavy c.args.distance C c.args.tails.now.split words c.requires.split
          (λ p l. c.loop-place.invariant.done p (omega (arith, l, c.loop-place-test.false)))
          (all_heavy_tails g.row.P g.row.N c.args.distance C (zero_word C.columns) c.args.tails.now.split c.pack.result c.args.tails.now.words.now words c.requires.planes.1 c.requires.parts.1 (IsWord_zero C.field C.columns) (subst (λ w. IsPacked g.row.P g.row.N w c.pack.result) zero c.pack.ensures.is) c.requires.tails (c.has_light_tail.ensures.none c.if-has_light_tail.false));
    }

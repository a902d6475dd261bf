use Rattle.std.proofs.Common.{◌≡◌, ◌+◌, ◌-◌, ◌<◌, false, [], length, sym, subst, ◌∙◌, arith}
use Rattle.std.proofs.lemmas.List.{get_or_default}
use Rattle.lc_algebra.specs.Word.{IsWord, word_sum, scale}
use Rattle.lc_formats.specs.Certificate.{is_lighter}
use Rattle.lc_checker.specs.Walk.{row_of}
use Rattle.lc_checker.specs.Blocks.{AreBlocks}
use Rattle.lc_checker.specs.Heavy.{AreHeavy}
use Rattle.lc_checker.proofs.BlockLaws.{next_blocks, next_word, light_is}
use Rattle.lc_checker.proofs.HeavyLaws.{heavy_end, heavy_binary, heavy_none}
use Rattle.lc_checker.proofs.blocks.+some_light.Goals.{else-width-gt1-via-then-width-gt1+else-some_light, else-width-gt1-via-else-width-gt1}
use Rattle.lc_checker.proofs.blocks.+some_light.Goals as goal

pub loop-place-preserved : goal.loop-place-preserved
loop-place-preserved g t c = λ C a h word b later.
    let p = c.loop-place.place in
    let d = c.args.distance in
    let bits = c.args.bits.now in
    let row : p < length C.rows = omega (arith, c.loop-place-test.true, h.many) in
    let u = word_sum C.field a (scale C.field 1 (row_of C.rows p)) in
    let is : IsWord C.field C.columns u = next_word C p a h.words row word in
    let at = c.index-bits-place.is ∙ get_or_default bits p c.index-bits-place.result [] c.loop-place-test.true in
    let made : AreBlocks g.row.N c.sum_of-next.result u = next_blocks C g.row.N p bits c.args.sum c.sum_of-next.result a h row word b (λ x y e k l m n. c.sum_of-next.ensures.are x y e k l m (subst (λ r. AreBlocks g.row.N r y) (sym at) n)) in
    let heavy : is_lighter d u ≡ false = sym (light_is C g.row.N p d bits c.sum_of-next.result u c.is_light.result h is made c.is_light.ensures.is) ∙ c.if-is_light.false in
    let below : AreHeavy d C u (p + 1) (c.args.width - 1) = elim c.else-width-gt1.branch [
      | else-width-gt1-via-then-width-gt1+else-some_light w ↦ w.some_light.ensures.heavy w.if-some_light.false C u h is made
      | else-width-gt1-via-else-width-gt1 w ↦ heavy_none d C u (p + 1) (c.args.width - 1) (omega (arith, w.if-width-gt1.false))
    ] in
    c.loop-place.invariant C a h word b (heavy_binary d C a p c.args.width h.binary row heavy below later)

pub returns : goal.returns
returns g t c = record { heavy = λ _ C a h word b. c.loop-place.invariant C a h word b (heavy_end c.args.distance C a c.loop-place.place c.args.width (omega (arith, c.loop-place-test.false, h.many))) }

use Rattle.std.proofs.Common.{◌+◌, ◌<◌, [], length, refl, sym, ap, ◌∙◌, arith}
use Rattle.lc_algebra.specs.Field.{size}
use Rattle.lc_algebra.proofs.WordLaws.{IsWord_scale}
use Rattle.lc_vec.proofs.PartLaws.{part_before, part_after, part_put}
use Rattle.lc_checker.specs.Walk.{row_of}
use Rattle.lc_checker.proofs.WalkLaws.{sums_put}
use Rattle.lc_checker.proofs.HeavyLaws.{multiple_at}
use Rattle.lc_checker.proofs.sums.put_multiple.Goals as goal

pub put_added-requires-clause-to : goal.put_added-requires-clause-to
put_added-requires-clause-to c =
    let s = c.split_at_mut-before in
    let ws = c.args.sums.now in
    let i = c.args.depth in
    let l : i < length ws = omega (arith, c.requires.many) in
    let after = part_after ws s.result.0.now s.result.1.now (i + 1) c.index-rest-0.result s.ensures.value s.ensures.front_len c.requires.many s.ensures.back_len in
    let before = part_before ws s.result.0.now s.result.1.now i c.index-before-depth.result s.ensures.value (omega (arith, s.ensures.front_len)) in
    ap length after ∙ (c.requires.sums.words (i + 1) c.requires.many).long ∙ sym (c.requires.sums.words i l).long ∙ sym (ap length (c.symbols.ensures.are ∙ before))

pub put_added-requires-clause-lengths : goal.put_added-requires-clause-lengths
put_added-requires-clause-lengths c =
    let C = c.args.multiples.now.rows.now in
    let s = c.split_at_mut-before in
    let l : c.args.depth < length c.args.sums.now = omega (arith, c.requires.many) in
    let before = part_before c.args.sums.now s.result.0.now s.result.1.now c.args.depth c.index-before-depth.result s.ensures.value (omega (arith, s.ensures.front_len)) in
    let h = c.requires.multiples in
    let is = multiple_at C c.args.multiples.now.words.now c.args.place c.args.c c.size.result c.index-words-place.result h c.requires.row c.requires.element.0 c.requires.element.1 (c.size.ensures.is ∙ ap size c.field.ensures.is) c.index-words-place.is in
    let word = IsWord_scale C.field C.columns c.args.c (row_of C.rows c.args.place) (h.words c.args.place [] c.requires.row).long in
    ap length (c.symbols.ensures.are ∙ before) ∙ (c.requires.sums.words c.args.depth l).long ∙ sym (ap length (c.symbols-2.ensures.are ∙ is) ∙ word.long)

pub put_added-requires-clause-word : goal.put_added-requires-clause-word
put_added-requires-clause-word c =
    let s = c.split_at_mut-before in
    let l : c.args.depth < length c.args.sums.now = omega (arith, c.requires.many) in
    let before = part_before c.args.sums.now s.result.0.now s.result.1.now c.args.depth c.index-before-depth.result s.ensures.value (omega (arith, s.ensures.front_len)) in
    rw (c.symbols.ensures.are ∙ before, c.field-2.ensures.is) (c.requires.sums.words c.args.depth l).fits

pub put_added-requires-clause-other : goal.put_added-requires-clause-other
put_added-requires-clause-other c =
    let C = c.args.multiples.now.rows.now in
    let h = c.requires.multiples in
    let is = multiple_at C c.args.multiples.now.words.now c.args.place c.args.c c.size.result c.index-words-place.result h c.requires.row c.requires.element.0 c.requires.element.1 (c.size.ensures.is ∙ ap size c.field.ensures.is) c.index-words-place.is in
    let word = IsWord_scale C.field C.columns c.args.c (row_of C.rows c.args.place) (h.words c.args.place [] c.requires.row).long in
    rw (c.symbols-2.ensures.are ∙ is, c.field-2.ensures.is) word.fits

pub returns : goal.returns
returns c =
    let C = c.args.multiples.now.rows.now in
    let s = c.split_at_mut-before in
    let before = part_before c.args.sums.now s.result.0.now s.result.1.now c.args.depth c.index-before-depth.result s.ensures.value (omega (arith, s.ensures.front_len)) in
    let h = c.requires.multiples in
    let is = multiple_at C c.args.multiples.now.words.now c.args.place c.args.c c.size.result c.index-words-place.result h c.requires.row c.requires.element.0 c.requires.element.1 (c.size.ensures.is ∙ ap size c.field.ensures.is) c.index-words-place.is in
    let put = part_put c.args.sums.now s.result.0.now s.result.1.now (c.args.depth + 1) c.put_added.new.self s.ensures.value s.ensures.front_len ∙ rw (c.put_added.ensures.is, c.symbols.ensures.are ∙ before, c.symbols-2.ensures.are ∙ is, c.field-2.ensures.is) refl in
    let t = sums_put C c.args.depth c.args.c (row_of C.rows c.args.place) c.args.sums.now _ c.requires.sums (h.words c.args.place [] c.requires.row) c.requires.many put in
    record { is = t.is; sums = t.sums; kept = t.kept }

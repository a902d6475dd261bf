use Rattle.std.proofs.Common.{◌+◌, ◌<◌, length, refl, sym, ap, ◌∙◌, arith}
use Rattle.lc_vec.proofs.PartLaws.{part_before, part_after, part_put}
use Rattle.lc_kernel.proofs.sums.extend.Goals as goal

pub put_added-requires-clause-to : goal.put_added-requires-clause-to
put_added-requires-clause-to c =
    let s = c.split_at_mut-before in
    let ws = c.args.words.now in
    let i = c.args.i in
    let l : i < length ws = omega (arith, c.requires.many) in
    let after = part_after ws s.result.0.now s.result.1.now (i + 1) c.index-rest-0.result s.ensures.value s.ensures.front_len c.requires.many s.ensures.back_len in
    let before = part_before ws s.result.0.now s.result.1.now i c.index-before-i.result s.ensures.value (omega (arith, s.ensures.front_len)) in
    ap length after ∙ (c.requires.words (i + 1) c.requires.many).long ∙ sym (c.requires.words i l).long ∙ sym (ap length (c.symbols.ensures.are ∙ before))

pub put_added-requires-clause-lengths : goal.put_added-requires-clause-lengths
put_added-requires-clause-lengths c =
    let s = c.split_at_mut-before in
    let l : c.args.i < length c.args.words.now = omega (arith, c.requires.many) in
    let before = part_before c.args.words.now s.result.0.now s.result.1.now c.args.i c.index-before-i.result s.ensures.value (omega (arith, s.ensures.front_len)) in
    ap length (c.symbols.ensures.are ∙ before) ∙ (c.requires.words c.args.i l).long ∙ sym c.multiple_of-other.ensures.word.long ∙ sym (ap length c.symbols-2.ensures.are)

pub put_added-requires-clause-word : goal.put_added-requires-clause-word
put_added-requires-clause-word c =
    let s = c.split_at_mut-before in
    let l : c.args.i < length c.args.words.now = omega (arith, c.requires.many) in
    let before = part_before c.args.words.now s.result.0.now s.result.1.now c.args.i c.index-before-i.result s.ensures.value (omega (arith, s.ensures.front_len)) in
    rw (c.symbols.ensures.are ∙ before, c.field.ensures.is) (c.requires.words c.args.i l).fits

pub put_added-requires-clause-other : goal.put_added-requires-clause-other
put_added-requires-clause-other c = rw (c.symbols-2.ensures.are, c.field.ensures.is) c.multiple_of-other.ensures.word.fits

pub returns : goal.returns
returns c =
    let s = c.split_at_mut-before in
    let before = part_before c.args.words.now s.result.0.now s.result.1.now c.args.i c.index-before-i.result s.ensures.value (omega (arith, s.ensures.front_len)) in
    record { is = part_put c.args.words.now s.result.0.now s.result.1.now (c.args.i + 1) c.put_added.new.self s.ensures.value s.ensures.front_len ∙ rw (c.put_added.ensures.is, c.symbols.ensures.are ∙ before, c.symbols-2.ensures.are, c.multiple_of-other.ensures.is, c.field.ensures.is, c.set.ensures, c.support.ensures.places, c.coefficients.ensures.entries) refl }

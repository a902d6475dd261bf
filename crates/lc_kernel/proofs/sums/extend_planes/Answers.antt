use Rattle.std.proofs.Common.{◌+◌, ◌<◌, set, length, refl, sym, ap, ◌∙◌, arith}
use Rattle.lc_kernel.specs.PlaneSums.{symbols_in}
use Rattle.lc_kernel.proofs.PlaneSumLaws.{before_cut, after_cut, cut_put, planes_put, over_put}
use Rattle.lc_kernel.proofs.sums.extend_planes.Goals as goal

pub put_added-requires-clause-to : goal.put_added-requires-clause-to
put_added-requires-clause-to c =
    let s = c.split_at_mut-before in
    let ws = c.args.words.now in
    let i = c.args.i in
    let C = c.args.sets.now in
    let before = before_cut C ws s.result.0.now s.result.1.now i c.index-before-i.result c.requires.over s.ensures.value (omega (arith, s.ensures.front_len)) (omega (arith, c.requires.many)) in
    let after = after_cut C ws s.result.0.now s.result.1.now (i + 1) c.index-rest-0.result c.requires.over s.ensures.value s.ensures.front_len c.requires.many in
    before.field ∙ sym after.field

pub put_added-requires-clause-field : goal.put_added-requires-clause-field
put_added-requires-clause-field c =
    let s = c.split_at_mut-before in
    let after = after_cut c.args.sets.now c.args.words.now s.result.0.now s.result.1.now (c.args.i + 1) c.index-rest-0.result c.requires.over s.ensures.value s.ensures.front_len c.requires.many in
    c.planes_at-other.ensures.field ∙ sym after.field

pub put_added-requires-clause-long : goal.put_added-requires-clause-long
put_added-requires-clause-long c =
    let s = c.split_at_mut-before in
    let ws = c.args.words.now in
    let i = c.args.i in
    let C = c.args.sets.now in
    let l : i < length ws = omega (arith, c.requires.many) in
    let before = before_cut C ws s.result.0.now s.result.1.now i c.index-before-i.result c.requires.over s.ensures.value (omega (arith, s.ensures.front_len)) l in
    let after = after_cut C ws s.result.0.now s.result.1.now (i + 1) c.index-rest-0.result c.requires.over s.ensures.value s.ensures.front_len c.requires.many in
    ap length before.symbols ∙ (c.requires.words i l).long ∙ sym (c.requires.words (i + 1) c.requires.many).long ∙ sym (ap length after.symbols)

pub put_added-requires-clause-lengths : goal.put_added-requires-clause-lengths
put_added-requires-clause-lengths c =
    let s = c.split_at_mut-before in
    let after = after_cut c.args.sets.now c.args.words.now s.result.0.now s.result.1.now (c.args.i + 1) c.index-rest-0.result c.requires.over s.ensures.value s.ensures.front_len c.requires.many in
    c.planes_at-other.ensures.word.long ∙ sym (c.requires.words (c.args.i + 1) c.requires.many).long ∙ sym (ap length after.symbols)

pub returns-clause-is : goal.returns-clause-is
returns-clause-is c =
    let s = c.split_at_mut-before in
    let ws = c.args.words.now in
    let i = c.args.i in
    let C = c.args.sets.now in
    let before = before_cut C ws s.result.0.now s.result.1.now i c.index-before-i.result c.requires.over s.ensures.value (omega (arith, s.ensures.front_len)) (omega (arith, c.requires.many)) in
    let after = after_cut C ws s.result.0.now s.result.1.now (i + 1) c.index-rest-0.result c.requires.over s.ensures.value s.ensures.front_len c.requires.many in
    planes_put ws _ (i + 1) c.put_added.new.self (cut_put ws s.result.0.now s.result.1.now (i + 1) c.put_added.new.self s.ensures.value s.ensures.front_len)
    ∙ ap (set (symbols_in ws) (i + 1)) (c.put_added.ensures.is ∙ rw (after.field, before.symbols, c.planes_at-other.ensures.is, c.set.ensures, c.support.ensures.places, c.coefficients.ensures.entries) refl)

pub returns-clause-over : goal.returns-clause-over
returns-clause-over c =
    let s = c.split_at_mut-before in
    let ws = c.args.words.now in
    let i = c.args.i in
    let C = c.args.sets.now in
    let after = after_cut C ws s.result.0.now s.result.1.now (i + 1) c.index-rest-0.result c.requires.over s.ensures.value s.ensures.front_len c.requires.many in
    over_put C ws _ (i + 1) c.put_added.new.self (cut_put ws s.result.0.now s.result.1.now (i + 1) c.put_added.new.self s.ensures.value s.ensures.front_len) (c.put_added.ensures.field ∙ after.field) c.requires.over

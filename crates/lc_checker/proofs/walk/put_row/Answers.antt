use Rattle.std.proofs.Common.{◌+◌, ◌<◌, [], length, slice_index_or, refl, sym, ap, ◌∙◌, arith}
use Rattle.lc_vec.proofs.PartLaws.{part_before, part_after, part_put}
use Rattle.lc_checker.proofs.WalkLaws.{sums_put}
use Rattle.lc_checker.proofs.walk.put_row.Goals as goal

pub put_sum-requires-clause-to : goal.put_sum-requires-clause-to
put_sum-requires-clause-to c =
    let s = c.split_at_mut-before in
    let ws = c.args.sums.now in
    let i = c.args.depth in
    let l : i < length ws = omega (arith, c.requires.many) in
    let after = part_after ws s.result.0.now s.result.1.now (i + 1) c.index-rest-0.result s.ensures.value s.ensures.front_len c.requires.many s.ensures.back_len in
    let before = part_before ws s.result.0.now s.result.1.now i c.index-before-depth.result s.ensures.value (omega (arith, s.ensures.front_len)) in
    ap length after ∙ (c.requires.sums.words (i + 1) c.requires.many).long ∙ sym (c.requires.sums.words i l).long ∙ sym (ap length (c.symbols.ensures.are ∙ before))

pub put_sum-requires-clause-lengths : goal.put_sum-requires-clause-lengths
put_sum-requires-clause-lengths c =
    let s = c.split_at_mut-before in
    let l : c.args.depth < length c.args.sums.now = omega (arith, c.requires.many) in
    let before = part_before c.args.sums.now s.result.0.now s.result.1.now c.args.depth c.index-before-depth.result s.ensures.value (omega (arith, s.ensures.front_len)) in
    ap length (c.symbols.ensures.are ∙ before) ∙ (c.requires.sums.words c.args.depth l).long ∙ sym c.row.ensures.word.long

pub put_sum-requires-clause-word : goal.put_sum-requires-clause-word
put_sum-requires-clause-word c =
    let s = c.split_at_mut-before in
    let l : c.args.depth < length c.args.sums.now = omega (arith, c.requires.many) in
    let before = part_before c.args.sums.now s.result.0.now s.result.1.now c.args.depth c.index-before-depth.result s.ensures.value (omega (arith, s.ensures.front_len)) in
    rw (c.symbols.ensures.are ∙ before, c.field.ensures.is) (c.requires.sums.words c.args.depth l).fits

pub returns : goal.returns
returns c =
    let s = c.split_at_mut-before in
    let before = part_before c.args.sums.now s.result.0.now s.result.1.now c.args.depth c.index-before-depth.result s.ensures.value (omega (arith, s.ensures.front_len)) in
    let put = part_put c.args.sums.now s.result.0.now s.result.1.now (c.args.depth + 1) c.put_sum.new.self s.ensures.value s.ensures.front_len ∙ rw (c.put_sum.ensures.is, c.symbols.ensures.are ∙ before, c.row.ensures.is, c.field.ensures.is) refl in
    let g = slice_index_or c.args.rows.now.rows c.args.place [] in
    let t = sums_put c.args.rows.now c.args.depth c.args.c g c.args.sums.now _ c.requires.sums (rw c.row.ensures.is at c.row.ensures.word) c.requires.many put in
    record { is = t.is; sums = t.sums; kept = t.kept }

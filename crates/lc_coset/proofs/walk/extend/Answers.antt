use Rattle.std.proofs.Common.{◌+◌, refl, ◌∙◌, arith}
use Rattle.lc_vec.proofs.PartLaws.{part_before, part_put}
use Rattle.lc_coset.proofs.walk.extend.Goals as goal

pub returns : goal.returns
returns c =
    let s = c.split_at_mut-before in
    let before = part_before c.args.sums.now s.result.0.now s.result.1.now c.args.i c.index-before-i.result s.ensures.value (omega (arith, s.ensures.front_len)) in
    record { is = part_put c.args.sums.now s.result.0.now s.result.1.now (c.args.i + 1) c.put_multiple.new.to s.ensures.value s.ensures.front_len ∙ rw (c.put_multiple.ensures.is, c.symbols.ensures.are ∙ before, c.row_of-row.ensures.is, c.field.ensures.is, c.support.ensures.places, c.coefficients.ensures.entries) refl }

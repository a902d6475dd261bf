use Rattle.lc_poly.proofs.DivisionLaws.{x_power_kept}
use Rattle.lc_poly.proofs.arithmetic.x_power_list.Goals as goal

pub returns : goal.returns
returns c = x_power_kept c.args.field.now c.args.n c.in_ok-list.list.items c.deref_mut.result.now c.write_ends.new.list c.neg.result _ c.requires.least c.in_ok-list.ensures c.deref_mut.ensures.value c.neg.ensures.is c.write_ends.ensures c.deref_mut.ensures.len

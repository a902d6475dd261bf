use Rattle.lc_field.proofs.LogarithmLaws.{inverse_read}
use Rattle.lc_field.proofs.logarithms.Logarithms.inv.Goals as goal

pub returns : goal.returns
returns c = record { is = inverse_read _ _ _ _ _ _ _ _ c.self.view_is c.self.invariant.0 c.self.invariant.1 c.self.invariant.2 c.index.ensures c.index-2.ensures c.requires.nonzero c.requires.element }

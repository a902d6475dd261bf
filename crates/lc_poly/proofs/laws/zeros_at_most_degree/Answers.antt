use Rattle.lc_poly.proofs.ZeroLaws.{zeros_at_most}
use Rattle.lc_poly.proofs.laws.zeros_at_most_degree.Goals as goal

pub returns : goal.returns
returns c = record { at_most = λ u xs p n d z. zeros_at_most c.args.field u xs p n d z }

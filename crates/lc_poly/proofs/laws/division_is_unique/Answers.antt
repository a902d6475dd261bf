use Rattle.lc_poly.proofs.DivisionLaws.{division_unique}
use Rattle.lc_poly.proofs.laws.division_is_unique.Goals as goal

pub returns : goal.returns
returns c = record { unique = λ a b q r p s hb d e. division_unique c.args.field a b q r p s hb d e }
